-- What events and commands do to a course.
use Rattle.std.proofs.Common.{◌≡◌, ◌≢◌, ◌∙◌, inl, inr, Bool, true, false, MatchBool, cond, ℕ, ◌+◌, List, [], ◌∷◌, ◌++◌, length, take, Option, Some, None, Result, MatchResult, IfOk, Ok, Err, ap, subst, sym, refl, arith, nat_lt}
use Rattle.std.proofs.lemmas.Bool.{le-ltb}
use Rattle.std.proofs.Math.Seq.{take-append-add, take-length}
use Rattle.std.specs.Result.{result_err}
use Rattle.lw_types.specs.Answer.{Answers, AnswersWithMemory}
use Rattle.lw_types.specs.declared.frame_copy.FrameCopy.{FrameCopy}
use Rattle.lw_types.specs.declared.refusal.Refusal.{Refusal}
use Rattle.lw_types.specs.declared.refusal.Refusal.TheVariants.{Backlog, OutOfMemory, UnknownChannel}
use Rattle.devices.specs.Heard.{IsReceivable}
use Rattle.devices.specs.declared.command.Command.{Command}
use Rattle.dedup.specs.Windows.{Window, windows_with}
use Rattle.sessions.specs.Table.{TableState, step, with_step, step_effects, with_record, TableStep}
use Rattle.sessions.specs.Decision.{AnswersTo, IsDecision, with_decision, is_frugal}
use Rattle.sessions.specs.declared.decision.Decision.{Decision}
use Rattle.devices.specs.declared.device.Device.{Device}
use Rattle.session_core.specs.Deciding.{verdict_of}
use Rattle.session_core.specs.declared.event.Event.{Event}
use Rattle.session_core.specs.declared.event.Event.TheVariants as events
use Rattle.world.specs.declared.step.Step.TheVariants.{Event as EventStep}
use Rattle.world.specs.declared.answer.Answer.TheVariants.{Turn as TurnAnswer}
use Rattle.world.specs.Answers.{IsAsked, IsCopyAnswer, IsOwnRight, IsTurnAnswer}
use Rattle.world.specs.Course.{Origin, Course, after_commands, at_moment, decided_commands, due_frames, has_room, after_copy, own_count, with_closings, table_from, after_event, step_if_room, after_command, course_windows}
use Rattle.world_model.specs.Plain.{PlainState, Goes, IsRefusal, at_course, own_after}

some_is_none : (e : Refusal) → ◌≡◌ {A = Option Refusal} (Some e) None → ⊥
some_is_none e h = cc

same_refusal : (f e : Refusal) → ◌≡◌ {A = Option Refusal} (Some e) (Some f) → f ≡ e
same_refusal f e h = cc

-- what is wanted is a right answer, whether the command is frugal or not
exact_ok : {A B : Type 0} (frugal : Bool) (x : A) (y : B) (Is : A → B → Type 0) → Is x y
    → MatchBool frugal (Answers (Ok x) Is (Ok y)) (AnswersWithMemory (Ok x) Is (Ok y))
exact_ok true x y Is h = h
exact_ok false x y Is h = h

exact_err : {A B : Type 0} (frugal : Bool) (e f : Refusal) (Is : A → B → Type 0) → e ≡ f
    → MatchBool frugal (Answers (Err e) Is (Err f)) (AnswersWithMemory (Err e) Is (Err f))
exact_err true e f Is h = ap Err (sym h)
exact_err false e f Is h = inr (ap Err h)

decides : (command : Command) (outcome : Result TableStep Refusal) (refused : Option Refusal) → IsRefusal outcome refused
    → AnswersTo command outcome (λ _ (_ : Unit {0}). Unit {0}) (verdict_of refused)
decides command (Ok s) None h = exact_ok (is_frugal command (Ok s)) s (tt {0}) (λ _ _. Unit {0}) (tt {0})
decides command (Ok s) (Some e) h = absurd (some_is_none e h)
decides command (Err e) None h = absurd (some_is_none e (sym h))
decides command (Err f) (Some e) h = exact_err (is_frugal command (Err f)) f e (λ _ _. Unit {0}) (same_refusal f e h)

-- if there is no room, Backlog is wanted
is_full : (origin : Origin) (c : Course) (command : Command) (refused : Option Refusal) → IsRefusal (step_if_room origin c command) refused
    → has_room origin c ≡ false → refused ≡ Some Backlog
is_full origin c command refused h no_room =
    subst (λ outcome. IsRefusal outcome refused) (ap (λ b. cond b (step (table_from origin (decided_commands c)) command) (Err Backlog)) no_room) h

-- a command has this answer
pub is_asked : (origin : Origin) (c : Course) (command : Command) (refused : Option Refusal) → IsRefusal (step_if_room origin c command) refused
    → IsAsked origin c command refused
is_asked origin c command refused h =
    record { full = is_full origin c command refused h; decided = decides command (step_if_room origin c command) refused h }

-- one that is refused changes nothing
pub stays : (c : Course) (command : Command) (outcome : Result TableStep Refusal) (e : Refusal) → IsRefusal outcome (Some e) → after_command c command outcome ≡ c
stays c command (Ok s) e h = absurd (some_is_none e h)
stays c command (Err f) e h = refl

-- one that isn't refused is decided
pub goes_on : (c : Course) (command : Command) (outcome : Result TableStep Refusal) → IsRefusal outcome None
    → after_command c command outcome ≡ record c { untaken = c.untaken ++ command ∷ []; made = c.made + 1 }
goes_on c command (Ok s) h = refl
goes_on c command (Err e) h = absurd (some_is_none e (sym h))

-- so an event's own command does what the course says
pub own_goes : (origin : Origin) (c : Course) (command : Command) (refused : Option Refusal) → IsRefusal (step_if_room origin c command) refused
    → after_command c command (step_if_room origin c command) ≡ own_after origin c (events.Ask command) refused
own_goes origin c command None h = refl
own_goes origin c command (Some OutOfMemory) h = stays c command (step_if_room origin c command) OutOfMemory h
own_goes origin c command (Some e) h = refl

-- ---- a copy

answered : (outcome : Result (List Window) Refusal) (refused : Option Refusal) → refused ≡ result_err outcome
    → AnswersWithMemory outcome (λ _ (_ : Unit {0}). Unit {0}) (verdict_of refused)
answered (Ok ws) None is = tt
answered (Ok ws) (Some e) is = absurd (some_is_none e is)
answered (Err f) None is = absurd (some_is_none f (sym is))
answered (Err f) (Some e) is = inr (ap Err (same_refusal f e is))

-- one on a channel has the answer that the windows give
pub is_heard : (c : Course) (copy : FrameCopy) (refused : Option Refusal) → IsReceivable copy.reception
    → refused ≡ result_err (windows_with (course_windows c) c.clock copy) → IsCopyAnswer c copy refused
is_heard c copy refused fine is =
    record { receivable = λ _. answered (windows_with (course_windows c) c.clock copy) refused is; unknown = λ wrong. absurd (wrong fine) }

-- and one that isn't is refused
pub is_unknown : (c : Course) (copy : FrameCopy) → ¬ (IsReceivable copy.reception) → IsCopyAnswer c copy (Some UnknownChannel)
is_unknown c copy wrong = record { receivable = λ fine. absurd (wrong fine); unknown = λ _. inl refl }

-- ---- an event

admit_joined : (origin : Origin) (c : Course) (first second : List Command) → after_commands origin c (first ++ second) ≡ after_commands origin (after_commands origin c first) second
admit_joined origin c [] second = refl
admit_joined origin c (command ∷ first) second = admit_joined origin (after_command c command (step_if_room origin c command)) first second

shut_first : (n : ℕ) (c : Course) (command : Command) (outcome : Result TableStep Refusal) → with_closings n (after_command c command outcome) ≡ after_command (with_closings n c) command outcome
shut_first n c command (Ok s) = refl
shut_first n c command (Err e) = refl

shut_after : (origin : Origin) (n : ℕ) (c : Course) (commands : List Command) → with_closings n (after_commands origin c commands) ≡ after_commands origin (with_closings n c) commands
shut_after origin n c [] = refl
shut_after origin n c (command ∷ rest) =
    shut_after origin n (after_command c command (step_if_room origin c command)) rest
    ∙ ap (λ (k : Course). after_commands origin k rest) (shut_first n c command (step_if_room origin c command))

-- the course once all windows that are due are closed
abbrev pub shut_at : PlainState → ℕ → PlainState
shut_at s n = at_course s (with_closings n (after_commands s.origin s.course (due_frames s.course)))

abbrev pub own_at : PlainState → Event → Option Refusal → PlainState
own_at s event refused = at_course s (own_after s.origin s.course event refused)

-- an event that closes them all then does its own
turned_is : (origin : Origin) (c : Course) (moment : ℕ) (event : Event) (refused : Option Refusal) (due : List Command) → due_frames (at_moment c moment) ≡ due
    → own_after origin (with_closings (length due) (after_commands origin (at_moment c moment) due)) event refused ≡ after_event origin c moment event refused (length due)
turned_is origin c moment (events.Hear copy) refused due is =
    ap (λ xs. after_copy copy refused (with_closings (length due) (after_commands origin (at_moment c moment) xs))) (sym (take-length due) ∙ ap (take (length due)) (sym is))
turned_is origin c moment events.Tick refused due is =
    ap (λ xs. with_closings (length due) (after_commands origin (at_moment c moment) xs)) (sym (take-length due) ∙ ap (take (length due)) (sym is))
turned_is origin c moment (events.Ask command) refused due is =
    let own = take (own_count refused) (command ∷ []) in
    let d = at_moment c moment in
    sym (shut_after origin (length due) (after_commands origin d due) own)
    ∙ ap (with_closings (length due)) (
    sym (admit_joined origin d due own)
    ∙ ap (after_commands origin d) (sym (take-append-add due (command ∷ []) (own_count refused)) ∙ ap (λ xs. take (length due + own_count refused) (xs ++ command ∷ [])) (sym is))
    )

pub when_open : (b : Bool) (X Y : Type 0) → b ≡ true → X → MatchBool b X Y
when_open b X Y is x = subst (λ b. MatchBool b X Y) (sym is) x

otherwise : (n m : ℕ) (X Y : Type 0) → m ≡ n → Y → MatchBool (nat_lt n m) X Y
otherwise n m X Y same y = subst (λ b. MatchBool b X Y) (sym (le-ltb n m (omega (arith, same)))) y

goes_at : (s : PlainState) (moment : ℕ) (event : Event) (refused : Option Refusal) → s.course.is_open ≡ true
    → (due : List Command) → due_frames (at_moment s.course moment) ≡ due
    → (k : Course) → k ≡ with_closings (length due) (after_commands s.origin (at_moment s.course moment) due)
    → IsOwnRight s.origin k event refused
    → Goes s (EventStep moment event) (TurnAnswer (record { from = s.course.made; to = (own_after s.origin k event refused).made; refused = refused }) (length due))
    (at_course s (own_after s.origin k event refused))
goes_at s moment event refused is_open due is k shut right =
    let d = at_moment s.course moment in
    let whole : own_after s.origin k event refused ≡ after_event s.origin s.course moment event refused (length due) =
    ap (λ (c : Course). own_after s.origin c event refused) shut ∙ turned_is s.origin s.course moment event refused due is in
    let all : k ≡ with_closings (length due) (after_commands s.origin d (take (length due) (due_frames d))) =
    shut ∙ ap (λ xs. with_closings (length due) (after_commands s.origin d xs)) (sym (take-length due) ∙ ap (take (length due)) (sym is)) in
    let own = subst (λ (c : Course). IsOwnRight s.origin c event refused) all right in
    let turn : IsTurnAnswer s.origin s.course moment event (record { from = s.course.made; to = (own_after s.origin k event refused).made; refused = refused }) (length due) =
    record {
      from = refl;
      to = ap (λ (c : Course). c.made) whole;
      within = omega (arith, ap length is);
      own = otherwise (length due) (length (due_frames d)) _ _ (ap length is) own;
    } in
    (when_open s.course.is_open _ _ is_open turn, (tt, ap (at_course s) whole))

-- the effective time is reached, the windows that are due are closed, and then the event itself is
-- taken
pub goes : (s0 s1 s2 s3 : PlainState) (moment : ℕ) (event : Event) (refused : Option Refusal) (from to closings : ℕ) → s0.course.is_open ≡ true
    → s1 ≡ at_course s0 (at_moment s0.course moment)
    → closings ≡ length (due_frames s1.course) → s2 ≡ shut_at s1 closings
    → IsOwnRight s2.origin s2.course event refused → s3 ≡ own_at s2 event refused
    → from ≡ s0.course.made → to ≡ s3.course.made
    → Goes s0 (EventStep moment event) (TurnAnswer (record { from = from; to = to; refused = refused }) closings) s3
goes s0 s1 s2 s3 moment event refused from to closings is_open reached counted shut right own began ended =
    let first = at_course s0 (at_moment s0.course moment) in
    let n = length (due_frames first.course) in
    let count : closings ≡ n = counted ∙ ap (λ (s : PlainState). length (due_frames s.course)) reached in
    let second : s2 ≡ shut_at first n = shut ∙ (ap (λ (s : PlainState). shut_at s closings) reached ∙ ap (shut_at first) count) in
    let third : s3 ≡ own_at (shut_at first n) event refused = own ∙ ap (λ (s : PlainState). own_at s event refused) second in
    let right_there = subst (λ (s : PlainState). IsOwnRight s.origin s.course event refused) second right in
    let whole = goes_at s0 moment event refused is_open (due_frames first.course) refl (shut_at first n).course refl right_there in
    let last : to ≡ (own_at (shut_at first n) event refused).course.made = ended ∙ ap (λ (s : PlainState). s.course.made) third in
    subst (λ (s : PlainState). Goes s0 (EventStep moment event) (TurnAnswer (record { from = from; to = to; refused = refused }) closings) s) (sym third) (
    subst (λ m. Goes s0 (EventStep moment event) (TurnAnswer (record { from = from; to = to; refused = refused }) m) (own_at (shut_at first n) event refused)) (sym count) (
    subst (λ m. Goes s0 (EventStep moment event) (TurnAnswer (record { from = from; to = m; refused = refused }) n) (own_at (shut_at first n) event refused)) (sym last) (
    subst (λ m. Goes s0 (EventStep moment event) (TurnAnswer (record { from = m; to = (own_at (shut_at first n) event refused).course.made; refused = refused }) n) (own_at (shut_at first n) event refused)) (sym began) whole
    )
    )
    )

-- ---- a result with what is known of it

pub each : {A : Type 0} (P Q : A → Type 0) (r : Result A Refusal) → ((x : A) → P x → Q x) → IfOk r P → IfOk r Q
each P Q (Ok x) f h = f x h
each P Q (Err e) f h = tt

pub both : {A : Type 0} (P Q : A → Type 0) (r : Result A Refusal) → IfOk r P → IfOk r Q → IfOk r (λ x. P x × Q x)
both P Q (Ok x) h k = (h, k)
both P Q (Err e) h k = tt

-- ---- one command on a table

-- a decision leaves the table and has the effects of its step
pub taken : (t : TableState) (c : Command) (d : Decision) (outcome : Result TableStep Refusal) → MatchResult outcome (λ s. IsDecision t 1 c s d) (λ _. ⊥)
    → (with_decision t d ≡ with_step t outcome) × (d.effects ≡ step_effects outcome)
taken t c d (Ok s) is = (ap (λ n. with_record t n d.after) is.slot ∙ ap (λ (after : Device). with_record t s.slot after) is.after, is.effects)
taken t c d (Err e) none = absurd none

module _ (command : Command) (outcome : Result TableStep Refusal) where
  pub refused_is : {B : Type 0} (Is : TableStep → B → Type 0) (e : Refusal) → e ≢ OutOfMemory → AnswersTo command outcome Is (Err e) → outcome ≡ Err e
  refused_is {B} Is e memory answers = by_frugal (is_frugal command outcome) outcome answers
    where
      same : (f : Refusal) → ◌≡◌ {A = Result B Refusal} (Err e) (Err f) → ◌≡◌ {A = Result TableStep Refusal} (Err f) (Err e)
      same f h = cc

      by_frugal : (frugal : Bool) (w : Result TableStep Refusal) → MatchBool frugal (Answers w Is (Err e)) (AnswersWithMemory w Is (Err e)) → w ≡ Err e
      by_frugal true (Ok s) is = absurd (memory is)
      by_frugal true (Err f) is = same f is
      by_frugal false w (inl is) = absurd (memory is)
      by_frugal false w (inr is) = is
