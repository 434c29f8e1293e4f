-- The turn of an event of the core is one of the course.
use Rattle.std.proofs.Common.{◌≡◌, ◌∙◌, ◌+◌, ◌≤◌, ◌<◌, inl, inr, ℕ, zero, suc, max, Bool, true, false, ◌||◌, List, [], ◌∷◌, ◌++◌, length, take, drop, map, filter, nat_lt, cond, Option, Some, None, Result, Ok, Err, refl, sym, ap, subst, arith, append_assoc, length-append}
use Rattle.std.specs.Bool.{MatchBool}
use Rattle.std.specs.List.{list_any}
use Rattle.std.proofs.lemmas.Bool.{le-ltb, lt-ltb}
use Rattle.std.proofs.lemmas.List.{length-map, map-append}
use Rattle.std.proofs.lemmas.List.Elements.{filter-append}
use Rattle.lw_types.specs.Answer.{Answers, AnswersWithMemory}
use Rattle.lw_types.specs.declared.refusal.Refusal.{Refusal}
use Rattle.lw_types.specs.declared.refusal.Refusal.TheVariants.{Backlog, OutOfMemory, UnknownChannel}
use Rattle.lw_types.specs.declared.frame_copy.FrameCopy.{FrameCopy}
use Rattle.devices.specs.declared.command.Command.{Command}
use Rattle.devices.specs.declared.command.Command.TheVariants.{Heard}
use Rattle.dedup.specs.Groups.{Arrival, groups}
use Rattle.dedup.specs.Windows.{Window, windows_with, window_of_group, is_due}
use Rattle.session_core.specs.State.{DecisionsState, IsLawful}
use Rattle.session_core.specs.Deciding.{verdict_of}
use Rattle.session_core.specs.Core.{CoreState, with_outcome}
use Rattle.session_core.specs.Events.{Asks, Closes, ClosesOldest, Hears, Starves, Ticks, has_due, core_at_moment, IsHeard as IsCoreHeard, IsTurn as IsCoreTurn}
use Rattle.session_core.specs.declared.turn.Turn.{Turn}
use Rattle.sessions.specs.Table.{TableStep}
use Rattle.store.specs.State.{StoreState}
use Rattle.world.specs.Folding.{RunLaws}
use Rattle.world.specs.declared.commit.Pipeline.{Pipeline}
use Rattle.session_core.specs.declared.event.Event.{Event}
use Rattle.session_core.specs.declared.event.Event.TheVariants as events
use Rattle.world.specs.Course.{Origin, Course, after_commands, at_moment, window_command, due_frames, after_copy, with_closings, after_event, step_if_room, after_command, course_windows}
use Rattle.world.specs.Answers.{IsAsked, IsCopyAnswer, IsOwnRight, IsTurnAnswer}
use Rattle.world.specs.declared.links.Links.{Links}
use Rattle.world.specs.Follows.{IsLife, IsListening}
use Rattle.world.proofs.Shapes.{admit-shape, same-life}
use Rattle.world.proofs.Deciding.{answered, becomes, with-memory}

-- ---- lists

take_front : {X : Type 0} (xs ys : List X) → take (length xs) (xs ++ ys) ≡ xs
take_front [] ys = refl
take_front (x ∷ xs) ys = ap (λ l. x ∷ l) (take_front xs ys)

drop_front : {X : Type 0} (xs ys : List X) → drop (length xs) (xs ++ ys) ≡ ys
drop_front [] ys = refl
drop_front (x ∷ xs) ys = drop_front xs ys

admit_on : (origin : Origin) (c : Course) (first second : List Command) → after_commands origin c (first ++ second) ≡ after_commands origin (after_commands origin c first) second
admit_on origin c [] second = refl
admit_on origin c (command ∷ first) second = admit_on origin (after_command c command (step_if_room origin c command)) first second

take_within : {X : Type 0} (n : ℕ) (xs ys : List X) → n ≤ length xs → take n (xs ++ ys) ≡ take n xs
take_within zero xs ys within = refl
take_within (suc n) [] ys within = absurd (below within)
  where
    below : suc n ≤ 0 → ⊥
    below h = omega arith
take_within (suc n) (x ∷ xs) ys within = ap (λ l. x ∷ l) (take_within n xs ys (omega arith))

take_whole : {X : Type 0} (xs : List X) → take (length xs) xs ≡ xs
take_whole [] = refl
take_whole (x ∷ xs) = ap (λ l. x ∷ l) (take_whole xs)

drop_nil : {X : Type 0} (n : ℕ) → ◌≡◌ {A = List X} (drop n []) []
drop_nil zero = refl
drop_nil (suc n) = refl

drop_sum : {X : Type 0} (a b : ℕ) (xs : List X) → drop (a + b) xs ≡ drop b (drop a xs)
drop_sum zero b xs = let none : 0 + b ≡ b = omega arith in ap (λ m. drop m xs) none
drop_sum {X} (suc a) b [] =
    let next : suc a + b ≡ suc (a + b) = omega arith in
    let behind : ℕ → List X = λ m. drop m [] in
    ap behind next ∙ sym (drop_nil b)
drop_sum (suc a) b (x ∷ xs) = let next : suc a + b ≡ suc (a + b) = omega arith in ap (λ m. drop m (x ∷ xs)) next ∙ drop_sum a b xs

-- commands change nothing of what a core hears
pub admit-clock : (origin : Origin) (c : Course) (commands : List Command) → (after_commands origin c commands).clock ≡ c.clock
admit-clock origin c commands = ap (λ (k : Course). k.clock) (admit-shape origin c commands)

pub admit-shut : (origin : Origin) (c : Course) (commands : List Command) → (after_commands origin c commands).shut ≡ c.shut
admit-shut origin c commands = ap (λ (k : Course). k.shut) (admit-shape origin c commands)

pub admit-arrivals : (origin : Origin) (c : Course) (commands : List Command) → (after_commands origin c commands).arrivals ≡ c.arrivals
admit-arrivals origin c commands = ap (λ (k : Course). k.arrivals) (admit-shape origin c commands)

shut_then : (n : ℕ) (c : Course) (command : Command) (outcome : Result TableStep Refusal) → with_closings n (after_command c command outcome) ≡ after_command (with_closings n c) command outcome
shut_then n c command (Ok st) = refl
shut_then n c command (Err e) = refl

-- ---- answers

pub with-less-memory : (P : List Window → Unit {0} → Type 0) (found : Result (List Window) Refusal) (result : Result (Unit {0}) Refusal) → Answers found P result
    → AnswersWithMemory found (λ _ _. Unit {0}) result
with-less-memory P (Ok ws) (Ok done) h = tt
with-less-memory P (Ok ws) (Err e) h = inl h
with-less-memory P (Err why) (Ok done) h = absurd (no_refusal why h)
  where
    no_refusal : (why : Refusal) → ◌≡◌ {A = Result (Unit {0}) Refusal} (Ok done) (Err why) → ⊥
    no_refusal why h = cc
with-less-memory P (Err why) (Err e) h = inr (same why e h)
  where
    same : (why e : Refusal) → ◌≡◌ {A = Result (Unit {0}) Refusal} (Err e) (Err why) → ◌≡◌ {A = Result (List Window) Refusal} (Err why) (Err e)
    same why e h = ap (λ (k : Refusal). Err k) (one why e h)
      where
        one : (why e : Refusal) → ◌≡◌ {A = Result (Unit {0}) Refusal} (Err e) (Err why) → why ≡ e
        one why e h = cc

refused_as : (refused : Option Refusal) (e : Refusal) → verdict_of refused ≡ Err e → refused ≡ Some e
refused_as None e h = absurd (no_refusal e h)
  where
    no_refusal : (e : Refusal) → ◌≡◌ {A = Result (Unit {0}) Refusal} (Ok tt) (Err e) → ⊥
    no_refusal e h = cc
refused_as (Some why) e h = ap Some (one why e h)
  where
    one : (why e : Refusal) → ◌≡◌ {A = Result (Unit {0}) Refusal} (Err why) (Err e) → why ≡ e
    one why e h = cc

nothing_due : (now : ℕ) (ws : List Window) → list_any (is_due now) ws ≡ false → filter (is_due now) ws ≡ []
nothing_due now [] none = refl
nothing_due now (w ∷ ws) none = by (is_due now w) none (λ rest. nothing_due now ws rest)
  where
    no : true ≡ false → ⊥
    no h = cc

    by : (b : Bool) → (b || list_any (is_due now) ws) ≡ false → (list_any (is_due now) ws ≡ false → filter (is_due now) ws ≡ [])
        → cond b (w ∷ filter (is_due now) ws) (filter (is_due now) ws) ≡ []
    by true none rest = absurd (no none)
    by false none rest = rest none

some_due : (now : ℕ) (ws : List Window) → list_any (is_due now) ws ≡ true → 0 < length (filter (is_due now) ws)
some_due now [] some = absurd (no some)
  where
    no : false ≡ true → ⊥
    no h = cc
some_due now (w ∷ ws) some = by (is_due now w) some (λ rest. some_due now ws rest)
  where
    by : (b : Bool) → (b || list_any (is_due now) ws) ≡ true → (list_any (is_due now) ws ≡ true → 0 < length (filter (is_due now) ws))
        → 0 < length (cond b (w ∷ filter (is_due now) ws) (filter (is_due now) ws))
    by true some rest = omega arith
    by false some rest = rest some

lt_true : (a b : ℕ) → a < b → nat_lt a b ≡ true
lt_true a b h = lt-ltb a b h

lt_false : (a b : ℕ) → b ≤ a → nat_lt a b ≡ false
lt_false a b h = le-ltb a b h

outcome_decisions : (s : CoreState) (d : DecisionsState) (r : Result (Unit {0}) Refusal) → (with_outcome s d r).decisions ≡ d
outcome_decisions s d (Ok done) = refl
outcome_decisions s d (Err OutOfMemory) = refl
outcome_decisions s d (Err refusal) = refl

outcome_windows : (s : CoreState) (d : DecisionsState) (r : Result (Unit {0}) Refusal) → (with_outcome s d r).windows ≡ s.windows
outcome_windows s d (Ok done) = refl
outcome_windows s d (Err OutOfMemory) = refl
outcome_windows s d (Err refusal) = refl

pub outcome-clock : (s : CoreState) (d : DecisionsState) (r : Result (Unit {0}) Refusal) → (with_outcome s d r).clock ≡ s.clock
outcome-clock s d (Ok done) = refl
outcome-clock s d (Err OutOfMemory) = refl
outcome-clock s d (Err refusal) = refl

outcome_closings : (s : CoreState) (d : DecisionsState) (r : Result (Unit {0}) Refusal) → (with_outcome s d r).closings ≡ s.closings
outcome_closings s d (Ok done) = refl
outcome_closings s d (Err OutOfMemory) = refl
outcome_closings s d (Err refusal) = refl

-- ---- closings

module _ (laws : RunLaws) (origin : Origin) (s : StoreState) (commit : Pipeline) where
  -- the same life once a copy was accepted, or wasn't
  pub at-listened : (c : Course) (core : DecisionsState) (copy : FrameCopy) (refused : Option Refusal) → IsLife origin c s core commit → IsLife origin (after_copy copy refused c) s core commit
  at-listened c core copy None f = same-life f
  at-listened c core copy (Some e) f = f

  -- this number of windows were closed, and their frames were gone through
  pub record Shut (c : Course) (old new : CoreState) (n : ℕ) : Type 0 where
    pub front : List Window
    pub windows : old.windows ≡ front ++ new.windows
    pub count : length front ≡ n
    pub due : filter (is_due old.clock) front ≡ front
    pub clock : new.clock ≡ old.clock
    pub life : IsLife origin (after_commands origin c (map window_command front)) s new.decisions commit
    pub lawful : IsLawful new.decisions

  shut_none : (c : Course) (old : CoreState) → IsLife origin c s old.decisions commit → IsLawful old.decisions → Shut c old old 0
  shut_none c old f lawful = record { front = []; windows = refl; count = refl; due = refl; clock = refl; life = f; lawful = lawful }

  shut_more : (c : Course) (old before new : CoreState) (n : ℕ) → Shut c old before n → ClosesOldest before new → Shut c old new (suc n)
  shut_more c old before new n so one =
      let hands = one.handed_in in
      let window = hands.oldest.window in
      let rest = hands.rest in
      let d = hands.handled.decisions in
      let command = window_command window in
      let there = after_commands origin c (map window_command so.front) in
      let is_command : Heard hands.heard ≡ command = ap Heard hands.oldest.heard_in_it in
      let became = becomes laws origin there s before.decisions commit so.lawful so.life (Heard hands.heard) one.result d hands.handled.kept in
      let gone_on : IsLife origin (after_command there command (step_if_room origin there command)) s d commit =
      subst (λ k. IsLife origin (after_command there k (step_if_room origin there k)) s d commit) is_command
      (subst (λ k. IsLife origin k s d commit) (with-memory there (Heard hands.heard) (step_if_room origin there (Heard hands.heard)) one.result one.there_was_memory) became.1.1) in
      let decisions : new.decisions ≡ d =
      ap (λ (k : CoreState). k.decisions) one.new_is ∙ (ap (λ (k : CoreState). k.decisions) hands.handled.new_is ∙ outcome_decisions before d one.result) in
      let windows : new.windows ≡ rest = ap (λ (k : CoreState). k.windows) one.new_is in
      let clock : new.clock ≡ before.clock =
      ap (λ (k : CoreState). k.clock) one.new_is ∙ (ap (λ (k : CoreState). k.clock) hands.handled.new_is ∙ outcome-clock before d one.result) in
      let is_due_then : is_due old.clock window ≡ true = ap (λ now. is_due now window) (sym so.clock) ∙ hands.oldest.due in
      record {
        front = so.front ++ window ∷ [];
        windows =
            so.windows ∙ (ap (λ l. so.front ++ l) (hands.oldest.oldest ∙ ap (λ l. window ∷ l) (sym windows)) ∙ sym (append_assoc so.front (window ∷ []) new.windows));
        count = (let longer = length-append so.front (window ∷ []) in let so_many = so.count in omega (arith, longer, so_many));
        due =
            filter-append (is_due old.clock) so.front (window ∷ [])
            ∙ (ap (λ l. l ++ filter (is_due old.clock) (window ∷ [])) so.due ∙ ap (λ b. so.front ++ cond b (window ∷ []) []) is_due_then);
        clock = clock ∙ so.clock;
        life =
            subst (λ k. IsLife origin k s new.decisions commit)
            (sym (ap (after_commands origin c) (map-append window_command so.front (window ∷ [])) ∙ admit_on origin c (map window_command so.front) (command ∷ [])))
            (subst (λ k. IsLife origin (after_command there command (step_if_room origin there command)) s k commit) (sym decisions) gone_on);
        lawful = subst IsLawful (sym decisions) hands.handled.kept.lawful;
      }

  shut_all : (c : Course) (n : ℕ) (old new : CoreState) → Closes n old new → IsLife origin c s old.decisions commit → IsLawful old.decisions → Shut c old new n
  shut_all c zero old new h f lawful = subst (λ (k : CoreState). Shut c old k 0) (sym h) (shut_none c old f lawful)
  shut_all c (suc n) old new h f lawful = shut_more c old h.0 new n (shut_all c n old h.0 h.1 f lawful) h.2

  -- ---- the windows of an event

  -- what is known after its closings
  pub record Closed (c : Course) (moment : ℕ) (between : CoreState) : Type 0 where
    pub frames : List Command
    pub left : List Command
    pub all : due_frames (at_moment c moment) ≡ frames ++ left
    pub count : length frames ≡ between.closings
    pub none : has_due between ≡ false → left ≡ []
    pub some : has_due between ≡ true → 0 < length left
    pub life : IsLife origin (after_commands origin (at_moment c moment) frames) s between.decisions commit
    pub lawful : IsLawful between.decisions
    pub clock : between.clock ≡ (at_moment c moment).clock
    pub windows : between.windows ≡ drop between.closings (course_windows c)

  pub closed : (c : Course) (old : CoreState) (links : Links) (moment : ℕ) (Own : CoreState → Option Refusal → CoreState → Type 0) (turn : Turn) (new : CoreState)
      → IsLife origin c s old.decisions commit → IsListening c old links → IsLawful old.decisions → (h : IsCoreTurn old moment Own turn new) → Closed c moment h.between
  closed c old links moment Own turn new f listens lawful h =
      let now = (at_moment c moment).clock in
      let so = shut_all (at_moment c moment) h.between.closings (core_at_moment old moment) h.closed.last h.closed.closed (same-life f) lawful in
      let then : (core_at_moment old moment).clock ≡ now = ap (λ k. max k moment) listens.clock in
      let last_clock : h.closed.last.clock ≡ now = so.clock ∙ then in
      let clock : h.between.clock ≡ now = ap (λ (k : CoreState). k.clock) h.closed.new_is ∙ last_clock in
      let windows : h.between.windows ≡ h.closed.last.windows = ap (λ (k : CoreState). k.windows) h.closed.new_is in
      let decisions : h.between.decisions ≡ h.closed.last.decisions = ap (λ (k : CoreState). k.decisions) h.closed.new_is in
      let ws = h.closed.last.windows in
      let open_are : course_windows c ≡ so.front ++ ws = sym listens.windows.windows ∙ so.windows in
      let front_due : filter (is_due now) so.front ≡ so.front = ap (λ k. filter (is_due k) so.front) (sym then) ∙ so.due in
      let has : has_due h.between ≡ list_any (is_due now) ws =
      ap (λ k. list_any (is_due k) h.between.windows) clock ∙ ap (λ l. list_any (is_due now) l) windows in
      record {
        frames = map window_command so.front;
        left = map window_command (filter (is_due now) ws);
        all =
            ap (λ l. map window_command (filter (is_due now) l)) open_are
            ∙ (ap (map window_command) (filter-append (is_due now) so.front ws ∙ ap (λ l. l ++ filter (is_due now) ws) front_due)
            ∙ map-append window_command so.front (filter (is_due now) ws));
        count = length-map so.front window_command ∙ so.count;
        none = λ no. ap (map window_command) (nothing_due now ws (sym has ∙ no));
        some = λ yes. (let few = some_due now ws (sym has ∙ yes) in let same = length-map (filter (is_due now) ws) window_command in omega (arith, few, same));
        life = subst (λ k. IsLife origin (after_commands origin (at_moment c moment) (map window_command so.front)) s k commit) (sym decisions) so.life;
        lawful = subst IsLawful (sym decisions) so.lawful;
        clock = clock;
        windows =
            windows
            ∙ (sym (drop_front so.front ws)
            ∙ (ap (λ m. drop m (so.front ++ ws)) so.count ∙ ap (drop h.between.closings) (sym open_are)));
      }

  -- ---- its own

  module _ (c : Course) (moment : ℕ) (between : CoreState) (k : Closed c moment between) where
    frames_taken : take between.closings (due_frames (at_moment c moment)) ≡ k.frames
    frames_taken =
        ap (λ m. take m (due_frames (at_moment c moment))) (sym k.count) ∙ (ap (take (length k.frames)) k.all ∙ take_front k.frames k.left)

    sizes : length (due_frames (at_moment c moment)) ≡ between.closings + length k.left
    sizes = ap length k.all ∙ (length-append k.frames k.left ∙ ap (λ m. m + length k.left) k.count)

    within : between.closings ≤ length (due_frames (at_moment c moment))
    within = let all = sizes in omega (arith, all)

    all_closed : has_due between ≡ false → nat_lt between.closings (length (due_frames (at_moment c moment))) ≡ false
    all_closed none =
        let all = sizes in
        let empty = ap length (k.none none) in
        lt_false between.closings (length (due_frames (at_moment c moment))) (omega (arith, all, empty))

    some_left : has_due between ≡ true → nat_lt between.closings (length (due_frames (at_moment c moment))) ≡ true
    some_left some =
        let all = sizes in
        let few = k.some some in
        lt_true between.closings (length (due_frames (at_moment c moment))) (omega (arith, all, few))

    -- the end of the event's own turn
    abbrev there : Course
    there = with_closings between.closings (after_commands origin (at_moment c moment) (take between.closings (due_frames (at_moment c moment))))

    there_life : IsLife origin there s between.decisions commit
    there_life =
        same-life (subst (λ l. IsLife origin (after_commands origin (at_moment c moment) l) s between.decisions commit) (sym frames_taken) k.life)

    abbrev Own : Event → Option Refusal → Type 0
    Own event refused =
        MatchBool (nat_lt between.closings (length (due_frames (at_moment c moment)))) (refused ≡ Some OutOfMemory) (IsOwnRight origin there event refused)

    own_done : (event : Event) (refused : Option Refusal) → has_due between ≡ false → IsOwnRight origin there event refused → Own event refused
    own_done event refused none own = subst (λ b. MatchBool b (refused ≡ Some OutOfMemory) (IsOwnRight origin there event refused)) (sym (all_closed none)) own

    own_starved : (event : Event) (refused : Option Refusal) → has_due between ≡ true → refused ≡ Some OutOfMemory → Own event refused
    own_starved event refused some own = subst (λ b. MatchBool b (refused ≡ Some OutOfMemory) (IsOwnRight origin there event refused)) (sym (some_left some)) own

    -- the answer to an event, and the life after it
    abbrev Turns : Event → Turn → ℕ → DecisionsState → Type 0
    Turns event turn closings decisions =
        IsTurnAnswer origin c moment event turn closings × IsLife origin (after_event origin c moment event turn.refused closings) s decisions commit

    turns : (event : Event) (turn : Turn) (decisions : DecisionsState) → turn.from ≡ c.made → turn.to ≡ decisions.made → Own event turn.refused
        → IsLife origin (after_event origin c moment event turn.refused between.closings) s decisions commit → Turns event turn between.closings decisions
    turns event turn decisions from to own life = (record { from = from; to = to ∙ life.made; within = within; own = own }, life)

    -- of a moment alone
    pub turns-ticked : (new : CoreState) (turn : Turn) → MatchBool (has_due between) (Starves between turn.refused new) (Ticks between turn.refused new)
        → turn.from ≡ c.made → turn.to ≡ new.decisions.made → Turns events.Tick turn new.closings new.decisions
    turns-ticked new turn own from to = by (has_due between) refl own
      where
        done : new ≡ between → Own events.Tick turn.refused → Turns events.Tick turn new.closings new.decisions
        done same own =
            subst (λ (n : CoreState). Turns events.Tick turn n.closings n.decisions) (sym same)
            (turns events.Tick turn between.decisions from (to ∙ ap (λ (n : CoreState). n.decisions.made) same) own there_life)

        by : (b : Bool) → has_due between ≡ b → MatchBool b (Starves between turn.refused new) (Ticks between turn.refused new)
            → Turns events.Tick turn new.closings new.decisions
        by true is own = done own.1 (own_starved events.Tick turn.refused is own.0)
        by false is own = done own.1 (own_done events.Tick turn.refused is own.0)

    -- of a copy for which there was no memory
    pub turns-missed : (copy : FrameCopy) (new : CoreState) (turn : Turn) → MatchBool (has_due between) (Starves between turn.refused new) (Starves between turn.refused new)
        → turn.from ≡ c.made → turn.to ≡ new.decisions.made → Turns (events.Hear copy) turn new.closings new.decisions
    turns-missed copy new turn own from to = by (has_due between) refl own
      where
        missed : (refused : Option Refusal) → refused ≡ Some OutOfMemory → IsCopyAnswer there copy refused
        missed refused is = subst (IsCopyAnswer there copy) (sym is) (record { receivable = λ _. inl refl; unknown = λ _. inr refl })

        done : new ≡ between → turn.refused ≡ Some OutOfMemory → Own (events.Hear copy) turn.refused → Turns (events.Hear copy) turn new.closings new.decisions
        done same is own =
            subst (λ (n : CoreState). Turns (events.Hear copy) turn n.closings n.decisions) (sym same)
            (turns (events.Hear copy) turn between.decisions from (to ∙ ap (λ (n : CoreState). n.decisions.made) same) own
            (at-listened there between.decisions copy turn.refused there_life))

        by : (b : Bool) → has_due between ≡ b → MatchBool b (Starves between turn.refused new) (Starves between turn.refused new)
            → Turns (events.Hear copy) turn new.closings new.decisions
        by true is own = done own.1 own.0 (own_starved (events.Hear copy) turn.refused is own.0)
        by false is own = done own.1 own.0 (own_done (events.Hear copy) turn.refused is (missed turn.refused own.0))

    -- of a copy
    there_clock : between.clock ≡ there.clock
    there_clock = k.clock ∙ sym (admit-clock origin (at_moment c moment) (take between.closings (due_frames (at_moment c moment))))

    there_windows : between.windows ≡ course_windows there
    there_windows =
        let before = at_moment c moment in
        let commands = take between.closings (due_frames before) in
        k.windows
        ∙ (sym (drop_sum c.shut between.closings (map window_of_group (groups c.arrivals)))
        ∙ (ap (λ m. drop (m + between.closings) (map window_of_group (groups c.arrivals))) (sym (admit-shut origin before commands))
        ∙ ap (λ (l : List Arrival). drop ((after_commands origin before commands).shut + between.closings) (map window_of_group (groups l))) (sym (admit-arrivals origin before commands))))

    heard_right : (copy : FrameCopy) (refused : Option Refusal) (new : CoreState) → IsCoreHeard copy between (verdict_of refused) new → IsCopyAnswer there copy refused
    heard_right copy refused new own =
        record {
          receivable = λ is.
              subst (λ ws. AnswersWithMemory (windows_with ws there.clock copy) (λ _ _. Unit {0}) (verdict_of refused)) there_windows
              (subst (λ now. AnswersWithMemory (windows_with between.windows now copy) (λ _ _. Unit {0}) (verdict_of refused)) there_clock
              (with-less-memory _ (windows_with between.windows between.clock copy) (verdict_of refused) (own.receivable is)));
          unknown = λ no. inl (refused_as refused UnknownChannel (own.unknown no));
        }

    -- what it leaves of the decisions
    heard_keeps : (copy : FrameCopy) (refused : Option Refusal) (new : CoreState) → IsCoreHeard copy between (verdict_of refused) new
        → (new.decisions ≡ between.decisions) × (new.closings ≡ between.closings)
    heard_keeps copy (Some e) new own = (ap (λ (n : CoreState). n.decisions) own.same, ap (λ (n : CoreState). n.closings) own.same)
    heard_keeps copy None new own = by (windows_with between.windows between.clock copy) (own.receivable own.known)
      where
        by : (found : Result (List Window) Refusal) → Answers {A = List Window} {B = Unit {0}} found (λ ws _. new ≡ record between { windows = ws }) (Ok tt)
            → (new.decisions ≡ between.decisions) × (new.closings ≡ between.closings)
        by (Ok ws) h = (ap (λ (n : CoreState). n.decisions) h, ap (λ (n : CoreState). n.closings) h)
        by (Err e) h = absurd (no_refusal e h)
          where
            no_refusal : (e : Refusal) → ◌≡◌ {A = Result (Unit {0}) Refusal} (Ok tt) (Err e) → ⊥
            no_refusal e h = cc

    pub turns-heard : (copy : FrameCopy) (new : CoreState) (turn : Turn) → MatchBool (has_due between) (Starves between turn.refused new) (Hears copy between turn.refused new)
        → turn.from ≡ c.made → turn.to ≡ new.decisions.made → Turns (events.Hear copy) turn new.closings new.decisions
    turns-heard copy new turn own from to = by (has_due between) refl own
      where
        done : new.decisions ≡ between.decisions → new.closings ≡ between.closings → Own (events.Hear copy) turn.refused
            → Turns (events.Hear copy) turn new.closings new.decisions
        done decisions closings own =
            subst (λ m. Turns (events.Hear copy) turn m new.decisions) (sym closings)
            (subst (Turns (events.Hear copy) turn between.closings) (sym decisions)
            (turns (events.Hear copy) turn between.decisions from (to ∙ ap (λ (d : DecisionsState). d.made) decisions) own
            (at-listened there between.decisions copy turn.refused there_life)))

        by : (b : Bool) → has_due between ≡ b → MatchBool b (Starves between turn.refused new) (Hears copy between turn.refused new)
            → Turns (events.Hear copy) turn new.closings new.decisions
        by true is own =
            done (ap (λ (n : CoreState). n.decisions) own.1) (ap (λ (n : CoreState). n.closings) own.1) (own_starved (events.Hear copy) turn.refused is own.0)
        by false is own =
            let kept = heard_keeps copy turn.refused new own in
            done kept.0 kept.1 (own_done (events.Hear copy) turn.refused is (heard_right copy turn.refused new own))

    -- of a command
    abbrev frames_then : List Command
    frames_then = due_frames (at_moment c moment)

    pub asked-none : (command : Command) → after_event origin c moment (events.Ask command) (Some OutOfMemory) between.closings ≡ there
    asked-none command =
        let none : between.closings + 0 ≡ between.closings = omega arith in
        ap (λ l. with_closings between.closings (after_commands origin (at_moment c moment) l))
        (ap (λ m. take m (frames_then ++ command ∷ [])) none ∙ take_within between.closings frames_then (command ∷ []) within)

    asked_one : (command : Command) → has_due between ≡ false
        → with_closings between.closings (after_commands origin (at_moment c moment) (take (between.closings + 1) (frames_then ++ command ∷ [])))
        ≡ after_command there command (step_if_room origin there command)
    asked_one command none =
        let before = at_moment c moment in
        let size : length frames_then ≡ between.closings = (let all = sizes in let empty = ap length (k.none none) in omega (arith, all, empty)) in
        let whole : take between.closings frames_then ≡ frames_then = ap (λ m. take m frames_then) (sym size) ∙ take_whole frames_then in
        let longer = length-append frames_then (command ∷ []) in
        let count : between.closings + 1 ≡ length (frames_then ++ command ∷ []) = omega (arith, longer, size) in
        let taken : take (between.closings + 1) (frames_then ++ command ∷ []) ≡ take between.closings frames_then ++ command ∷ [] =
        ap (λ m. take m (frames_then ++ command ∷ [])) count ∙ (take_whole (frames_then ++ command ∷ []) ∙ ap (λ l. l ++ command ∷ []) (sym whole)) in
        ap (λ l. with_closings between.closings (after_commands origin before l)) taken
        ∙ (ap (with_closings between.closings) (admit_on origin before (take between.closings frames_then) (command ∷ []))
        ∙ shut_then between.closings (after_commands origin before (take between.closings frames_then)) command (step_if_room origin (after_commands origin before (take between.closings frames_then)) command))

    asked_then : (command : Command) (refused : Option Refusal) → has_due between ≡ false
        → after_event origin c moment (events.Ask command) refused between.closings ≡ answered there command (step_if_room origin there command) (verdict_of refused)
    asked_then command None none = asked_one command none
    asked_then command (Some OutOfMemory) none = asked-none command
    asked_then command (Some e) none = asked_one command none

    pub turns-asked : (command : Command) (new : CoreState) (turn : Turn) → MatchBool (has_due between) (Starves between turn.refused new) (Asks command between turn.refused new)
        → turn.from ≡ c.made → turn.to ≡ new.decisions.made → Turns (events.Ask command) turn new.closings new.decisions
    turns-asked command new turn own from to = by (has_due between) refl own
      where
        done : new.closings ≡ between.closings → Own (events.Ask command) turn.refused
            → IsLife origin (after_event origin c moment (events.Ask command) turn.refused between.closings) s new.decisions commit
            → Turns (events.Ask command) turn new.closings new.decisions
        done closings own life =
            subst (λ m. Turns (events.Ask command) turn m new.decisions) (sym closings)
            (turns (events.Ask command) turn new.decisions from to own life)

        starved : (refused : Option Refusal) → refused ≡ Some OutOfMemory → new ≡ between
            → IsLife origin (after_event origin c moment (events.Ask command) refused between.closings) s new.decisions commit
        starved refused is same =
            subst (λ r. IsLife origin (after_event origin c moment (events.Ask command) r between.closings) s new.decisions commit) (sym is)
            (subst (λ q. IsLife origin q s new.decisions commit) (sym (asked-none command))
            (subst (λ (n : CoreState). IsLife origin there s n.decisions commit) (sym same) there_life))

        by : (b : Bool) → has_due between ≡ b → MatchBool b (Starves between turn.refused new) (Asks command between turn.refused new)
            → Turns (events.Ask command) turn new.closings new.decisions
        by true is own =
            done (ap (λ (n : CoreState). n.closings) own.1) (own_starved (events.Ask command) turn.refused is own.0) (starved turn.refused own.0 own.1)
        by false is own =
            let d = own.decisions in
            let became = becomes laws origin there s between.decisions commit k.lawful there_life command (verdict_of turn.refused) d own.kept in
            let decisions : new.decisions ≡ d = ap (λ (n : CoreState). n.decisions) own.new_is ∙ outcome_decisions between d (verdict_of turn.refused) in
            let closings : new.closings ≡ between.closings = ap (λ (n : CoreState). n.closings) own.new_is ∙ outcome_closings between d (verdict_of turn.refused) in
            let asked : IsAsked origin there command turn.refused =
            record { full = λ none. refused_as turn.refused Backlog (became.0 none); decided = became.1.0 } in
            done closings (own_done (events.Ask command) turn.refused is asked)
            (subst (λ (e : DecisionsState). IsLife origin (after_event origin c moment (events.Ask command) turn.refused between.closings) s e commit) (sym decisions)
            (subst (λ q. IsLife origin q s d commit) (sym (asked_then command turn.refused is)) became.1.1))
