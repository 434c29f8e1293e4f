-- What pieces of a link's bytes do to a course.
use Rattle.std.proofs.Common.{◌≡◌, ◌∙◌, Bool, true, MatchBool, ℕ, List, [], ◌∷◌, ◌++◌, map, take, Option, Some, None, Result, Ok, Err, ap, subst, sym, refl, append_assoc}
use Rattle.std.proofs.lemmas.List.{append-nil}
use Rattle.lw_types.specs.declared.refusal.Refusal.{Refusal}
use Rattle.devices.specs.declared.command.Command.{Command}
use Rattle.sessions.specs.Table.{TableStep}
use Rattle.session_core.specs.declared.turn.Turn.{Turn}
use Rattle.world.specs.declared.answer.EventTurn.{EventTurn}
use Rattle.world.specs.declared.answer.Answer.TheVariants.{Turn as TurnAnswer}
use Rattle.session_core.specs.declared.event.Event.{Event}
use Rattle.session_core.specs.declared.event.Event.TheVariants as events
use Rattle.world.specs.declared.step.Step.TheVariants.{Event as EventStep}
use Rattle.world.specs.Answers.{AreTurns, IsTurnAnswer, event_of}
use Rattle.world.specs.Course.{Origin, Course, after_own_copy, after_commands, at_moment, step_commands, handed_in_count, with_closings, with_piece, after_event, after_events, step_if_room, after_command}
use Rattle.world.specs.Links.{Completes, stream_on}
use Rattle.world_model.specs.Plain.{PlainState, Goes, GoesPiece, GoesThrough, at_course}

-- ---- a store that is open stays open

went_open : (c : Course) (command : Command) (outcome : Result TableStep Refusal) → (after_command c command outcome).is_open ≡ c.is_open
went_open c command (Ok s) = refl
went_open c command (Err e) = refl

admit_open : (origin : Origin) (c : Course) (commands : List Command) → (after_commands origin c commands).is_open ≡ c.is_open
admit_open origin c [] = refl
admit_open origin c (command ∷ rest) =
    admit_open origin (after_command c command (step_if_room origin c command)) rest ∙ went_open c command (step_if_room origin c command)

accepted_open : (event : Event) (refused : Option Refusal) (c : Course) → (after_own_copy event refused c).is_open ≡ c.is_open
accepted_open (events.Hear copy) None c = refl
accepted_open (events.Hear copy) (Some e) c = refl
accepted_open events.Tick refused c = refl
accepted_open (events.Ask command) refused c = refl

turned_open : (origin : Origin) (c : Course) (moment : ℕ) (event : Event) (refused : Option Refusal) (closings : ℕ)
    → (after_event origin c moment event refused closings).is_open ≡ c.is_open
turned_open origin c moment event refused closings =
    let commands = take (handed_in_count event refused closings) (step_commands c (EventStep moment event)) in
    accepted_open event refused (with_closings closings (after_commands origin (at_moment c moment) commands)) ∙ admit_open origin (at_moment c moment) commands

-- ---- events of one moment

-- the turns so far lead to this course, which is open
abbrev pub Leads : PlainState → ℕ → List EventTurn → Course → Type 0
Leads s moment told c =
    (c.is_open ≡ true)
    × (((others : List EventTurn) → AreTurns s.origin c moment others → AreTurns s.origin s.course moment (told ++ others))
    × ((others : List EventTurn) → after_events s.origin s.course moment (told ++ others) ≡ after_events s.origin c moment others))

-- at first there are none
pub at_first : (s : PlainState) (moment : ℕ) → s.course.is_open ≡ true → Leads s moment [] s.course
at_first s moment is_open = (is_open, (λ others h. h, λ others. refl))

open_right : (b : Bool) (X Y : Type 0) → b ≡ true → MatchBool b X Y → X
open_right b X Y is h = subst (λ b. MatchBool b X Y) is h

-- one more event
one_more : (s : PlainState) (c : Course) (moment : ℕ) (told : List EventTurn) (event : Event) (turn : Turn) (closings : ℕ) (next : PlainState)
    → Leads s moment told c → Goes (at_course s c) (EventStep moment event) (TurnAnswer turn closings) next
    → (next ≡ at_course s next.course) × Leads s moment (told ++ record { event = event; turn = turn; closings = closings } ∷ []) next.course
one_more s c moment told event turn closings next leads goes =
    let t : EventTurn = record { event = event; turn = turn; closings = closings } in
    let k = after_event s.origin c moment event turn.refused closings in
    let whole : next ≡ at_course s k = goes.1.1 in
    let course : next.course ≡ k = ap (λ (v : PlainState). v.course) whole in
    let right : IsTurnAnswer s.origin c moment event turn closings = open_right c.is_open _ _ leads.0 goes.0 in
    let here : Leads s moment (told ++ t ∷ []) k = (
      turned_open s.origin c moment event turn.refused closings ∙ leads.0,
      (
        λ others h. subst (AreTurns s.origin s.course moment) (sym (append_assoc told (t ∷ []) others)) (leads.1.0 (t ∷ others) (right, h)),
        λ others. ap (after_events s.origin s.course moment) (append_assoc told (t ∷ []) others) ∙ leads.1.1 (t ∷ others),
      ),
    ) in (whole ∙ ap (at_course s) (sym course), subst (Leads s moment (told ++ t ∷ [])) (sym course) here)

pub goes_on : (s now next : PlainState) (moment : ℕ) (told : List EventTurn) (event : Event) (turn : Turn) (closings : ℕ)
    → now ≡ at_course s now.course → Leads s moment told now.course → Goes now (EventStep moment event) (TurnAnswer turn closings) next
    → (next ≡ at_course s next.course) × Leads s moment (told ++ record { event = event; turn = turn; closings = closings } ∷ []) next.course
goes_on s now next moment told event turn closings same leads goes =
    one_more s now.course moment told event turn closings next leads
    (subst (λ (v : PlainState). Goes v (EventStep moment event) (TurnAnswer turn closings) next) same goes)

-- so in the end all of them have their turns
pub gone_through : (s now : PlainState) (moment : ℕ) (handed_in : List Event) (told : List EventTurn) → now ≡ at_course s now.course
    → Leads s moment told now.course → map event_of told ≡ handed_in → GoesThrough s moment handed_in told now
gone_through s now moment handed_in told same leads all = (
  all,
  (
    subst (AreTurns s.origin s.course moment) (append-nil told) (leads.1.0 [] tt),
    same ∙ ap (at_course s) (sym (ap (after_events s.origin s.course moment) (sym (append-nil told)) ∙ leads.1.1 [])),
  ),
)

-- ---- a piece

pub pieced_so : (s said now : PlainState) (link moment : ℕ) (bytes : List ℕ) (handed_in : List Event) (told : List EventTurn) (fault : Option Refusal)
    → Completes (stream_on link s.course.pieces) bytes handed_in fault → said ≡ at_course s (with_piece s.course link bytes)
    → GoesThrough said moment handed_in told now → GoesPiece s link moment bytes told fault now
pieced_so s said now link moment bytes handed_in told fault completes is through =
    let there = subst (λ (v : PlainState). GoesThrough v moment handed_in told now) is through in
    (subst (λ l. Completes (stream_on link s.course.pieces) bytes l fault) (sym there.0) completes, there.1)
