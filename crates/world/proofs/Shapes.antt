-- What events leave of a course: everything except what waits, how many were decided, the time, the
-- copies and the windows.
use Rattle.std.proofs.Common.{◌≡◌, ◌∙◌, ℕ, List, [], ◌∷◌, take, Option, Some, None, Result, Ok, Err, refl, ap}
use Rattle.lw_types.specs.declared.refusal.Refusal.{Refusal}
use Rattle.lw_types.specs.declared.frame_copy.FrameCopy.{FrameCopy}
use Rattle.devices.specs.declared.command.Command.{Command}
use Rattle.sessions.specs.Table.{TableStep}
use Rattle.dedup.specs.Groups.{Arrival}
use Rattle.session_core.specs.State.{DecisionsState}
use Rattle.store.specs.State.{StoreState}
use Rattle.world.specs.declared.commit.Pipeline.{Pipeline}
use Rattle.world.specs.declared.answer.EventTurn.{EventTurn}
use Rattle.session_core.specs.declared.event.Event.{Event}
use Rattle.session_core.specs.declared.event.Event.TheVariants as events
use Rattle.world.specs.declared.step.Step.TheVariants as steps
use Rattle.world.specs.Course.{Origin, Course, after_own_copy, after_commands, at_moment, step_commands, handed_in_count, after_copy, with_closings, after_event, after_events, step_if_room, after_command}
use Rattle.world.specs.Follows.{IsLife}
use Rattle.world.specs.Links.{Piece}

-- the same life, for any frames heard and any number of emitted effects
pub same-life : {origin : Origin} {c : Course} {s : StoreState} {core : DecisionsState} {commit : Pipeline} {emitted clock shut : ℕ} {arrivals : List Arrival} {pieces : List Piece}
    → IsLife origin c s core commit → IsLife origin (record c { emitted = emitted; clock = clock; arrivals = arrivals; shut = shut; pieces = pieces }) s core commit
same-life f =
    record { table = f.table; seq = f.seq; base = f.base; number = f.number; untaken = f.untaken; made = f.made; under_way = f.under_way; healthy = f.healthy; survives = f.survives }

-- the same course, except what waits and how many were decided
abbrev pub with_decisions_of : Course → Course → Course
with_decisions_of c other = record c { untaken = other.untaken; made = other.made }

-- and except what was heard
abbrev pub with_news_of : Course → Course → Course
with_news_of c other =
    record c { untaken = other.untaken; made = other.made; clock = other.clock; arrivals = other.arrivals; shut = other.shut }

went_shape : (c : Course) (command : Command) (outcome : Result TableStep Refusal) → after_command c command outcome ≡ with_decisions_of c (after_command c command outcome)
went_shape c command (Ok s) = refl
went_shape c command (Err e) = refl

pub admit-shape : (origin : Origin) (c : Course) (commands : List Command) → after_commands origin c commands ≡ with_decisions_of c (after_commands origin c commands)
admit-shape origin c [] = refl
admit-shape origin c (command ∷ commands) =
    let next = after_command c command (step_if_room origin c command) in
    admit-shape origin next commands ∙ ap (λ k. with_decisions_of k (after_commands origin next commands)) (went_shape c command (step_if_room origin c command))

listened_shape : (c : Course) (copy : FrameCopy) (refused : Option Refusal) → after_copy copy refused c ≡ with_news_of c (after_copy copy refused c)
listened_shape c copy None = refl
listened_shape c copy (Some e) = refl

accepted_shape : (c : Course) (event : Event) (refused : Option Refusal) → after_own_copy event refused c ≡ with_news_of c (after_own_copy event refused c)
accepted_shape c (events.Hear copy) refused = listened_shape c copy refused
accepted_shape c event refused = refl

pub turned-shape : (origin : Origin) (c : Course) (moment : ℕ) (event : Event) (refused : Option Refusal) (closings : ℕ)
    → after_event origin c moment event refused closings ≡ with_news_of c (after_event origin c moment event refused closings)
turned-shape origin c moment event refused closings =
    let commands = take (handed_in_count event refused closings) (step_commands c (steps.Event moment event)) in
    let before = at_moment c moment in
    let next = with_closings closings (after_commands origin before commands) in
    accepted_shape next event refused
    ∙ ap (λ k. with_news_of (with_closings closings k) (after_own_copy event refused next)) (admit-shape origin before commands)

pub turned_all-shape : (origin : Origin) (c : Course) (moment : ℕ) (turns : List EventTurn) → after_events origin c moment turns ≡ with_news_of c (after_events origin c moment turns)
turned_all-shape origin c moment [] = refl
turned_all-shape origin c moment (t ∷ turns) =
    let next = after_event origin c moment t.event t.turn.refused t.closings in
    turned_all-shape origin next moment turns
    ∙ ap (λ k. with_news_of k (after_events origin next moment turns)) (turned-shape origin c moment t.event t.turn.refused t.closings)
