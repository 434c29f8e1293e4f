-- What is returned while something is begun.
use Rattle.std.proofs.Common.{◌≡◌, ◌∙◌, ◌⊎◌, ◌≤◌, inl, inr, ℕ, zero, suc, List, [], ◌∷◌, ◌++◌, Option, Some, None, length, sym, ap, subst, refl, arith}
use Rattle.lw_types.specs.declared.refusal.Refusal.TheVariants as refusals
use Rattle.devices.specs.declared.command.Command.{Command}
use Rattle.flusher.specs.declared.durable.Durable.{Durable as Done}
use Rattle.flusher.specs.declared.room.Room.{Room}
use Rattle.sessions.specs.Table.{TableState, effects_of}
use Rattle.store.specs.Flights.{Flight, Stage}
use Rattle.store.specs.Flights.Stage.{Stopped, Unsure}
use Rattle.store.specs.Publishing.{calls_left}
use Rattle.store.specs.State.{StoreState}
use Rattle.store.specs.UnderWay.{checkpoint_calls, flights_in}
use Rattle.store.specs.declared.under_way.UnderWay.{UnderWay}
use Rattle.store.specs.declared.under_way.UnderWay.TheVariants as ways
use Rattle.world.specs.declared.answer.Answer.{Answer}
use Rattle.world.specs.declared.answer.Answer.TheVariants as answers
use Rattle.world.specs.declared.commit.LastCommit.{LastCommit}
use Rattle.world.specs.declared.commit.LastCommit.TheVariants as commits
use Rattle.world.specs.declared.commit.Pipeline.{Pipeline}
use Rattle.world.specs.Answers.{AnswersCall, AnswersCheckpoint, AnswersRelease, AnswersStage, AnswersTake, Behind, Beside, CallsFor, Checkpoints, Releases, Takes, last_stage}
use Rattle.world.specs.Commits.{Hinders, HindersLast, IsUnfinished, at_rest, flights_ahead, flights_of}
use Rattle.world.specs.declared.step.Step.{Step}
use Rattle.world.specs.declared.step.Step.TheVariants as steps
use Rattle.world.specs.Course.{Checkpoint, Course, Origin, course_after, table_from, with_calls_left}
use Rattle.world.specs.Follows.{AreAt, HasFailed, IsAt}
use Rattle.world.proofs.Calling.{some_calls}

-- ---- where the last commit is, after what is ahead

beside_calls : (n : ℕ) (free : Type 0) (answer : Answer) → 1 ≤ n → answer ≡ answers.Idle → Beside (with_calls_left n) free answer
beside_calls zero free answer some is = absurd (omega (arith, some))
beside_calls (suc n) free answer some is = is

-- what is returned if nothing may begin, and what would be at rest
abbrev Waits : Type 0 → List (Flight Command) → Checkpoint → Answer → Type 0
Waits free [] checkpoint answer = Beside checkpoint free answer
Waits free (flight ∷ flights) checkpoint answer = Behind (last_stage flight flights) answer

stopped_waits : (stage : Stage) (answer : Answer) → (stage ≡ Stopped) ⊎ (stage ≡ Unsure) → answer ≡ answers.Refused refusals.Failed → Behind stage answer
stopped_waits stage answer (inl is) h = subst (λ st. Behind st answer) (sym is) h
stopped_waits stage answer (inr is) h = subst (λ st. Behind st answer) (sym is) h

failed_waits : (free : Type 0) (ahead : Option Done) (behind : List (Flight Command)) (checkpoint : Checkpoint) (answer : Answer) → HasFailed behind ahead checkpoint
    → answer ≡ answers.Refused refusals.Failed → Waits free (flights_of (flights_ahead ahead) ++ behind) checkpoint answer
failed_waits free None [] checkpoint answer at h = subst (λ k. Beside k free answer) (sym at) h
failed_waits free (Some durable) [] checkpoint answer at h = absurd at
failed_waits free None (flight ∷ []) checkpoint answer at h = stopped_waits flight.stage answer at.0 h
failed_waits free (Some durable) (flight ∷ []) checkpoint answer at h = stopped_waits flight.stage answer at.0 h
failed_waits free None (first ∷ second ∷ []) checkpoint answer at h = stopped_waits second.stage answer (inl at.1.0) h
failed_waits free (Some durable) (first ∷ second ∷ []) checkpoint answer at h = absurd at
failed_waits free ahead (first ∷ second ∷ third ∷ rest) checkpoint answer at h = absurd at

way_waits : (free : Type 0) (s : StoreState) (ahead : Option Done) (u : UnderWay Room) (answer : Answer) → answer ≡ answers.Idle
    → Waits free (flights_of (flights_ahead ahead) ++ flights_of (flights_in u)) (with_calls_left (checkpoint_calls s u)) answer
way_waits free s None (ways.Begun phase room) answer h = h
way_waits free s None (ways.Written phase room) answer h = h
way_waits free s None (ways.BodySynced phase room) answer h = h
way_waits free s None (ways.GateWritten phase room) answer h = h
way_waits free s None (ways.Following opened room following behind) answer h = h
way_waits free s None (ways.Paired phase room behind) answer h = h
way_waits free s None (ways.Checkpoint phase) answer h = beside_calls (calls_left s phase) free answer (some_calls s phase) h
way_waits free s (Some durable) (ways.Begun phase room) answer h = h
way_waits free s (Some durable) (ways.Written phase room) answer h = h
way_waits free s (Some durable) (ways.BodySynced phase room) answer h = h
way_waits free s (Some durable) (ways.GateWritten phase room) answer h = h
way_waits free s (Some durable) (ways.Following opened room following behind) answer h = h
way_waits free s (Some durable) (ways.Paired phase room behind) answer h = h
way_waits free s (Some durable) (ways.Checkpoint phase) answer h = h

last_waits : (free : Type 0) (ahead : Option Done) (last : LastCommit) (behind : List (Flight Command)) (checkpoint : Checkpoint) (t : TableState) (s : StoreState) (answer : Answer)
    → IsAt ahead behind checkpoint t s last → (record { ahead = ahead; last = last } ≡ at_rest → ⊥) → HindersLast last answer
    → Waits free (flights_of (flights_ahead ahead) ++ behind) checkpoint answer
last_waits free ahead commits.Failed behind checkpoint t s answer at begun h = failed_waits free ahead behind checkpoint answer at h
last_waits free None commits.Idle behind checkpoint t s answer at begun h = absurd (begun refl)
last_waits free (Some durable) commits.Idle behind checkpoint t s answer at begun h =
    subst (λ l. Waits free (flights_of (flights_ahead (Some durable)) ++ l) checkpoint answer) (sym at.0) h
last_waits free ahead (commits.UnderWay u) behind checkpoint t s answer at begun h =
    subst (λ l. Waits free (flights_of (flights_ahead ahead) ++ l) checkpoint answer) (sym at.0)
    (subst (λ k. Waits free (flights_of (flights_ahead ahead) ++ flights_of (flights_in u)) k answer) (sym at.1.1.1) (way_waits free s ahead u answer h))
last_waits free None (commits.Durable done) behind checkpoint t s answer at begun h =
    subst (λ l. Waits free l checkpoint answer) (sym at.0) h
last_waits free (Some durable) (commits.Durable done) behind checkpoint t s answer at begun h =
    subst (λ l. Waits free (flights_of (flights_ahead (Some durable)) ++ l) checkpoint answer) (sym at.0) h

waits : (free : Type 0) (origin : Origin) (settled : List Command) (flights : List (Flight Command)) (checkpoint : Checkpoint) (s : StoreState) (begun : Pipeline) (answer : Answer)
    → AreAt origin settled flights checkpoint s begun → Hinders begun answer → Waits free flights checkpoint answer
waits free origin settled flights checkpoint s begun answer at hinders =
    subst (λ l. Waits free l checkpoint answer) (sym at.flights_are)
    (last_waits free begun.ahead begun.last at.behind checkpoint _ s answer at.last hinders.begun hinders.answered)

take_waits : (flights : List (Flight Command)) (c : Course) (most : ℕ) (answer : Answer) → Waits (Takes c most answer) flights c.checkpoint answer → AnswersTake flights c most answer
take_waits [] c most answer h = h
take_waits (flight ∷ flights) c most answer h = h

checkpoint_waits : (flights : List (Flight Command)) (checkpoint : Checkpoint) (answer : Answer) → Waits (Checkpoints answer) flights checkpoint answer
    → AnswersCheckpoint flights checkpoint answer
checkpoint_waits [] checkpoint answer h = h
checkpoint_waits (flight ∷ flights) checkpoint answer h = h

pub take_hindered : (origin : Origin) (c : Course) (s : StoreState) (begun : Pipeline) (most : ℕ) (answer : Answer)
    → AreAt origin c.settled c.flights c.checkpoint s begun → Hinders begun answer → AnswersTake c.flights c most answer
take_hindered origin c s begun most answer at hinders =
    take_waits c.flights c most answer (waits (Takes c most answer) origin c.settled c.flights c.checkpoint s begun answer at hinders)

pub checkpoint_hindered : (origin : Origin) (c : Course) (s : StoreState) (begun : Pipeline) (answer : Answer)
    → AreAt origin c.settled c.flights c.checkpoint s begun → Hinders begun answer → AnswersCheckpoint c.flights c.checkpoint answer
checkpoint_hindered origin c s begun answer at hinders =
    checkpoint_waits c.flights c.checkpoint answer (waits (Checkpoints answer) origin c.settled c.flights c.checkpoint s begun answer at hinders)

-- ---- a call of nothing

abbrev pub IsStill : LastCommit → Type 0
IsStill (commits.UnderWay u) = ⊥
IsStill commit = Unit {0}

stopped_still : (stage : Stage) → (stage ≡ Stopped) ⊎ (stage ≡ Unsure) → AnswersStage stage answers.Idle
stopped_still stage (inl is) = subst (λ st. AnswersStage st answers.Idle) (sym is) refl
stopped_still stage (inr is) = subst (λ st. AnswersStage st answers.Idle) (sym is) refl

failed_still : (ahead : Option Done) (behind : List (Flight Command)) (checkpoint : Checkpoint) → HasFailed behind ahead checkpoint
    → AnswersCall (flights_of (flights_ahead ahead) ++ behind) checkpoint answers.Idle
failed_still None [] checkpoint at = subst (λ k. CallsFor k answers.Idle) (sym at) refl
failed_still (Some durable) [] checkpoint at = absurd at
failed_still None (flight ∷ []) checkpoint at = stopped_still flight.stage at.0
failed_still (Some durable) (flight ∷ []) checkpoint at = stopped_still flight.stage at.0
failed_still None (first ∷ second ∷ []) checkpoint at = stopped_still second.stage (inl at.1.0)
failed_still (Some durable) (first ∷ second ∷ []) checkpoint at = absurd at
failed_still ahead (first ∷ second ∷ third ∷ rest) checkpoint at = absurd at

last_still : (ahead : Option Done) (last : LastCommit) (behind : List (Flight Command)) (checkpoint : Checkpoint) (t : TableState) (s : StoreState)
    → IsAt ahead behind checkpoint t s last → IsStill last → AnswersCall (flights_of (flights_ahead ahead) ++ behind) checkpoint answers.Idle
last_still ahead commits.Failed behind checkpoint t s at still = failed_still ahead behind checkpoint at
last_still None commits.Idle behind checkpoint t s at still =
    subst (λ l. AnswersCall l checkpoint answers.Idle) (sym at.0) (subst (λ k. CallsFor k answers.Idle) (sym at.1.1.1) refl)
last_still (Some durable) commits.Idle behind checkpoint t s at still =
    subst (λ l. AnswersCall (flights_of (flights_ahead (Some durable)) ++ l) checkpoint answers.Idle) (sym at.0) refl
last_still ahead (commits.UnderWay u) behind checkpoint t s at still = absurd still
last_still None (commits.Durable done) behind checkpoint t s at still =
    subst (λ l. AnswersCall l checkpoint answers.Idle) (sym at.0) refl
last_still (Some durable) (commits.Durable done) behind checkpoint t s at still =
    subst (λ l. AnswersCall (flights_of (flights_ahead (Some durable)) ++ l) checkpoint answers.Idle) (sym at.0) refl

pub stays_still : (origin : Origin) (settled : List Command) (flights : List (Flight Command)) (checkpoint : Checkpoint) (s : StoreState) (begun : Pipeline)
    → AreAt origin settled flights checkpoint s begun → IsStill begun.last → AnswersCall flights checkpoint answers.Idle
stays_still origin settled flights checkpoint s begun at still =
    subst (λ l. AnswersCall l checkpoint answers.Idle) (sym at.flights_are)
    (last_still begun.ahead begun.last at.behind checkpoint _ s at.last still)

-- ---- a release of nothing

stopped_back : (stage : Stage) (n : ℕ) → (stage ≡ Stopped) ⊎ (stage ≡ Unsure) → Releases stage n answers.Idle
stopped_back stage n (inl is) = subst (λ st. Releases st n answers.Idle) (sym is) refl
stopped_back stage n (inr is) = subst (λ st. Releases st n answers.Idle) (sym is) refl

failed_back : (origin : Origin) (c : Course) (ahead : Option Done) (behind : List (Flight Command)) (checkpoint : Checkpoint) → ahead ≡ None → HasFailed behind ahead checkpoint
    → AnswersRelease origin c behind answers.Idle
failed_back origin c ahead [] checkpoint none at = refl
failed_back origin c ahead (flight ∷ []) checkpoint none at =
    stopped_back flight.stage (length (effects_of (table_from origin c.settled) flight.batch)) at.0
failed_back origin c None (first ∷ second ∷ []) checkpoint none at =
    stopped_back first.stage (length (effects_of (table_from origin c.settled) first.batch)) (inr at.0)
failed_back origin c (Some durable) (first ∷ second ∷ []) checkpoint none at = absurd at
failed_back origin c ahead (first ∷ second ∷ third ∷ rest) checkpoint none at = absurd at

way_back : (origin : Origin) (c : Course) (u : UnderWay Room) → AnswersRelease origin c (flights_of (flights_in u)) answers.Idle
way_back origin c (ways.Begun phase room) = refl
way_back origin c (ways.Written phase room) = refl
way_back origin c (ways.BodySynced phase room) = refl
way_back origin c (ways.GateWritten phase room) = refl
way_back origin c (ways.Following opened room following behind) = refl
way_back origin c (ways.Paired phase room behind) = refl
way_back origin c (ways.Checkpoint phase) = refl

last_back : (origin : Origin) (c : Course) (ahead : Option Done) (last : LastCommit) (behind : List (Flight Command)) (checkpoint : Checkpoint) (t : TableState) (s : StoreState)
    → ahead ≡ None → IsAt ahead behind checkpoint t s last → IsUnfinished last → AnswersRelease origin c behind answers.Idle
last_back origin c ahead commits.Failed behind checkpoint t s none at unfinished = failed_back origin c ahead behind checkpoint none at
last_back origin c ahead commits.Idle behind checkpoint t s none at unfinished = subst (λ l. AnswersRelease origin c l answers.Idle) (sym at.0) refl
last_back origin c ahead (commits.UnderWay u) behind checkpoint t s none at unfinished =
    subst (λ l. AnswersRelease origin c l answers.Idle) (sym at.0) (way_back origin c u)
last_back origin c ahead (commits.Durable done) behind checkpoint t s none at unfinished = absurd unfinished

pub holds_back : (origin : Origin) (c : Course) (s : StoreState) (begun : Pipeline) → AreAt origin c.settled c.flights c.checkpoint s begun → begun.ahead ≡ None
    → IsUnfinished begun.last → AnswersRelease origin c c.flights answers.Idle
holds_back origin c s begun at none unfinished =
    subst (λ l. AnswersRelease origin c l answers.Idle) (sym (at.flights_are ∙ ap (λ a. flights_of (flights_ahead a) ++ at.behind) none))
    (last_back origin c begun.ahead begun.last at.behind c.checkpoint _ s none at.last unfinished)

pub is_still : (last : LastCommit) → ((u : UnderWay Room) → last ≡ commits.UnderWay u → ⊥) → IsStill last
is_still (commits.UnderWay u) none = none u refl
is_still commit none = tt

-- ---- what doesn't change when nothing may begin

hinders_or : (last : LastCommit) (answer : Answer) → HindersLast last answer → (answer ≡ answers.Idle) ⊎ (answer ≡ answers.Refused refusals.Failed)
hinders_or commits.Failed answer h = inr h
hinders_or commit answer h = inl h

changes_nothing : (origin : Origin) (c : Course) (step : Step) (answer : Answer) → course_after origin c step answers.Idle ≡ c
    → course_after origin c step (answers.Refused refusals.Failed) ≡ c → (answer ≡ answers.Idle) ⊎ (answer ≡ answers.Refused refusals.Failed) → course_after origin c step answer ≡ c
changes_nothing origin c step answer idle failed (inl is) = ap (course_after origin c step) is ∙ idle
changes_nothing origin c step answer idle failed (inr is) = ap (course_after origin c step) is ∙ failed

pub hindered_take : (origin : Origin) (c : Course) (most : ℕ) (begun : Pipeline) (answer : Answer) → Hinders begun answer → course_after origin c (steps.Take most) answer ≡ c
hindered_take origin c most begun answer hinders = changes_nothing origin c (steps.Take most) answer refl refl (hinders_or begun.last answer hinders.answered)

pub hindered_checkpoint : (origin : Origin) (c : Course) (begun : Pipeline) (answer : Answer) → Hinders begun answer → course_after origin c steps.Checkpoint answer ≡ c
hindered_checkpoint origin c begun answer hinders = changes_nothing origin c steps.Checkpoint answer refl refl (hinders_or begun.last answer hinders.answered)
