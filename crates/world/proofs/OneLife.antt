-- One life, step by step.
use Rattle.std.proofs.Common.{◌≡◌, ◌≢◌, ◌∙◌, ◌+◌, ◌≤◌, ◌⊎◌, inl, inr, ℕ, true, MatchBool, List, [], ◌∷◌, ◌++◌, slice_get, Option, Some, None, length, take, map, sym, ap, subst, refl, arith, append_assoc, length-append}
use Rattle.std.specs.Option.{MatchOption}
use Rattle.std.proofs.lemmas.List.{append-nil, map-append, take-append-le, take_more}
use Rattle.std.proofs.lemmas.Option.{slice_get_within, get_or_from_slice_get}
use Rattle.lw_types.specs.declared.refusal.Refusal.{Refusal}
use Rattle.lw_types.specs.declared.refusal.Refusal.TheVariants as refusals
use Rattle.lw_types.specs.declared.refusal.Refusal.TheVariants.{OutOfStep}
use Rattle.lw_types.specs.Refusal.{number_of}
use Rattle.devices.specs.declared.command.Command.{Command}
use Rattle.devices.specs.declared.effect.Effect.{Effect}
use Rattle.sessions.specs.Table.{effects_of}
use Rattle.gateway_wire.specs.declared.emission.Emission.{Emission}
use Rattle.gateway_wire.specs.Emission.{emission}
use Rattle.world.specs.Folding.{RunLaws}
use Rattle.world.specs.declared.answer.Answer.{Answer}
use Rattle.world.specs.declared.answer.Answer.TheVariants as answers
use Rattle.world.specs.declared.step.Step.{Step}
use Rattle.session_core.specs.declared.event.Event.{Event}
use Rattle.world.specs.declared.step.Step.TheVariants as steps
use Rattle.store.specs.Flights.{Flight, Stage}
use Rattle.store.specs.Flights.Stage.{Durable, GateWritten, Stopped, Unsure}
use Rattle.world.specs.Course.{Checkpoint, Course, Origin, after_answered_take, course_after, beginning, course_of, decided_commands, effects_from, number_from, after_piece, after_release, table_from, with_piece}
use Rattle.world.specs.Course.Checkpoint.{NotUnderWay, CallsLeft, CallFailed}
use Rattle.world.specs.Answers.{AreRight, IsRight, AnswersOpen, AnswersClosed, AnswersTake, AnswersNext, AnswersCall, AnswersCheckpoint, AnswersRelease, Behind, Beside, AnswersStage, CallsFor, Checkpoints, IsCalled, Releases, NextBehind, Takes, last_stage}
use Rattle.world.specs.Follows.{IsOwn}
use Rattle.world.specs.OneLife.{HasNoCrash, NoneGivenUp, NoneOutOfStep, emissions, IsOneLife}
use Rattle.world.proofs.Shapes.{turned-shape, turned_all-shape}
use Rattle.world.proofs.Flights.{as_many, as_many_failed}
use Rattle.world.proofs.Going.{step_keeps}

-- what one step keeps
pub record Lives (origin : Origin) (c : Course) (said : List Emission) : Type 0 where
  pub released : c.left ≡ effects_from origin c.settled
  pub emitted : said ≡ map emission (take c.emitted c.left)
  pub within : c.emitted ≤ length c.left
  pub few : length c.flights ≤ 2
  pub is_open : c.is_open ≡ true

-- what the answer to one step says was emitted
abbrev told_by : Answer → List Emission
told_by (answers.Emitted e) = e ∷ []
told_by answer = []

-- whether a batch began
abbrev has_begun : Answer → ℕ
has_begun (answers.Taken n) = 1
has_begun answer = 0

emitted_cons : (answer : Answer) (rest : List Answer) → emissions (answer ∷ rest) ≡ told_by answer ++ emissions rest
emitted_cons (answers.Emitted e) rest = refl
emitted_cons answer rest = refl

abbrev is_emitted : Answer → ℕ
is_emitted (answers.Emitted e) = 1
is_emitted answer = 0

apart : (e : Emission) (answer : Answer) → is_emitted answer ≡ 0 → answers.Emitted e ≡ answer → ⊥
apart e answer quiet h = let n = ap is_emitted h in absurd (omega (arith, quiet, n))

-- only an emit has an answer with what was emitted
behind_quiet : (stage : Stage) (e : Emission) → Behind stage (answers.Emitted e) → ⊥
behind_quiet Stopped e h = apart e (answers.Refused refusals.Failed) refl h
behind_quiet Unsure e h = apart e (answers.Refused refusals.Failed) refl h
behind_quiet stage e h = apart e answers.Idle refl h

beside_quiet : (checkpoint : Checkpoint) (free : Type 0) (e : Emission) → (free → ⊥) → Beside checkpoint free (answers.Emitted e) → ⊥
beside_quiet NotUnderWay free e none h = none h
beside_quiet (CallsLeft n) free e none h = apart e answers.Idle refl h
beside_quiet CallFailed free e none h = apart e (answers.Refused refusals.Failed) refl h

checkpoint_quiet : (flights : List (Flight Command)) (checkpoint : Checkpoint) (e : Emission) → AnswersCheckpoint flights checkpoint (answers.Emitted e) → ⊥
checkpoint_quiet [] checkpoint e h = beside_quiet checkpoint (Checkpoints (answers.Emitted e)) e (λ free. free) h
checkpoint_quiet (flight ∷ flights) checkpoint e h = behind_quiet (last_stage flight flights) e h

take_quiet : (flights : List (Flight Command)) (c : Course) (most : ℕ) (e : Emission) → AnswersTake flights c most (answers.Emitted e) → ⊥
take_quiet [] c most e h = beside_quiet c.checkpoint (Takes c most (answers.Emitted e)) e (λ free. free) h
take_quiet (flight ∷ flights) c most e h = behind_quiet (last_stage flight flights) e h

next_behind_quiet : (stage : Stage) (free : Type 0) (e : Emission) → (free → ⊥) → NextBehind stage free (answers.Emitted e) → ⊥
next_behind_quiet GateWritten free e none h = none h
next_behind_quiet stage free e none h = apart e answers.Idle refl h

next_quiet : (flights : List (Flight Command)) (c : Course) (most : ℕ) (e : Emission) → AnswersNext flights c most (answers.Emitted e) → ⊥
next_quiet [] c most e h = apart e answers.Idle refl h
next_quiet (flight ∷ []) c most e h = next_behind_quiet flight.stage (Takes c most (answers.Emitted e)) e (λ free. free) h
next_quiet (first ∷ second ∷ rest) c most e h = apart e answers.Idle refl h

called_quiet : (e : Emission) → IsCalled (answers.Emitted e) → ⊥
called_quiet e (inl h) = apart e answers.Called refl h
called_quiet e (inr h) = apart e (answers.Refused refusals.DeviceFailed) refl h

calls_quiet : (stage : Stage) (e : Emission) → AnswersStage stage (answers.Emitted e) → ⊥
calls_quiet Durable e h = apart e answers.Idle refl h
calls_quiet Stopped e h = apart e answers.Idle refl h
calls_quiet Unsure e h = apart e answers.Idle refl h
calls_quiet stage e h = called_quiet e h

calls_for_quiet : (checkpoint : Checkpoint) (e : Emission) → CallsFor checkpoint (answers.Emitted e) → ⊥
calls_for_quiet (CallsLeft n) e h = called_quiet e h
calls_for_quiet NotUnderWay e h = apart e answers.Idle refl h
calls_for_quiet CallFailed e h = apart e answers.Idle refl h

call_quiet : (flights : List (Flight Command)) (checkpoint : Checkpoint) (e : Emission) → AnswersCall flights checkpoint (answers.Emitted e) → ⊥
call_quiet [] checkpoint e h = calls_for_quiet checkpoint e h
call_quiet (flight ∷ flights) checkpoint e h = calls_quiet (last_stage flight flights) e h

releases_quiet : (stage : Stage) (n : ℕ) (e : Emission) → Releases stage n (answers.Emitted e) → ⊥
releases_quiet Durable n e h = apart e (answers.Released n) refl h
releases_quiet stage n e h = apart e answers.Idle refl h

release_quiet : (origin : Origin) (c : Course) (flights : List (Flight Command)) (e : Emission) → AnswersRelease origin c flights (answers.Emitted e) → ⊥
release_quiet origin c [] e h = apart e answers.Idle refl h
release_quiet origin c (flight ∷ flights) e h = releases_quiet flight.stage (length (effects_of (table_from origin c.settled) flight.batch)) e h

list_quiet : (e : Emission) (listed : Answer) → is_emitted listed ≡ 0 → (answers.Emitted e ≡ listed) ⊎ (answers.Emitted e ≡ answers.Refused refusals.OutOfMemory) → ⊥
list_quiet e listed quiet (inl h) = apart e listed quiet h
list_quiet e listed quiet (inr h) = apart e (answers.Refused refusals.OutOfMemory) refl h

quiet : (origin : Origin) (c : Course) (step : Step) (e : Emission) → IsOwn step → AnswersOpen origin c step (answers.Emitted e) → ⊥
quiet origin c (steps.Event moment event) e own h = h
quiet origin c (steps.Piece link moment bytes) e own h = h
quiet origin c (steps.Take most) e own h = take_quiet c.flights c most e h
quiet origin c (steps.Next most) e own h = next_quiet c.flights c most e h
quiet origin c steps.Checkpoint e own h = checkpoint_quiet c.flights c.checkpoint e h
quiet origin c steps.Call e own h = call_quiet c.flights c.checkpoint e h
quiet origin c steps.Fail e own h = apart e answers.Armed refl h
quiet origin c steps.Release e own h = release_quiet origin c c.flights e h
quiet origin c steps.List e own h = list_quiet e (answers.Listed (table_from origin (decided_commands c)) (number_from origin (decided_commands c))) refl h
quiet origin c steps.Emit e own h = own
quiet origin c (steps.Crash image) e own h = own

-- the batches after which one that began stands
taken_apart : (other : Answer) (n : ℕ) → has_begun other ≡ 0 → answers.Taken n ≡ other → ⊥
taken_apart other n quiet h = let tag = ap has_begun h in absurd (omega (arith, quiet, tag))

behind_taken : (stage : Stage) (n : ℕ) → Behind stage (answers.Taken n) → ⊥
behind_taken Stopped n h = taken_apart (answers.Refused refusals.Failed) n refl h
behind_taken Unsure n h = taken_apart (answers.Refused refusals.Failed) n refl h
behind_taken stage n h = taken_apart answers.Idle n refl h

take_few : (flights : List (Flight Command)) (c : Course) (most n : ℕ) (more : Flight Command) → AnswersTake flights c most (answers.Taken n) → length (flights ++ more ∷ []) ≤ 2
take_few [] c most n more h = omega arith
take_few (flight ∷ flights) c most n more h = absurd (behind_taken (last_stage flight flights) n h)

next_few : (flights : List (Flight Command)) (c : Course) (most n : ℕ) (more : Flight Command) → AnswersNext flights c most (answers.Taken n) → length (flights ++ more ∷ []) ≤ 2
next_few [] c most n more h = absurd (taken_apart answers.Idle n refl h)
next_few (flight ∷ []) c most n more h = omega arith
next_few (first ∷ second ∷ rest) c most n more h = absurd (taken_apart answers.Idle n refl h)

refusal_few : (c : Course) (most : ℕ) (e : Refusal) → length c.flights ≤ 2 → length (after_answered_take c most (answers.Refused e)).flights ≤ 2
refusal_few c most OutOfStep few = few
refusal_few c most e few = few

take_few_after : (c : Course) (most : ℕ) (answer : Answer) → AnswersTake c.flights c most answer → length c.flights ≤ 2 → length (after_answered_take c most answer).flights ≤ 2
take_few_after c most (answers.Taken n) right few = take_few c.flights c most n _ right
take_few_after c most (answers.GivenUp n) right few = few
take_few_after c most (answers.Refused e) right few = refusal_few c most e few
take_few_after c most answer right few = few

next_few_after : (c : Course) (most : ℕ) (answer : Answer) → AnswersNext c.flights c most answer → length c.flights ≤ 2 → length (after_answered_take c most answer).flights ≤ 2
next_few_after c most (answers.Taken n) right few = next_few c.flights c most n _ right
next_few_after c most (answers.GivenUp n) right few = few
next_few_after c most (answers.Refused e) right few = refusal_few c most e few
next_few_after c most answer right few = few

call_few : (origin : Origin) (c : Course) (answer : Answer) → length c.flights ≤ 2 → length (course_after origin c steps.Call answer).flights ≤ 2
call_few origin c answers.Called few = let same = as_many c.flights in omega (arith, same, few)
call_few origin c (answers.Refused e) few = let same = as_many_failed c.flights in omega (arith, same, few)
call_few origin c answer few = few

released_few : (origin : Origin) (c : Course) (flights : List (Flight Command)) → length c.flights ≤ 2 → length flights ≤ 2 → length (after_release origin c flights).flights ≤ 2
released_few origin c [] few size = few
released_few origin c (flight ∷ flights) few size = omega (arith, size)

release_few : (origin : Origin) (c : Course) (answer : Answer) → length c.flights ≤ 2 → length (course_after origin c steps.Release answer).flights ≤ 2
release_few origin c (answers.Released n) few = released_few origin c c.flights few few
release_few origin c answer few = few

event_few : (origin : Origin) (c : Course) (moment : ℕ) (event : Event) (answer : Answer) → (course_after origin c (steps.Event moment event) answer).flights ≡ c.flights
event_few origin c moment event (answers.Turn turn closings) = ap (λ (k : Course). k.flights) (turned-shape origin c moment event turn.refused closings)
event_few origin c moment event answer = refl

piece_few : (origin : Origin) (c : Course) (link moment : ℕ) (bytes : List ℕ) (answer : Answer) → (after_piece origin c link moment bytes answer).flights ≡ c.flights
piece_few origin c link moment bytes (answers.Turns turns fault) =
    ap (λ (k : Course). k.flights) (turned_all-shape origin (with_piece c link bytes) moment turns.items)
piece_few origin c link moment bytes answer = refl

checkpoint_few : (origin : Origin) (c : Course) (answer : Answer) → (course_after origin c steps.Checkpoint answer).flights ≡ c.flights
checkpoint_few origin c (answers.Begun calls) = refl
checkpoint_few origin c answer = refl

few_after : (origin : Origin) (c : Course) (step : Step) (answer : Answer) → IsOwn step → AnswersOpen origin c step answer → length c.flights ≤ 2
    → length (course_after origin c step answer).flights ≤ 2
few_after origin c (steps.Event moment event) answer own right few = subst (λ (l : List (Flight Command)). length l ≤ 2) (sym (event_few origin c moment event answer)) few
few_after origin c (steps.Piece link moment bytes) answer own right few =
    subst (λ (l : List (Flight Command)). length l ≤ 2) (sym (piece_few origin c link moment bytes.items answer)) few
few_after origin c (steps.Take most) answer own right few = take_few_after c most answer right few
few_after origin c (steps.Next most) answer own right few = next_few_after c most answer right few
few_after origin c steps.Checkpoint answer own right few = subst (λ (l : List (Flight Command)). length l ≤ 2) (sym (checkpoint_few origin c answer)) few
few_after origin c steps.Call answer own right few = call_few origin c answer few
few_after origin c steps.Fail answer own right few = few
few_after origin c steps.Release answer own right few = release_few origin c answer few
few_after origin c steps.List answer own right few = few
few_after origin c steps.Emit answer own right few = absurd own
few_after origin c (steps.Crash image) answer own right few = absurd own

-- a step of the life alone
own_lives : (laws : RunLaws) (origin : Origin) (c : Course) (said : List Emission) (step : Step) (answer : Answer) → IsOwn step → told_by answer ≡ []
    → AnswersOpen origin c step answer → Lives origin c said
    → Lives origin (course_after origin c step answer) (said ++ told_by answer)
own_lives laws origin c said step answer own silent right lives =
    let keeps = step_keeps laws origin c step answer own in
    let more = keeps.grown.0 in
    let longer = ap length keeps.grown.1 ∙ length-append c.left more in
    let same = keeps.emitted in
    let before = lives.within in
    record {
      released = keeps.complete lives.released;
      emitted =
          ap (λ l. said ++ l) silent
          ∙ (append-nil said
          ∙ (lives.emitted
          ∙ ap (map emission)
          (sym (take-append-le c.emitted c.left more lives.within)
          ∙ (ap (take c.emitted) (sym keeps.grown.1) ∙ ap (λ n. take n (course_after origin c step answer).left) (sym same)))));
      within = omega (arith, longer, same, before);
      few = few_after origin c step answer own right lives.few;
      is_open = keeps.is_open ∙ lives.is_open;
    }

silent : (origin : Origin) (c : Course) (step : Step) (answer : Answer) → IsOwn step → AnswersOpen origin c step answer → told_by answer ≡ []
silent origin c step (answers.Emitted e) own right = absurd (quiet origin c step e own right)
silent origin c step answer own right = refl

-- an emit
emit_lives : (origin : Origin) (c : Course) (said : List Emission) (answer : Answer) (o : Option Effect) → slice_get c.left c.emitted ≡ o
    → MatchOption o (answer ≡ answers.Idle) (λ effect. (answer ≡ answers.Emitted (emission effect)) ⊎ (answer ≡ answers.Refused refusals.OutOfMemory)) → Lives origin c said
    → Lives origin (course_after origin c steps.Emit answer) (said ++ told_by answer)
emit_lives origin c said answer None is right lives =
    subst (λ a. Lives origin (course_after origin c steps.Emit a) (said ++ told_by a)) (sym right) (subst (Lives origin c) (sym (append-nil said)) lives)
emit_lives origin c said answer (Some effect) is (inr right) lives =
    subst (λ a. Lives origin (course_after origin c steps.Emit a) (said ++ told_by a)) (sym right) (subst (Lives origin c) (sym (append-nil said)) lives)
emit_lives origin c said answer (Some effect) is (inl right) lives =
    let below = slice_get_within c.left c.emitted effect is in
    let there : take c.emitted c.left ++ effect ∷ [] ≡ take (c.emitted + 1) c.left =
    sym (take_more c.left c.emitted effect below
    ∙ ap (λ f. take c.emitted c.left ++ f ∷ []) (get_or_from_slice_get c.left c.emitted effect effect is)) in
    subst (λ a. Lives origin (course_after origin c steps.Emit a) (said ++ told_by a)) (sym right) (record {
      released = lives.released;
      emitted =
          ap (λ l. l ++ emission effect ∷ []) lives.emitted
          ∙ (sym (map-append emission (take c.emitted c.left) (effect ∷ [])) ∙ ap (map emission) there);
      within = omega (arith, below);
      few = lives.few;
      is_open = lives.is_open;
    })

-- whether a step is a crash
abbrev IsCalm : Step → Type 0
IsCalm (steps.Crash image) = ⊥
IsCalm step = Unit {0}

calm : (step : Step) (rest : List Step) → HasNoCrash (step ∷ rest) → IsCalm step × HasNoCrash rest
calm (steps.Crash image) rest h = absurd h
calm step rest h = (tt, h)

open_right : (origin : Origin) (c : Course) (step : Step) (answer : Answer) → c.is_open ≡ true → IsRight origin c step answer → AnswersOpen origin c step answer
open_right origin c step answer is right = subst (λ b. MatchBool b (AnswersOpen origin c step answer) (AnswersClosed origin c step answer)) is right

step_lives : (laws : RunLaws) (origin : Origin) (c : Course) (said : List Emission) (step : Step) (answer : Answer) → IsCalm step → AnswersOpen origin c step answer → Lives origin c said
    → Lives origin (course_after origin c step answer) (said ++ told_by answer)
step_lives laws origin c said steps.Emit answer calm right lives = emit_lives origin c said answer (slice_get c.left c.emitted) refl right lives
step_lives laws origin c said (steps.Crash image) answer calm right lives = absurd calm
step_lives laws origin c said (steps.Event moment event) answer calm right lives =
    own_lives laws origin c said (steps.Event moment event) answer tt (silent origin c (steps.Event moment event) answer tt right) right lives
step_lives laws origin c said (steps.Piece link moment bytes) answer calm right lives =
    own_lives laws origin c said (steps.Piece link moment bytes) answer tt (silent origin c (steps.Piece link moment bytes) answer tt right) right lives
step_lives laws origin c said (steps.Take most) answer calm right lives =
    own_lives laws origin c said (steps.Take most) answer tt (silent origin c (steps.Take most) answer tt right) right lives
step_lives laws origin c said (steps.Next most) answer calm right lives =
    own_lives laws origin c said (steps.Next most) answer tt (silent origin c (steps.Next most) answer tt right) right lives
step_lives laws origin c said steps.Checkpoint answer calm right lives =
    own_lives laws origin c said steps.Checkpoint answer tt (silent origin c steps.Checkpoint answer tt right) right lives
step_lives laws origin c said steps.Call answer calm right lives = own_lives laws origin c said steps.Call answer tt (silent origin c steps.Call answer tt right) right lives
step_lives laws origin c said steps.Fail answer calm right lives = own_lives laws origin c said steps.Fail answer tt (silent origin c steps.Fail answer tt right) right lives
step_lives laws origin c said steps.Release answer calm right lives = own_lives laws origin c said steps.Release answer tt (silent origin c steps.Release answer tt right) right lives
step_lives laws origin c said steps.List answer calm right lives = own_lives laws origin c said steps.List answer tt (silent origin c steps.List answer tt right) right lives

lives_on : (laws : RunLaws) (origin : Origin) (c : Course) (said : List Emission) (steps : List Step) (told : List Answer) → AreRight origin c steps told → HasNoCrash steps → Lives origin c said
    → Lives origin (course_of origin c steps told) (said ++ emissions told)
lives_on laws origin c said [] [] right still lives = subst (Lives origin c) (sym (append-nil said)) lives
lives_on laws origin c said [] (a ∷ told) right still lives = absurd right
lives_on laws origin c said (s ∷ steps) [] right still lives = absurd right
lives_on laws origin c said (s ∷ steps) (a ∷ told) right still lives =
    let first = calm s steps still in
    let next = step_lives laws origin c said s a first.0 (open_right origin c s a lives.is_open right.0) lives in
    let rest = lives_on laws origin (course_after origin c s a) (said ++ told_by a) steps told right.1 first.1 next in
    subst (Lives origin (course_of origin (course_after origin c s a) steps told)) (append_assoc said (told_by a) (emissions told) ∙ ap (λ l. said ++ l) (sym (emitted_cons a told))) rest

-- what is refused has its number, and nothing else has one
abbrev refused_with : Answer → ℕ
refused_with (answers.Refused e) = number_of e
refused_with answer = 0

-- a batch is out of step only after one that was lost
behind_in_step : (stage : Stage) → Behind stage (answers.Refused OutOfStep) → ⊥
behind_in_step Stopped h = let n = ap refused_with h in absurd (omega (arith, n))
behind_in_step Unsure h = let n = ap refused_with h in absurd (omega (arith, n))
behind_in_step stage h = let n = ap refused_with h in absurd (omega (arith, n))

takes_out_of_step : (c : Course) (most : ℕ) → Takes c most (answers.Refused OutOfStep) → c.given_up ≢ []
takes_out_of_step c most (some, inl h) = let n = ap number_of h in absurd (omega (arith, n))
takes_out_of_step c most (some, inr h) = h.1

beside_out_of_step : (c : Course) (most : ℕ) (checkpoint : Checkpoint) → Beside checkpoint (Takes c most (answers.Refused OutOfStep)) (answers.Refused OutOfStep)
    → c.given_up ≢ []
beside_out_of_step c most NotUnderWay h = takes_out_of_step c most h
beside_out_of_step c most (CallsLeft n) h = let n = ap refused_with h in absurd (omega (arith, n))
beside_out_of_step c most CallFailed h = let n = ap refused_with h in absurd (omega (arith, n))

next_behind_out_of_step : (stage : Stage) (c : Course) (most : ℕ) → NextBehind stage (Takes c most (answers.Refused OutOfStep)) (answers.Refused OutOfStep) → c.given_up ≢ []
next_behind_out_of_step GateWritten c most h = takes_out_of_step c most h
next_behind_out_of_step stage c most h = let n = ap refused_with h in absurd (omega (arith, n))

next_out_of_step : (flights : List (Flight Command)) (c : Course) (most : ℕ) → AnswersNext flights c most (answers.Refused OutOfStep) → c.given_up ≢ []
next_out_of_step [] c most h = let n = ap refused_with h in absurd (omega (arith, n))
next_out_of_step (flight ∷ []) c most h = next_behind_out_of_step flight.stage c most h
next_out_of_step (first ∷ second ∷ rest) c most h = let n = ap refused_with h in absurd (omega (arith, n))

out_of_step : (flights : List (Flight Command)) (c : Course) (most : ℕ) → AnswersTake flights c most (answers.Refused OutOfStep) → c.given_up ≢ []
out_of_step [] c most h = beside_out_of_step c most c.checkpoint h
out_of_step (flight ∷ flights) c most h = absurd (behind_in_step (last_stage flight flights) h)

none_before : (answer : Answer) (rest : List Answer) → NoneGivenUp (answer ∷ rest) → NoneGivenUp rest
none_before (answers.GivenUp n) rest h = absurd h
none_before answer rest h = h

event_given : (origin : Origin) (c : Course) (moment : ℕ) (event : Event) (answer : Answer) → (course_after origin c (steps.Event moment event) answer).given_up ≡ c.given_up
event_given origin c moment event (answers.Turn turn closings) = ap (λ (k : Course). k.given_up) (turned-shape origin c moment event turn.refused closings)
event_given origin c moment event answer = refl

piece_given : (origin : Origin) (c : Course) (link moment : ℕ) (bytes : List ℕ) (answer : Answer) → (after_piece origin c link moment bytes answer).given_up ≡ c.given_up
piece_given origin c link moment bytes (answers.Turns turns fault) =
    ap (λ (k : Course). k.given_up) (turned_all-shape origin (with_piece c link bytes) moment turns.items)
piece_given origin c link moment bytes answer = refl

checkpoint_given : (origin : Origin) (c : Course) (answer : Answer) → (course_after origin c steps.Checkpoint answer).given_up ≡ c.given_up
checkpoint_given origin c (answers.Begun calls) = refl
checkpoint_given origin c answer = refl

call_given : (origin : Origin) (c : Course) (answer : Answer) → (course_after origin c steps.Call answer).given_up ≡ c.given_up
call_given origin c answers.Called = refl
call_given origin c (answers.Refused e) = refl
call_given origin c answer = refl

released_given : (origin : Origin) (c : Course) (flights : List (Flight Command)) → (after_release origin c flights).given_up ≡ c.given_up
released_given origin c [] = refl
released_given origin c (flight ∷ flights) = refl

release_given : (origin : Origin) (c : Course) (answer : Answer) → (course_after origin c steps.Release answer).given_up ≡ c.given_up
release_given origin c (answers.Released n) = released_given origin c c.flights
release_given origin c answer = refl

emit_given : (origin : Origin) (c : Course) (answer : Answer) → (course_after origin c steps.Emit answer).given_up ≡ c.given_up
emit_given origin c (answers.Emitted e) = refl
emit_given origin c answer = refl

refusal_given : (origin : Origin) (c : Course) (most : ℕ) (e : Refusal) → AnswersTake c.flights c most (answers.Refused e) → c.given_up ≡ []
    → (course_after origin c (steps.Take most) (answers.Refused e)).given_up ≡ []
refusal_given origin c most OutOfStep right none = absurd (out_of_step c.flights c most right none)
refusal_given origin c most e right none = none

take_given : (origin : Origin) (c : Course) (most : ℕ) (answer : Answer) (rest : List Answer) → AnswersTake c.flights c most answer → NoneGivenUp (answer ∷ rest)
    → c.given_up ≡ [] → (course_after origin c (steps.Take most) answer).given_up ≡ []
take_given origin c most (answers.Taken n) rest right up none = none
take_given origin c most (answers.GivenUp n) rest right up none = absurd up
take_given origin c most (answers.Refused e) rest right up none = refusal_given origin c most e right none
take_given origin c most answer rest right up none = none

next_refusal_given : (c : Course) (most : ℕ) (e : Refusal) → AnswersNext c.flights c most (answers.Refused e) → c.given_up ≡ []
    → (after_answered_take c most (answers.Refused e)).given_up ≡ []
next_refusal_given c most OutOfStep right none = absurd (next_out_of_step c.flights c most right none)
next_refusal_given c most e right none = none

next_given : (c : Course) (most : ℕ) (answer : Answer) (rest : List Answer) → AnswersNext c.flights c most answer → NoneGivenUp (answer ∷ rest)
    → c.given_up ≡ [] → (after_answered_take c most answer).given_up ≡ []
next_given c most (answers.Taken n) rest right up none = none
next_given c most (answers.GivenUp n) rest right up none = absurd up
next_given c most (answers.Refused e) rest right up none = next_refusal_given c most e right none
next_given c most answer rest right up none = none

given_stays : (origin : Origin) (c : Course) (step : Step) (answer : Answer) (rest : List Answer) → IsCalm step → AnswersOpen origin c step answer
    → NoneGivenUp (answer ∷ rest) → c.given_up ≡ [] → (course_after origin c step answer).given_up ≡ []
given_stays origin c (steps.Event moment event) answer rest calm right up none = event_given origin c moment event answer ∙ none
given_stays origin c (steps.Piece link moment bytes) answer rest calm right up none = piece_given origin c link moment bytes.items answer ∙ none
given_stays origin c (steps.Take most) answer rest calm right up none = take_given origin c most answer rest right up none
given_stays origin c (steps.Next most) answer rest calm right up none = next_given c most answer rest right up none
given_stays origin c steps.Checkpoint answer rest calm right up none = checkpoint_given origin c answer ∙ none
given_stays origin c steps.Call answer rest calm right up none = call_given origin c answer ∙ none
given_stays origin c steps.Fail answer rest calm right up none = none
given_stays origin c steps.Release answer rest calm right up none = release_given origin c answer ∙ none
given_stays origin c steps.List answer rest calm right up none = none
given_stays origin c steps.Emit answer rest calm right up none = emit_given origin c answer ∙ none
given_stays origin c (steps.Crash image) answer rest calm right up none = absurd calm

refusal_in_step : (c : Course) (most : ℕ) (e : Refusal) (rest : List Step) (others : List Answer) → AnswersTake c.flights c most (answers.Refused e) → c.given_up ≡ []
    → NoneOutOfStep rest others → NoneOutOfStep (steps.Take most ∷ rest) (answers.Refused e ∷ others)
refusal_in_step c most OutOfStep rest others right none h = absurd (out_of_step c.flights c most right none)
refusal_in_step c most e rest others right none h = h

take_in_step : (c : Course) (most : ℕ) (answer : Answer) (rest : List Step) (others : List Answer) → AnswersTake c.flights c most answer → c.given_up ≡ []
    → NoneOutOfStep rest others → NoneOutOfStep (steps.Take most ∷ rest) (answer ∷ others)
take_in_step c most (answers.Refused e) rest others right none h = refusal_in_step c most e rest others right none h
take_in_step c most answer rest others right none h = h

next_refusal_in_step : (c : Course) (most : ℕ) (e : Refusal) (rest : List Step) (others : List Answer) → AnswersNext c.flights c most (answers.Refused e) → c.given_up ≡ []
    → NoneOutOfStep rest others → NoneOutOfStep (steps.Next most ∷ rest) (answers.Refused e ∷ others)
next_refusal_in_step c most OutOfStep rest others right none h = absurd (next_out_of_step c.flights c most right none)
next_refusal_in_step c most e rest others right none h = h

next_in_step : (c : Course) (most : ℕ) (answer : Answer) (rest : List Step) (others : List Answer) → AnswersNext c.flights c most answer → c.given_up ≡ []
    → NoneOutOfStep rest others → NoneOutOfStep (steps.Next most ∷ rest) (answer ∷ others)
next_in_step c most (answers.Refused e) rest others right none h = next_refusal_in_step c most e rest others right none h
next_in_step c most answer rest others right none h = h

step_in_step : (origin : Origin) (c : Course) (step : Step) (answer : Answer) (rest : List Step) (others : List Answer) → AnswersOpen origin c step answer → c.given_up ≡ []
    → NoneOutOfStep rest others → NoneOutOfStep (step ∷ rest) (answer ∷ others)
step_in_step origin c (steps.Take most) answer rest others right none h = take_in_step c most answer rest others right none h
step_in_step origin c (steps.Next most) answer rest others right none h = next_in_step c most answer rest others right none h
step_in_step origin c step answer rest others right none h = h

emit_open : (origin : Origin) (c : Course) (answer : Answer) → (course_after origin c steps.Emit answer).is_open ≡ c.is_open
emit_open origin c (answers.Emitted e) = refl
emit_open origin c answer = refl

stays_open : (laws : RunLaws) (origin : Origin) (c : Course) (step : Step) (answer : Answer) → IsCalm step → c.is_open ≡ true → (course_after origin c step answer).is_open ≡ true
stays_open laws origin c steps.Emit answer calm is = emit_open origin c answer ∙ is
stays_open laws origin c (steps.Crash image) answer calm is = absurd calm
stays_open laws origin c (steps.Event moment event) answer calm is = (step_keeps laws origin c (steps.Event moment event) answer tt).is_open ∙ is
stays_open laws origin c (steps.Piece link moment bytes) answer calm is = (step_keeps laws origin c (steps.Piece link moment bytes) answer tt).is_open ∙ is
stays_open laws origin c (steps.Take most) answer calm is = (step_keeps laws origin c (steps.Take most) answer tt).is_open ∙ is
stays_open laws origin c (steps.Next most) answer calm is = (step_keeps laws origin c (steps.Next most) answer tt).is_open ∙ is
stays_open laws origin c steps.Checkpoint answer calm is = (step_keeps laws origin c steps.Checkpoint answer tt).is_open ∙ is
stays_open laws origin c steps.Call answer calm is = (step_keeps laws origin c steps.Call answer tt).is_open ∙ is
stays_open laws origin c steps.Fail answer calm is = (step_keeps laws origin c steps.Fail answer tt).is_open ∙ is
stays_open laws origin c steps.Release answer calm is = (step_keeps laws origin c steps.Release answer tt).is_open ∙ is
stays_open laws origin c steps.List answer calm is = (step_keeps laws origin c steps.List answer tt).is_open ∙ is

in_step_on : (laws : RunLaws) (origin : Origin) (c : Course) (steps : List Step) (told : List Answer) → AreRight origin c steps told → HasNoCrash steps → NoneGivenUp told
    → c.given_up ≡ [] → c.is_open ≡ true → NoneOutOfStep steps told
in_step_on laws origin c [] told right still up none is = tt
in_step_on laws origin c (s ∷ steps) [] right still up none is = absurd right
in_step_on laws origin c (s ∷ steps) (a ∷ told) right still up none is =
    let first = calm s steps still in
    let right0 = open_right origin c s a is right.0 in
    step_in_step origin c s a steps told right0 none
    (in_step_on laws origin (course_after origin c s a) steps told right.1 first.1 (none_before a told up) (given_stays origin c s a told first.0 right0 up none)
    (stays_open laws origin c s a first.0 is))

-- what a world at its beginning gave, if no step was a crash
pub one_life : (laws : RunLaws) (origin : Origin) (effects : List Effect) (steps : List Step) (told : List Answer) → AreRight origin (beginning origin) steps told → HasNoCrash steps
    → (course_of origin (beginning origin) steps told).left ≡ effects
    → IsOneLife origin (course_of origin (beginning origin) steps told) effects steps told
one_life laws origin effects steps told right still left =
    let lives =
    lives_on laws origin (beginning origin) [] steps told right still
    (record { released = refl; emitted = refl; within = omega arith; few = omega arith; is_open = refl }) in
    record { left = left; released = lives.released; emitted = lives.emitted; few = lives.few; in_step = λ up. in_step_on laws origin (beginning origin) steps told right still up refl refl }
