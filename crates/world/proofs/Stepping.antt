-- One more step in a run.
use Rattle.std.proofs.Common.{◌≡◌, ℕ, List, [], ◌∷◌, ◌++◌, sym, subst, refl}
use Rattle.disk.specs.Outlook.{Outlook}
use Rattle.disk.specs.declared.disk.Disk.{Ghosts}
use Rattle.disk.specs.State.{State}
use Rattle.world.specs.declared.answer.Answer.{Answer}
use Rattle.world.specs.declared.step.Step.{Step}
use Rattle.world.specs.declared.condition.Condition.{Condition}
use Rattle.world.specs.declared.world.World.{World}
use Rattle.world.specs.Calls.{CallRecord, calls_after, calls_of, IsForetold, AreForetold, AreCallsAt, ForetellsAt, ForetellsAll}
use Rattle.world.specs.Course.{Origin, Course, course_after, course_of}
use Rattle.world.specs.Answers.{AreRight, IsRight}
use Rattle.world.specs.Follows.{Follows, Moves, Runs}
use Rattle.world.specs.Stepping.{MakesStep, MakesSteps}

one_more : (origin : Origin) (c : Course) (steps : List Step) (answers : List Answer) (step : Step) (answer : Answer) → AreRight origin c steps answers
    → IsRight origin (course_of origin c steps answers) step answer
    → AreRight origin c (steps ++ step ∷ []) (answers ++ answer ∷ [])
    × (course_of origin c (steps ++ step ∷ []) (answers ++ answer ∷ []) ≡ course_after origin (course_of origin c steps answers) step answer)
one_more origin c [] [] step answer before right = ((right, tt), refl)
one_more origin c [] (a ∷ answers) step answer before right = absurd before
one_more origin c (s ∷ steps) [] step answer before right = absurd before
one_more origin c (s ∷ steps) (a ∷ answers) step answer before right =
    let rest = one_more origin (course_after origin c s a) steps answers step answer before.1 right in ((before.0, rest.0), rest.1)

pub runs_on : {D : Type 0} {g : _} (state : D → State) (old mid new : World D g) (steps : List Step) (answers : List Answer) (step : Step) (answer : Answer)
    → Runs state old steps answers mid → Moves state mid step answer new → Runs state old (steps ++ step ∷ []) (answers ++ answer ∷ []) new
runs_on state old mid new steps answers step answer run move origin c f =
    let before = run origin c f in
    let moved = move origin (course_of origin c steps answers) before.1 in
    let more = one_more origin c steps answers step answer before.0 moved.0 in
    (more.0, subst (λ k. Follows state origin k new) (sym more.1) moved.1)

-- the same of what is known of the disk's calls
one_told : (calls : CallRecord) (steps : List Step) (answers : List Answer) (step : Step) (answer : Answer) → AreForetold calls steps answers
    → IsForetold (calls_of calls steps answers) step answer
    → AreForetold calls (steps ++ step ∷ []) (answers ++ answer ∷ [])
    × (calls_of calls (steps ++ step ∷ []) (answers ++ answer ∷ []) ≡ calls_after (calls_of calls steps answers) step answer)
one_told calls [] [] step answer before told = ((told, tt), refl)
one_told calls [] (a ∷ answers) step answer before told = absurd before
one_told calls (s ∷ steps) [] step answer before told = absurd before
one_told calls (s ∷ steps) (a ∷ answers) step answer before told =
    let rest = one_told (calls_after calls s a) steps answers step answer before.1 told in ((before.0, rest.0), rest.1)

pub foretells_on : {D : Type 0} {g : _} (failures : D → ℕ) (outlook : D → Outlook) (old mid new : Condition D g) (steps : List Step) (answers : List Answer)
    (step : Step) (answer : Answer) → ForetellsAll failures outlook old steps answers mid → ForetellsAt failures outlook mid step answer new
    → ForetellsAll failures outlook old (steps ++ step ∷ []) (answers ++ answer ∷ []) new
foretells_on failures outlook old mid new steps answers step answer run move calls known =
    let before = run calls known in
    let moved = move (calls_of calls steps answers) before.1 in
    let more = one_told calls steps answers step answer before.0 moved.0 in
    (more.0, subst (λ k. AreCallsAt failures outlook k new) (sym more.1) moved.1)

-- and of the worlds between
pub makes_more : {D : Type 0} (disk : Ghosts D) (old mid new : World D disk) (steps : List Step) (answers : List Answer) (step : Step) (answer : Answer)
    → MakesSteps disk old steps answers mid → MakesStep disk mid step answer new
    → MakesSteps disk old (steps ++ step ∷ []) (answers ++ answer ∷ []) new
makes_more disk old mid new [] [] step answer is made = (new, (subst (λ w. MakesStep disk w step answer new) is made, refl))
makes_more disk old mid new [] (a ∷ answers) step answer before made = absurd before
makes_more disk old mid new (s ∷ steps) [] step answer before made = absurd before
makes_more disk old mid new (s ∷ steps) (a ∷ answers) step answer before made =
    (before.0, (before.1.0, makes_more disk before.0 mid new steps answers step answer before.1.1 made))
