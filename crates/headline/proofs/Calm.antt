-- If all calls of a disk are to succeed, they do as long as no step arms a failure.
use Rattle.std.proofs.Common.{◌≡◌, List, [], ◌∷◌, ap, refl}
use Rattle.lw_types.specs.declared.refusal.Refusal.TheVariants.{DeviceFailed}
use Rattle.disk.specs.Outlook.Outlook.{AllSucceed}
use Rattle.world.specs.declared.answer.Answer.{Answer}
use Rattle.world.specs.declared.answer.Answer.TheVariants as answers
use Rattle.world.specs.declared.step.Step.{Step}
use Rattle.world.specs.declared.step.Step.TheVariants as steps
use Rattle.world.specs.Calls.{CallRecord, calls_after, calls_of, outlook_after_success, outlook_after_opening}
use Rattle.headline.specs.Failing.{ArmsNothing}

both : (step : Step) (rest : List Step) → ArmsNothing (step ∷ rest) → ArmsNothing (step ∷ []) × ArmsNothing rest
both steps.Fail rest nothing = absurd nothing
both step rest nothing = (tt, nothing)

one_step : (calls : CallRecord) (step : Step) (answer : Answer) → ArmsNothing (step ∷ []) → calls.coming ≡ AllSucceed
    → (calls_after calls step answer).coming ≡ AllSucceed
one_step calls steps.Fail answer nothing calm = absurd nothing
one_step calls steps.Call answers.Called nothing calm = ap outlook_after_success calm
one_step calls steps.Call (answers.Refused e) nothing calm = refl
one_step calls steps.Call answer nothing calm = calm
one_step calls (steps.Crash image) (answers.Refused DeviceFailed) nothing calm = refl
one_step calls (steps.Crash image) (answers.Refused e) nothing calm = ap outlook_after_opening calm
one_step calls (steps.Crash image) answer nothing calm = ap outlook_after_opening calm
one_step calls step answer nothing calm = calm

pub stays_calm : (calls : CallRecord) (steps : List Step) (answers : List Answer) → ArmsNothing steps → calls.coming ≡ AllSucceed
    → (calls_of calls steps answers).coming ≡ AllSucceed
stays_calm calls [] answers nothing calm = calm
stays_calm calls (step ∷ rest) [] nothing calm = calm
stays_calm calls (step ∷ rest) (answer ∷ others) nothing calm =
    let parts = both step rest nothing in
    stays_calm (calls_after calls step answer) rest others parts.1 (one_step calls step answer parts.0 calm)
