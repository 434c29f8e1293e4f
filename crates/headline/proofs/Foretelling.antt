-- What is foretold of calls is also true for an observer who knows nothing of the coming ones.
use Rattle.std.proofs.Common.{◌≡◌, ◌⊎◌, inl, inr, ℕ, List, [], ◌∷◌, ap, refl, subst, sym}
use Rattle.lw_types.specs.declared.refusal.Refusal.TheVariants.{DeviceFailed}
use Rattle.disk.specs.Outlook.{Outlook}
use Rattle.disk.specs.Outlook.Outlook.{Unknown, AllSucceed, FailsAfter}
use Rattle.world.specs.declared.answer.Answer.{Answer}
use Rattle.world.specs.declared.answer.Answer.TheVariants as answers
use Rattle.world.specs.declared.step.Step.{Step}
use Rattle.world.specs.declared.step.Step.TheVariants as steps
use Rattle.world.specs.Calls.{AreForetold, CallRecord, IsForetold, calls_after, outlook_after_opening}

abbrev nothing_known : CallRecord → CallRecord
nothing_known calls = record calls { coming = Unknown }

one_step : (calls : CallRecord) (step : Step) (answer : Answer) → IsForetold calls step answer → IsForetold (nothing_known calls) step answer
one_step calls steps.Call answers.Called h = tt
one_step calls steps.Call (answers.Refused e) h = (h.0, tt)
one_step calls (steps.Crash image) (answers.Refused DeviceFailed) h = tt
one_step calls (steps.Crash image) answer h = tt
one_step calls step answer h = h

-- one observer knows what the other knows, or nothing
abbrev KnowsLess : CallRecord → CallRecord → Type 0
KnowsLess less more = (less ≡ more) ⊎ (less ≡ nothing_known more)

after : (calls : CallRecord) (step : Step) (answer : Answer) → KnowsLess (calls_after (nothing_known calls) step answer) (calls_after calls step answer)
after calls steps.Fail answers.Armed = inl refl
after calls steps.Call answers.Called = inr refl
after calls steps.Call (answers.Refused e) = inl refl
after calls (steps.Crash image) (answers.Refused DeviceFailed) = inl refl
after calls (steps.Crash image) answer = inr refl
after calls step answer = inr refl

by_less : (less more : CallRecord) (steps : List Step) (answers : List Answer) → KnowsLess less more → AreForetold more steps answers
    → AreForetold (nothing_known more) steps answers → AreForetold less steps answers
by_less less more steps answers (inl same) known unknown = subst (λ calls. AreForetold calls steps answers) (sym same) known
by_less less more steps answers (inr is) known unknown = subst (λ calls. AreForetold calls steps answers) (sym is) unknown

foretold_unknown : (calls : CallRecord) (steps : List Step) (answers : List Answer) → AreForetold calls steps answers
    → AreForetold (nothing_known calls) steps answers
foretold_unknown calls [] [] h = tt
foretold_unknown calls [] (answer ∷ others) h = absurd h
foretold_unknown calls (step ∷ rest) [] h = absurd h
foretold_unknown calls (step ∷ rest) (answer ∷ others) (first, later) = (
  one_step calls step answer first,
  by_less (calls_after (nothing_known calls) step answer) (calls_after calls step answer) rest others (after calls step answer) later
      (foretold_unknown (calls_after calls step answer) rest others later),
)

before_opening : (failed : ℕ) (first last : Outlook) → (first ≡ AllSucceed → last ≡ AllSucceed)
    → KnowsLess (record { failed = failed; coming = outlook_after_opening first }) (record { failed = failed; coming = outlook_after_opening last })
before_opening failed Unknown last calm = inr refl
before_opening failed AllSucceed last calm = inl (sym (ap (λ coming. record { failed = failed; coming = outlook_after_opening coming }) (calm refl)))
before_opening failed (FailsAfter n) last calm = inr refl

-- What is foretold after calls of which none failed was foretold before them, as far as calls that
-- all succeed leave the others to succeed.
pub foretold_before : (failed now : ℕ) (first last : Outlook) (steps : List Step) (answers : List Answer) → now ≡ failed
    → (first ≡ AllSucceed → last ≡ AllSucceed)
    → AreForetold (record { failed = now; coming = outlook_after_opening last }) steps answers
    → AreForetold (record { failed = failed; coming = outlook_after_opening first }) steps answers
foretold_before failed now first last steps answers none calm h =
    let more : CallRecord = record { failed = failed; coming = outlook_after_opening last } in
    let known : AreForetold more steps answers =
    subst (λ (n : ℕ). AreForetold (record { failed = n; coming = outlook_after_opening last }) steps answers) none h in
    by_less (record { failed = failed; coming = outlook_after_opening first }) more steps answers (before_opening failed first last calm) known
    (foretold_unknown more steps answers known)
