-- What is known of the coming calls of a disk, call by call.
use Rattle.std.proofs.Common.{◌≡◌, ◌≢◌, ◌+◌, ◌<◌, ◌^◌, ◌∙◌, ℕ, zero, suc, Bool, true, false, cond, nat_lt, sym, ap, subst, refl, arith}
use Rattle.std.proofs.lemmas.Bool.{ltb-true}
use Rattle.lw_types.specs.declared.refusal.Refusal.{Refusal}
use Rattle.lw_types.specs.declared.refusal.Refusal.TheVariants.{DeviceFailed}
use Rattle.lw_types.specs.Refusal.{number_of}
use Rattle.disk.specs.declared.sim.Image.{Image}
use Rattle.disk.specs.Outlook.{Outlook, IsArmed, IsForeseen}
use Rattle.disk.specs.Outlook.Outlook.{Unknown, AllSucceed, FailsAfter}
use Rattle.world.specs.declared.answer.Answer.{Answer}
use Rattle.world.specs.declared.answer.Answer.TheVariants as answers
use Rattle.world.specs.declared.step.Step.{Step}
use Rattle.world.specs.declared.step.Step.TheVariants as steps
use Rattle.world.specs.Calls.{CallRecord, AreRecordedCalls, IsForetold, IsKnownOutlook, IsNoFailure, MaySucceed, MayFail, MayFailSoon, armed_outlook, outlook_after_success, outlook_after_opening, calls_after_failure, calls_after}

no_true : true ≡ false → ⊥
no_true h = cc

no_false : false ≡ true → ⊥
no_false h = cc

-- a call that succeeded
passes : (known before after : Outlook) → IsKnownOutlook known before → IsForeseen before true after → MaySucceed known × IsKnownOutlook (outlook_after_success known) after
passes Unknown before after is seen = (tt, tt)
passes AllSucceed before after is seen = (tt, (subst (λ o. IsForeseen o true after) is seen).1)
passes (FailsAfter zero) before after is seen = absurd (no_true (subst (λ o. IsForeseen o true after) is seen).0)
passes (FailsAfter (suc n)) before after is seen = (tt, (subst (λ o. IsForeseen o true after) is seen).1)

-- one that failed was armed, if it is always known whether one will fail
falls : (before after : Outlook) → before ≢ Unknown → IsForeseen before false after → (before ≡ FailsAfter 0) × (after ≡ AllSucceed)
falls Unknown after known seen = absurd (known refl)
falls AllSucceed after known seen = absurd (no_false seen.0)
falls (FailsAfter zero) after known seen = (refl, seen.1)
falls (FailsAfter (suc n)) after known seen = absurd (no_false seen.0)

may_fail : (known before : Outlook) → IsKnownOutlook known before → before ≡ FailsAfter 0 → MayFail known
may_fail Unknown before is armed = tt
may_fail AllSucceed before is armed = other (sym is ∙ armed)
  where
    other : AllSucceed ≡ FailsAfter 0 → ⊥
    other h = cc
may_fail (FailsAfter zero) before is armed = tt
may_fail (FailsAfter (suc n)) before is armed = other (sym is ∙ armed)
  where
    other : FailsAfter (suc n) ≡ FailsAfter 0 → ⊥
    other h = cc

module _ (calls : CallRecord) (failures failures' : ℕ) (before after : Outlook) (are : AreRecordedCalls calls failures before) where
  pub call_passed : failures' ≡ failures → IsForeseen before true after
      → MaySucceed calls.coming × AreRecordedCalls (record calls { coming = outlook_after_success calls.coming }) failures' after
  call_passed same seen =
      let found = passes calls.coming before after are.known seen in
      (found.0, record { counted = same ∙ are.counted; known = found.1 })

  pub call_fell : failures' ≡ failures + 1 → before ≢ Unknown → IsForeseen before false after → MayFail calls.coming × AreRecordedCalls (calls_after_failure calls) failures' after
  call_fell more known seen =
      let found = falls before after known seen in
      (may_fail calls.coming before are.known found.0, record { counted = more ∙ ap (λ n. n + 1) are.counted; known = found.1 })

  -- no call
  pub unseen : failures' ≡ failures → after ≡ before → AreRecordedCalls calls failures' after
  unseen same is = record { counted = same ∙ are.counted; known = subst (IsKnownOutlook calls.coming) (sym is) are.known }

  -- the next call is to fail
  pub arming : failures' ≡ failures → (failures + 1 < 2 ^ 64 → after ≡ FailsAfter 0) → AreRecordedCalls (record calls { coming = armed_outlook calls.failed }) failures' after
  arming same arms = record { counted = same ∙ are.counted; known = by (nat_lt (calls.failed + 1) (2 ^ 64)) refl }
    where
      by : (b : Bool) → nat_lt (calls.failed + 1) (2 ^ 64) ≡ b → IsKnownOutlook (cond b (FailsAfter 0) Unknown) after
      by true below =
          let count = are.counted in
          let small : calls.failed + 1 < 2 ^ 64 = ltb-true (calls.failed + 1) (2 ^ 64) below in
          arms (omega (arith, count, small))
      by false below = tt

-- the calls of an opening, of which none failed
opening_ok : (known before after : Outlook) → IsKnownOutlook known before → (before ≡ AllSucceed → after ≡ AllSucceed) → (before ≡ FailsAfter 0 → ⊥)
    → MaySucceed known × IsKnownOutlook (outlook_after_opening known) after
opening_ok Unknown before after is all first = (tt, tt)
opening_ok AllSucceed before after is all first = (tt, all is)
opening_ok (FailsAfter zero) before after is all first = absurd (first is)
opening_ok (FailsAfter (suc n)) before after is all first = (tt, tt)

-- and of which one failed
opening_fell : (before after : Outlook) → before ≢ Unknown → (before ≡ AllSucceed → ⊥) → (IsArmed before → after ≡ AllSucceed) → after ≡ AllSucceed
opening_fell Unknown after known all used = absurd (known refl)
opening_fell AllSucceed after known all used = absurd (all refl)
opening_fell (FailsAfter n) after known all used = used tt

may_fail_soon : (known before : Outlook) → IsKnownOutlook known before → (before ≡ AllSucceed → ⊥) → MayFailSoon known
may_fail_soon AllSucceed before is all = all is
may_fail_soon known before is all = tt

module _ (calls : CallRecord) (failures failures' : ℕ) (before after : Outlook) (are : AreRecordedCalls calls failures before) where
  pub opening_passed : failures' ≡ failures → (before ≡ AllSucceed → after ≡ AllSucceed) → (before ≡ FailsAfter 0 → ⊥)
      → MaySucceed calls.coming × AreRecordedCalls (record calls { coming = outlook_after_opening calls.coming }) failures' after
  opening_passed same all first =
      let found = opening_ok calls.coming before after are.known all first in
      (found.0, record { counted = same ∙ are.counted; known = found.1 })

  pub opening_failed : failures' ≡ failures + 1 → before ≢ Unknown → (before ≡ AllSucceed → ⊥) → (IsArmed before → after ≡ AllSucceed)
      → MayFailSoon calls.coming × AreRecordedCalls (calls_after_failure calls) failures' after
  opening_failed more known all used = (
    may_fail_soon calls.coming before are.known all,
    record { counted = more ∙ ap (λ n. n + 1) are.counted; known = opening_fell before after known all used },
  )

-- an answer of an opening of which no call failed
pub none_failed : (calls : CallRecord) (image : Image) (answer : Answer) → IsNoFailure answer
    → (calls_after calls (steps.Crash image) answer ≡ record calls { coming = outlook_after_opening calls.coming })
    × (MaySucceed calls.coming → IsForetold calls (steps.Crash image) answer)
none_failed calls image (answers.Refused DeviceFailed) quiet = absurd quiet
none_failed calls image (answers.Refused e) quiet = (refl, λ may. may)
none_failed calls image answer quiet = (refl, λ may. may)

-- an opening that was refused
pub opening_told : (calls : CallRecord) (failures failures' : ℕ) (before after : Outlook) (image : Image) (e : Refusal) → AreRecordedCalls calls failures before → before ≢ Unknown
    → (e ≡ DeviceFailed → failures' ≡ failures + 1) × (e ≢ DeviceFailed → failures' ≡ failures)
    → (before ≡ AllSucceed → (e ≢ DeviceFailed) × (after ≡ AllSucceed)) → (before ≡ FailsAfter 0 → (e ≡ DeviceFailed) × (after ≡ AllSucceed))
    → (IsArmed before → e ≡ DeviceFailed → after ≡ AllSucceed)
    → IsForetold calls (steps.Crash image) (answers.Refused e) × AreRecordedCalls (calls_after calls (steps.Crash image) (answers.Refused e)) failures' after
opening_told calls failures failures' before after image DeviceFailed are known counted all first armed =
    opening_failed calls failures failures' before after are (counted.0 refl) known (λ is. (all is).0 refl) (λ is. armed is refl)
opening_told calls failures failures' before after image e are known counted all first armed =
    opening_passed calls failures failures' before after are (counted.1 (λ is. let n = ap number_of is in absurd (omega (arith, n)))) (λ is. (all is).1)
    (λ is. let n = ap number_of (first is).0 in absurd (omega (arith, n)))

-- a step that finds nothing to do
pub idle_told : (calls : CallRecord) (step : Step) → ((image : Image) → step ≡ steps.Crash image → ⊥)
    → IsForetold calls step answers.Idle × (calls_after calls step answers.Idle ≡ calls)
idle_told calls (steps.Crash image) other = absurd (other image refl)
idle_told calls step other = (tt, refl)

-- a store that was formatted
pub formatted_known : (before after : Outlook) → (before ≡ AllSucceed → after ≡ AllSucceed) → IsKnownOutlook (outlook_after_opening before) after
formatted_known Unknown after all = tt
formatted_known AllSucceed after all = all refl
formatted_known (FailsAfter n) after all = tt
