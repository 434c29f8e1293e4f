-- What is known of the calls of a disk from the steps and their answers alone.
use Rattle.std.specs.Prelude.{◌≡◌, ◌+◌, ◌^◌, ℕ, zero, suc, nat_lt, if◌then◌else◌, List, [], ◌∷◌}
use Rattle.lw_types.specs.declared.refusal.Refusal.TheVariants.{DeviceFailed}
use Rattle.disk.specs.declared.sim.Image.{Image}
use Rattle.disk.specs.Outlook.{Outlook}
use Rattle.disk.specs.Outlook.Outlook.{Unknown, AllSucceed, FailsAfter}
use Rattle.world.specs.declared.answer.Answer.{Answer}
use Rattle.world.specs.declared.answer.Answer.TheVariants as answers
use Rattle.world.specs.declared.step.Step.{Step}
use Rattle.world.specs.declared.step.Step.TheVariants as steps
use Rattle.world.specs.declared.condition.Condition.{Condition}
use Rattle.world.specs.Sound.{HasDisk}

-- how many calls have failed, and what the coming ones will return
pub record CallRecord : Type 0 where
  pub failed : ℕ
  pub coming : Outlook

-- what is known once the next call is to fail; a disk that has failed 2^64 - 1 times fails no more
abbrev pub armed_outlook : ℕ → Outlook
armed_outlook failed = if nat_lt (failed + 1) (2 ^ 64) then FailsAfter 0 else Unknown

-- after a call that succeeded
abbrev pub outlook_after_success : Outlook → Outlook
outlook_after_success (FailsAfter (suc n)) = FailsAfter n
outlook_after_success coming = coming

-- after an opening whose calls succeeded
abbrev pub outlook_after_opening : Outlook → Outlook
outlook_after_opening (FailsAfter n) = Unknown
outlook_after_opening coming = coming

-- after a call that failed: an armed failure is used up
abbrev pub calls_after_failure : CallRecord → CallRecord
calls_after_failure calls = record { failed = calls.failed + 1; coming = AllSucceed }

-- after a step with this answer
abbrev pub calls_after : CallRecord → Step → Answer → CallRecord
calls_after calls steps.Fail answers.Armed = record calls { coming = armed_outlook calls.failed }
calls_after calls steps.Call answers.Called =
    record calls { coming = outlook_after_success calls.coming }
calls_after calls steps.Call (answers.Refused e) = calls_after_failure calls
calls_after calls (steps.Crash image) (answers.Refused DeviceFailed) = calls_after_failure calls
calls_after calls (steps.Crash image) answer =
    record calls { coming = outlook_after_opening calls.coming }
calls_after calls step answer = calls

-- and after these steps
abbrev pub calls_of : CallRecord → List Step → List Answer → CallRecord
calls_of calls (step ∷ rest) (answer ∷ others) =
    calls_of (calls_after calls step answer) rest others
calls_of calls rest others = calls

-- whether the next call may succeed
abbrev pub MaySucceed : Outlook → Type 0
MaySucceed (FailsAfter zero) = ⊥
MaySucceed coming = Unit {0}

-- whether it may fail
abbrev pub MayFail : Outlook → Type 0
MayFail AllSucceed = ⊥
MayFail (FailsAfter (suc n)) = ⊥
MayFail coming = Unit {0}

-- whether one of those that an opening makes may fail
abbrev pub MayFailSoon : Outlook → Type 0
MayFailSoon AllSucceed = ⊥
MayFailSoon coming = Unit {0}

-- no call failed
abbrev pub IsNoFailure : Answer → Type 0
IsNoFailure (answers.Refused DeviceFailed) = ⊥
IsNoFailure answer = Unit {0}

-- A call or an opening is refused as DeviceFailed if one of its calls is to fail, as far as that is
-- known, and no other step is. The first call of an opening comes before memory is allocated, and
-- before anything is read.
abbrev pub IsForetold : CallRecord → Step → Answer → Type 0
IsForetold calls steps.Call answers.Called = MaySucceed calls.coming
IsForetold calls steps.Call (answers.Refused e) = (e ≡ DeviceFailed) × MayFail calls.coming
IsForetold calls (steps.Crash image) (answers.Refused DeviceFailed) = MayFailSoon calls.coming
IsForetold calls (steps.Crash image) answer = MaySucceed calls.coming
IsForetold calls step answer = IsNoFailure answer

-- the same of each step of a run
abbrev pub AreForetold : CallRecord → List Step → List Answer → Type 0
AreForetold calls [] [] = Unit {0}
AreForetold calls (step ∷ rest) (answer ∷ others) =
    IsForetold calls step answer × AreForetold (calls_after calls step answer) rest others
AreForetold calls rest others = ⊥

-- what is known of the coming calls is true
abbrev pub IsKnownOutlook : Outlook → Outlook → Type 0
IsKnownOutlook Unknown outlook = Unit {0}
IsKnownOutlook AllSucceed outlook = outlook ≡ AllSucceed
IsKnownOutlook (FailsAfter n) outlook = outlook ≡ FailsAfter n

-- the calls of a disk that has counted these failures and has this outlook
pub record AreRecordedCalls (calls : CallRecord) (failures : ℕ) (outlook : Outlook) : Type 0 where
  pub counted : failures ≡ calls.failed
  pub known : IsKnownOutlook calls.coming outlook

-- those of the disk of a world
abbrev pub AreCallsAt : {D : Type 0} {g : _} → (D → ℕ) → (D → Outlook) → CallRecord → Condition D g
    → Type 0
AreCallsAt {D} failures outlook calls condition =
    (disk : D) → HasDisk condition disk → AreRecordedCalls calls (failures disk) (outlook disk)

-- A step with this disk before and that disk after: for everything known of the disk's calls, the
-- answer is as foretold, and what the answer says of them is true.
abbrev pub Foretells : {D : Type 0} → (D → ℕ) → (D → Outlook) → D → Step → Answer → D → Type 0
Foretells failures outlook before step answer now =
    (calls : CallRecord) → AreRecordedCalls calls (failures before) (outlook before)
    → IsForetold calls step answer
    × AreRecordedCalls (calls_after calls step answer) (failures now) (outlook now)

-- the same of an opening of a disk that crashed to this image
abbrev pub ForetellsOpening : {D : Type 0} {g : _} → (D → ℕ) → (D → Outlook) → D → Answer
    → Condition D g → Type 0
ForetellsOpening failures outlook disk answer condition =
    (image : Image) (calls : CallRecord) → AreRecordedCalls calls (failures disk) (outlook disk)
    → IsForetold calls (steps.Crash image) answer
    × AreCallsAt failures outlook (calls_after calls (steps.Crash image) answer) condition

-- of a step of a world
abbrev pub ForetellsAt : {D : Type 0} {g : _} → (D → ℕ) → (D → Outlook) → Condition D g → Step
    → Answer → Condition D g → Type 0
ForetellsAt failures outlook old step answer new =
    (calls : CallRecord) → AreCallsAt failures outlook calls old
    → IsForetold calls step answer × AreCallsAt failures outlook (calls_after calls step answer) new

-- and of a run of steps
abbrev pub ForetellsAll : {D : Type 0} {g : _} → (D → ℕ) → (D → Outlook) → Condition D g → List Step
    → List Answer → Condition D g → Type 0
ForetellsAll failures outlook old steps answers new =
    (calls : CallRecord) → AreCallsAt failures outlook calls old
    → AreForetold calls steps answers
    × AreCallsAt failures outlook (calls_of calls steps answers) new
