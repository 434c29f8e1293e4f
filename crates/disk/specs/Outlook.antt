-- Which calls of a disk fail, and what is known of that before they are made.
use Rattle.std.specs.Prelude.{◌≡◌, ◌+◌, ℕ, zero, suc, Bool, false, IsTrue, Result, MatchResult}

-- what is known about whether the coming calls succeed
pub data Outlook : Type 0 where
  -- nothing
  Unknown : Outlook
  -- they succeed
  AllSucceed : Outlook
  -- this many succeed, the next one fails, and then they succeed
  FailsAfter : ℕ → Outlook

-- one call, whether it succeeded, and what is known after it
abbrev pub IsForeseen : Outlook → Bool → Outlook → Type 0
IsForeseen Unknown succeeded after = after ≡ Unknown
IsForeseen AllSucceed succeeded after = IsTrue succeeded × (after ≡ AllSucceed)
IsForeseen (FailsAfter zero) succeeded after = (succeeded ≡ false) × (after ≡ AllSucceed)
IsForeseen (FailsAfter (suc n)) succeeded after = IsTrue succeeded × (after ≡ FailsAfter n)

-- one of the coming calls fails
abbrev pub IsArmed : Outlook → Type 0
IsArmed Unknown = ⊥
IsArmed AllSucceed = ⊥
IsArmed (FailsAfter n) = Unit {0}

-- an error is returned exactly if the call was counted as a failure
abbrev pub HasCause : {T E : Type 0} → ℕ → ℕ → Result T E → Type 0
HasCause before now result = MatchResult result (λ _. now ≡ before) (λ _. now ≡ before + 1)
