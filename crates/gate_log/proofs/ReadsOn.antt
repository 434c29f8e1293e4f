-- Calls that only read, one after another.
use Rattle.std.proofs.Common.{◌≡◌, ℕ, zero, suc, Bool, true, false, ◌∙◌, not, arith}
use Rattle.std.specs.Prelude.{MatchBool}
use Rattle.disk.specs.Outlook.{IsArmed, IsForeseen, Outlook}
use Rattle.disk.specs.Outlook.Outlook.{Unknown, AllSucceed, FailsAfter}
use Rattle.disk.specs.State.{State}
use Rattle.gate_log.specs.Recover.{OnlyReads}

pub reads_on : {D : Type 0} (honest : Type 0) (state : D → State) (failures : D → ℕ) (outlook : D → Outlook) (a b c : D) (failed : Bool) → OnlyReads honest state failures outlook a b false → OnlyReads honest state failures outlook b c failed → OnlyReads honest state failures outlook a c failed
reads_on honest state failures outlook a b c true first second = record {
  same = λ h. second.same h ∙ first.same h;
  same_length = second.same_length ∙ first.same_length;
  cause = omega (arith, first.cause, second.cause);
  unarmed = λ is. second.unarmed (first.unarmed is).1;
  armed = λ is. second.armed (first.armed is);
}
reads_on honest state failures outlook a b c false first second = record {
  same = λ h. second.same h ∙ first.same h;
  same_length = second.same_length ∙ first.same_length;
  cause = second.cause ∙ first.cause;
  unarmed = λ is. second.unarmed (first.unarmed is).1;
  armed = λ is. second.armed (first.armed is);
}

-- one call when one of the coming ones fails: it is this one, or a later one
pub armed_call : (before after : Outlook) (succeeded : Bool) → IsForeseen before succeeded after → IsArmed before → MatchBool (not succeeded) (after ≡ AllSucceed) (IsArmed after)
armed_call Unknown after succeeded foreseen armed = absurd armed
armed_call AllSucceed after succeeded foreseen armed = absurd armed
armed_call (FailsAfter zero) after true foreseen armed = cc foreseen.0
armed_call (FailsAfter zero) after false foreseen armed = foreseen.1
armed_call (FailsAfter (suc n)) after true foreseen armed = rw foreseen.1 tt
armed_call (FailsAfter (suc n)) after false foreseen armed = cc foreseen.0
