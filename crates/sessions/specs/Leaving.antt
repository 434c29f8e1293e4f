-- What a step leaves: a record and effects.
use Rattle.std.specs.Prelude.{◌≡◌, List, Result, Ok, Err, IfErr}
use Rattle.std.proofs.Common.{subst, sym}
use Rattle.lw_types.specs.declared.refusal.Refusal.{Refusal}
use Rattle.devices.specs.DeviceStep.{DeviceStep}
use Rattle.devices.specs.declared.device.Device.{Device}
use Rattle.devices.specs.declared.effect.Effect.{Effect}

-- the effects of a step that isn't refused
abbrev pub effects_left : Result DeviceStep Refusal → Result (List Effect) Refusal
effects_left (Ok s) = Ok s.effects
effects_left (Err e) = Err e

-- the record that a step with these effects leaves
abbrev pub record_left : (r : Result DeviceStep Refusal) (effects : List Effect)
    → effects_left r ≡ Ok effects → Device
record_left (Ok s) effects same = s.device
record_left (Err e) effects same = absurd (subst (λ r. IfErr r (λ _. ⊥)) (sym same) tt)
