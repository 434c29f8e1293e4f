-- A decision is whole without its record, and a frame's step has one decision.
use Rattle.std.proofs.Common.{◌≡◌, Result, Ok, List, refl, sym, subst, ap}
use Rattle.std.proofs.Props.{props}
use Rattle.lw_types.specs.declared.refusal.Refusal.{Refusal}
use Rattle.devices.specs.DeviceStep.{DeviceStep, device_step}
use Rattle.devices.specs.declared.command.Command.TheVariants as command
use Rattle.devices.specs.declared.device.Device.{Device}
use Rattle.devices.specs.declared.effect.Effect.{Effect}
use Rattle.devices.specs.declared.heard.Heard.{Heard}
use Rattle.sessions.specs.HeardStep.{IsStepOf, heard_decision}
use Rattle.sessions.specs.Leaving.{effects_left, record_left}
use Rattle.sessions.specs.Step.{step1}
use Rattle.sessions.specs.declared.decision.Decision.{Decision}
use Rattle.sessions.specs.declared.heard_step.HeardStep.{HeardStep}

-- the record of a step is what it leaves
record_is : (r : Result DeviceStep Refusal) (after : Device) (effects : List Effect) → r ≡ Ok (device_step after effects)
    → (same : effects_left r ≡ Ok effects) → record_left r effects same ≡ after
record_is r after effects e =
    subst (λ (x : Result DeviceStep Refusal). (same : effects_left x ≡ Ok effects) → record_left x effects same ≡ after) (sym e) (λ _. refl)

abbrev with_record : (d : Decision) (after : Device) → step1 d.net_id d.slot d.before d.command ≡ Ok (device_step after d.effects) → Decision
with_record d after is_step = record d { after = after; is_step = is_step }

-- a step has one record
with_own : (d : Decision) (after : Device) → after ≡ d.after → (is_step : step1 d.net_id d.slot d.before d.command ≡ Ok (device_step after d.effects))
    → with_record d after is_step ≡ d
with_own d after same =
    subst (λ (x : Device). (is_step : step1 d.net_id d.slot d.before d.command ≡ Ok (device_step x d.effects)) → with_record d x is_step ≡ d) (sym same)
    (λ is_step. let one : IsProp (step1 d.net_id d.slot d.before d.command ≡ Ok (device_step d.after d.effects)) = hlevel props in ap (with_record d d.after) (one is_step d.is_step))

pub whole_is : (d : Decision) (same : effects_left (step1 d.net_id d.slot d.before d.command) ≡ Ok d.effects)
    (is_step : step1 d.net_id d.slot d.before d.command ≡ Ok (device_step (record_left (step1 d.net_id d.slot d.before d.command) d.effects same) d.effects))
    → with_record d (record_left (step1 d.net_id d.slot d.before d.command) d.effects same) is_step ≡ d
whole_is d same = with_own d (record_left (step1 d.net_id d.slot d.before d.command) d.effects same) (record_is (step1 d.net_id d.slot d.before d.command) d.after d.effects d.is_step same)

-- a step with its frame is one decision
pub one-decision : (s : HeardStep) (heard : Heard) (one other : IsStepOf s heard) → heard_decision s heard one ≡ heard_decision s heard other
one-decision s heard one other =
    let same : IsProp (step1 s.net_id s.slot s.before (command.Heard heard) ≡ Ok (device_step s.after s.effects)) = hlevel props in ap (heard_decision s heard) (same one other)
