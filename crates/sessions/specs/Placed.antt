-- Decisions whose records were moved into a table.
use Rattle.std.specs.Prelude.{◌≡◌, List, Result, Ok, Err, IfErr}
use Rattle.std.proofs.Common.{ap, subst, sym}
use Rattle.lw_types.specs.declared.refusal.Refusal.{Refusal}
use Rattle.devices.specs.DeviceStep.{DeviceStep, device_step}
use Rattle.devices.specs.declared.effect.Effect.{Effect}
use Rattle.sessions.specs.Leaving.{effects_left, record_left}
use Rattle.sessions.specs.Step.{step1}
use Rattle.sessions.specs.declared.decision.Decision.{Decision}
use Rattle.sessions.specs.declared.placed.Placed.TheInside.{Inside}

-- a step is the record and the effects that it leaves
abbrev step_with : DeviceStep → Result (List Effect) Refusal → Result DeviceStep Refusal
step_with s (Ok effects) = Ok (device_step s.device effects)
step_with s (Err e) = Err e

abbrev is_whole : (r : Result DeviceStep Refusal) (effects : List Effect)
    (same : effects_left r ≡ Ok effects) → r ≡ Ok (device_step (record_left r effects same) effects)
is_whole (Ok s) effects same = ap (step_with s) same
is_whole (Err e) effects same = absurd (subst (λ r. IfErr r (λ _. ⊥)) (sym same) tt)

-- the decision with the record that its command makes of the one before
abbrev pub whole_decision : Inside → Decision
whole_decision p = record {
  net_id = p.net_id;
  seq = p.seq;
  slot = p.slot;
  before = p.before;
  command = p.command;
  after = record_left (step1 p.net_id p.slot p.before p.command) p.effects p.is_step;
  effects = p.effects;
  is_step = is_whole (step1 p.net_id p.slot p.before p.command) p.effects p.is_step;
}
