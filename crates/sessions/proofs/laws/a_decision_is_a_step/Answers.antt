use Rattle.devices.specs.DeviceStep.{device_step}
use Rattle.sessions.proofs.Becoming.{command-follows}
use Rattle.sessions.proofs.laws.a_decision_is_a_step.Goals as goal

pub returns : goal.returns
returns c = λ d. command-follows d.net_id d.slot d.before d.command (device_step d.after d.effects) d.is_step
