-- The result of a command.
use Rattle.std.specs.Prelude.{◌≡◌, List, [], ◌∷◌}
use Rattle.devices.specs.declared.device.Device.{Device}
use Rattle.devices.specs.declared.effect.Effect.{Effect}
use Rattle.devices.specs.declared.effect.Effect.TheVariants as effects
use Rattle.devices.specs.declared.effect.Report.{Report}

-- the record after a command, and its effects in order
pub record DeviceStep : Type 0 where
  pub device : Device
  pub effects : List Effect

abbrev pub device_step : Device → List Effect → DeviceStep
device_step device effects = record { device = device; effects = effects }

-- this record and these effects are the result
abbrev pub IsDeviceStep : DeviceStep → Device × List Effect → Type 0
IsDeviceStep o found = (found.0 ≡ o.device) × (found.1 ≡ o.effects)

-- a report to the device's application
abbrev pub report_effects : Device → Report → List Effect
report_effects d report = effects.Report d.application d.dev_eui report ∷ []
