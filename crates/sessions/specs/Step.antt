-- What a command does to one device.
use Rattle.std.specs.Prelude.{ℕ, List, [], ◌∷◌, Option, Some, None, Result, Ok, Err}
use Rattle.lw_types.specs.declared.refusal.Refusal.{Refusal}
use Rattle.lw_types.specs.declared.refusal.Refusal.TheVariants.{DevEuiTaken, UnknownDevEui}
use Rattle.devices.specs.Device.{new_device}
use Rattle.devices.specs.DeviceStep.{DeviceStep, device_step}
use Rattle.devices.specs.declared.device.Device.{Device}
use Rattle.devices.specs.declared.command.Provisioning.{Provisioning}
use Rattle.devices.specs.declared.command.Command.{Command}
use Rattle.devices.specs.declared.command.Command.TheVariants.{Provision, Heard, Queue, QueueMac}
use Rattle.devices.specs.declared.effect.Effect.{Effect}
use Rattle.devices.specs.declared.effect.Effect.TheVariants.{Report}
use Rattle.devices.specs.declared.effect.Report.TheVariants.{Provisioned}
use Rattle.sessions.specs.Served.{heard_step, unheard}
use Rattle.sessions.specs.Queueing.{queue_at, queue_mac_at}

-- the slot of a new device is reported
abbrev pub provisioned_effects : ℕ → Provisioning → List Effect
provisioned_effects slot p = Report p.application p.dev_eui (Provisioned slot) ∷ []

-- What a command does to the record of a slot, or to an empty slot, in a network. Four cases only
-- make the definition total; no command of a table reaches them. A new device gets the next slot,
-- which has no record. Other commands change the slot of a known device, so those that are for, or
-- from, no known device are refused before.
abbrev pub step1 : ℕ → ℕ → Option Device → Command → Result DeviceStep Refusal
-- a device is provisioned at an empty slot
step1 net_id slot None (Provision p) = Ok (device_step (new_device p) (provisioned_effects slot p))
step1 net_id slot (Some device) (Provision p) = Err DevEuiTaken  -- not reached
-- a frame is from a known device
step1 net_id slot None (Heard h) = unheard h  -- not reached
step1 net_id slot (Some device) (Heard h) = heard_step net_id slot device h
-- items and MAC commands are queued for a known device
step1 net_id slot None (Queue q) = Err UnknownDevEui  -- not reached
step1 net_id slot (Some device) (Queue q) = queue_at device q
step1 net_id slot None (QueueMac q) = Err UnknownDevEui  -- not reached
step1 net_id slot (Some device) (QueueMac q) = queue_mac_at device q
