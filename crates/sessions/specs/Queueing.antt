-- Queueing an item, or MAC commands, for an application's device (TS001-1.0.4 §4.3.2, §5).
use Rattle.std.specs.Prelude.{◌==◌, ◌&&◌, ◌+◌, ℕ, Bool, nat_lt, if◌then◌else◌, List, [], ◌∷◌, ◌++◌}
use Rattle.std.specs.Prelude.{Result, Ok, Err, length}
use Rattle.lw_types.specs.declared.identifiers.Eui.{Eui}
use Rattle.lw_types.specs.declared.refusal.Refusal.{Refusal}
use Rattle.lw_types.specs.declared.refusal.Refusal.TheVariants.{UnknownDevEui, TooLong, BadPort}
use Rattle.lw_types.specs.declared.refusal.Refusal.TheVariants.{QueueFull, BadMac, MacQueueFull}
use Rattle.devices.specs.MacQueue.{may_queue}
use Rattle.devices.specs.DeviceStep.{DeviceStep, device_step, report_effects}
use Rattle.devices.specs.declared.command.Queueing.{Queueing}
use Rattle.devices.specs.declared.command.MacQueueing.{MacQueueing}
use Rattle.devices.specs.declared.device.Device.{Device}
use Rattle.devices.specs.declared.mac_queue.TheConstants.MacQueue.{MOST as LONGEST_MAC_QUEUE}
use Rattle.devices.specs.declared.queue.Item.{Item}
use Rattle.devices.specs.declared.effect.Report.TheVariants.{Queued, MacQueued}
use Rattle.uplinks.specs.Accepted.{is_application}

-- whether this is the device that an application asks for, and belongs to it
abbrev pub is_theirs : ℕ → Eui → Device → Bool
is_theirs application dev_eui d = (dev_eui.0 == d.dev_eui.0) && (application == d.application)

-- ---- items

abbrev pub queued_item : Queueing → Item
queued_item q = record { tag = q.tag; port = q.port; confirmed = q.confirmed; payload = q.payload }

-- the item waits after the others
abbrev pub with_item : Device → Queueing → Device
with_item d q = record d { items = d.items ++ queued_item q ∷ [] }

abbrev pub item_queued : Device → Queueing → DeviceStep
item_queued d q = device_step (with_item d q) (report_effects d (Queued q.tag))

-- at most 16 items wait
abbrev pub if_room : Device → Queueing → Result DeviceStep Refusal
if_room d q = if nat_lt (length d.items) 16 then Ok (item_queued d q) else Err QueueFull

-- the port is an application's
abbrev pub if_port : Device → Queueing → Result DeviceStep Refusal
if_port d q = if is_application q.port then if_room d q else Err BadPort

-- the payload has at most 242 bytes
abbrev pub if_short : Device → Queueing → Result DeviceStep Refusal
if_short d q = if nat_lt 242 (length q.payload) then Err TooLong else if_port d q

-- an item is queued for a device, or refused
abbrev pub queue_at : Device → Queueing → Result DeviceStep Refusal
queue_at d q = if is_theirs q.application q.dev_eui d then if_short d q else Err UnknownDevEui

-- ---- MAC commands

-- the commands wait after the others
abbrev pub with_commands : Device → List ℕ → Device
with_commands d commands = record d { mac_queue = d.mac_queue ++ commands }

abbrev pub commands_queued : Device → List ℕ → DeviceStep
commands_queued d commands =
    device_step (with_commands d commands) (report_effects d (MacQueued commands))

-- no more bytes wait than the queue has room for
abbrev pub if_mac_room : Device → List ℕ → Result DeviceStep Refusal
if_mac_room d commands =
    if nat_lt LONGEST_MAC_QUEUE (length d.mac_queue + length commands)
    then Err MacQueueFull
    else Ok (commands_queued d commands)

-- the bytes are whole commands that may be queued
abbrev pub if_commands : Device → List ℕ → Result DeviceStep Refusal
if_commands d commands = if may_queue commands then if_mac_room d commands else Err BadMac

-- MAC commands are queued for a device, or refused
abbrev pub queue_mac_at : Device → MacQueueing → Result DeviceStep Refusal
queue_mac_at d q =
    if is_theirs q.application q.dev_eui d then if_commands d q.commands else Err UnknownDevEui
