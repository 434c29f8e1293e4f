-- The table of a network's devices, and what commands do to it.
use Rattle.std.specs.Prelude.{◌≡◌, ◌==◌, ◌<◌, ◌≤◌, ℕ, List, [], ◌∷◌, ◌++◌, length, take, drop, suc}
use Rattle.std.specs.Prelude.{nat_lt, if◌then◌else◌, Option, Some, None, Result, Ok, Err, slice_get}
use Rattle.std.specs.List.{position_from}
use Rattle.std.specs.Option.{MatchOption}
use Rattle.lw_types.specs.declared.refusal.Refusal.{Refusal}
use Rattle.lw_types.specs.declared.refusal.Refusal.TheVariants.{DevEuiTaken, TableFull}
use Rattle.lw_types.specs.declared.refusal.Refusal.TheVariants.{UnknownDevAddr, UnknownDevEui}
use Rattle.devices.specs.declared.device.Device.{Device}
use Rattle.devices.specs.declared.command.Command.{Command}
use Rattle.devices.specs.declared.command.Command.TheVariants.{Provision, Heard, Queue, QueueMac}
use Rattle.devices.specs.declared.effect.Effect.{Effect}
use Rattle.devices.specs.Address.{slot_at}
use Rattle.devices.specs.DeviceStep.{DeviceStep}
use Rattle.join_server.specs.Request.{dev_eui_of}
use Rattle.uplinks.specs.Chain.{◌>>=◌}
use Rattle.sessions.specs.Join.{join_ask, transaction_of}
use Rattle.sessions.specs.Served.{received_in}
use Rattle.sessions.specs.Step.{step1}
use Rattle.sessions.specs.declared.table.hear.Question.{Question}
use Rattle.sessions.specs.declared.served.Served.{Served}
use Rattle.sessions.specs.declared.served.Served.TheVariants.{Request, Uplink}

-- a network's devices by slot, and the number of slots
pub record TableState : Type 0 where
  pub net_id : ℕ
  pub slots : ℕ
  pub devices : List Device

-- a table has this many slots
abbrev pub IsSlots : ℕ → Type 0
IsSlots slots = (1 ≤ slots) × (slots ≤ 4096)

-- a table without devices
abbrev pub empty_table : ℕ → ℕ → TableState
empty_table net_id slots = record { net_id = net_id; slots = slots; devices = [] }

-- the slot of the device with this DevEUI
abbrev pub slot_of : ℕ → List Device → Option ℕ
slot_of dev_eui devices = position_from (λ d. d.dev_eui.0 == dev_eui) 0 devices

-- the next slot, if there is one
abbrev pub next_slot : TableState → Result ℕ Refusal
next_slot t = if nat_lt (length t.devices) t.slots then Ok (length t.devices) else Err TableFull

-- a new device takes the next slot
abbrev pub new_slot : TableState → Option ℕ → Result ℕ Refusal
new_slot t (Some taken) = Err DevEuiTaken
new_slot t None = next_slot t

-- the slot of a known device
abbrev pub known_slot : Option ℕ → Result ℕ Refusal
known_slot (Some slot) = Ok slot
known_slot None = Err UnknownDevEui

-- a slot that has a device
abbrev pub used_slot : ℕ → Option Device → Result ℕ Refusal
used_slot slot (Some device) = Ok slot
used_slot slot None = Err UnknownDevAddr

-- the slot of the device that sent a frame: that of a Join-Request's DevEUI, or that to which an
-- uplink's address leads
abbrev pub sender_slot : TableState → Served → Result ℕ Refusal
sender_slot t (Request bytes) = known_slot (slot_of (dev_eui_of bytes) t.devices)
sender_slot t (Uplink u) =
    used_slot (slot_at u.frame.dev_addr.0) (slice_get t.devices (slot_at u.frame.dev_addr.0))

-- the question to the join server for the device that sent a Join-Request
pub record IsQuestion (t : TableState) (seq : ℕ) (request : List ℕ) (q : Question) : Type 0 where
  pub sender : slot_of (dev_eui_of request) t.devices ≡ Some q.slot
  pub at : slice_get t.devices q.slot ≡ Some q.device.now
  pub is : q.ask ≡ join_ask t.net_id q.slot q.device.now request (transaction_of seq)

-- the slot that a command changes: the next one for a new device, otherwise that of the device that
-- it is for or from
abbrev pub place_for : TableState → Command → Result ℕ Refusal
place_for t (Provision p) = new_slot t (slot_of p.dev_eui.0 t.devices)
place_for t (Heard h) = received_in h >>= sender_slot t
place_for t (Queue q) = known_slot (slot_of q.dev_eui.0 t.devices)
place_for t (QueueMac q) = known_slot (slot_of q.dev_eui.0 t.devices)

-- the devices with this record at this slot, which is a slot in use or the next one
abbrev pub with_device : ℕ → Device → List Device → List Device
with_device slot device devices = take slot devices ++ device ∷ drop (suc slot) devices

-- the next slot, if there is one, takes a device whose DevEUI no other device has
abbrev pub TakesNext : TableState → ℕ → Device → Type 0
TakesNext t slot device =
    (slot ≡ length t.devices) × (slot < t.slots) × (slot_of device.dev_eui.0 t.devices ≡ None)

-- a slot in use takes a record of its own device, and the next slot takes one of a device that
-- isn't in the table yet
abbrev pub CanPlace : TableState → ℕ → Device → Type 0
CanPlace t slot device =
    MatchOption (slice_get t.devices slot) (TakesNext t slot device)
    (λ old. old.dev_eui ≡ device.dev_eui)

-- an image may put a record at a slot in use or at the next one, with a DevEUI that no other slot
-- has
abbrev pub CanPut : TableState → ℕ → Device → Type 0
CanPut t slot device =
    (slot ≤ length t.devices) × (slot < t.slots)
    × MatchOption (slot_of device.dev_eui.0 t.devices) (Unit {0}) (λ own. own ≡ slot)

-- the table with this record at this slot
abbrev pub with_record : TableState → ℕ → Device → TableState
with_record t slot device = record t { devices = with_device slot device t.devices }

-- a command's slot, the record there before it, and what it does there
pub record TableStep : Type 0 where
  pub slot : ℕ
  pub before : Option Device
  pub after : Device
  pub effects : List Effect

abbrev pub step_at : ℕ → Option Device → DeviceStep → TableStep
step_at slot before o =
    record { slot = slot; before = before; after = o.device; effects = o.effects }

-- what a command does in a table
abbrev pub step : TableState → Command → Result TableStep Refusal
step t command = do
  slot ← place_for t command
  outcome ← step1 t.net_id slot (slice_get t.devices slot) command
  Ok (step_at slot (slice_get t.devices slot) outcome)

-- the table with a step's record
abbrev pub with_step : TableState → Result TableStep Refusal → TableState
with_step t (Ok s) = with_record t s.slot s.after
with_step t (Err e) = t

abbrev pub step_effects : Result TableStep Refusal → List Effect
step_effects (Ok s) = s.effects
step_effects (Err e) = []

-- the table after these commands; one that is refused changes nothing
abbrev pub fold_of : TableState → List Command → TableState
fold_of t [] = t
fold_of t (command ∷ commands) = fold_of (with_step t (step t command)) commands

-- the effects of these commands, in order
abbrev pub effects_of : TableState → List Command → List Effect
effects_of t [] = []
effects_of t (command ∷ commands) =
    step_effects (step t command) ++ effects_of (with_step t (step t command)) commands
