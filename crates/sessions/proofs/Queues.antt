-- What is known of an item, or of MAC commands, that were queued for a device.
use Rattle.std.proofs.Common.{◌≡◌, ◌&&◌, ℕ, Bool, true, false, nat_eq, nat_lt, [], length, ◌+◌, Ok, refl, subst}
use Rattle.std.proofs.lemmas.Bool.{eqb-true, false≢true}
use Rattle.lw_types.specs.declared.identifiers.Eui.{Eui}
use Rattle.lw_types.specs.declared.refusal.Refusal.TheVariants.{BadMac, BadPort, MacQueueFull, QueueFull, TooLong, UnknownDevEui}
use Rattle.devices.specs.MacQueue.{may_queue}
use Rattle.devices.specs.declared.command.MacQueueing.{MacQueueing}
use Rattle.devices.specs.declared.command.Queueing.{Queueing}
use Rattle.devices.specs.declared.device.Device.{Device}
use Rattle.devices.specs.declared.mac_queue.TheConstants.MacQueue.{MOST as LONGEST_MAC_QUEUE}
use Rattle.sessions.specs.Marks.{marks_of}
use Rattle.devices.specs.DeviceStep.{DeviceStep}
use Rattle.sessions.specs.Queueing.{commands_queued, if_commands, if_mac_room, if_port, if_room, if_short, is_theirs, item_queued, queue_at, queue_mac_at}
use Rattle.sessions.proofs.Joins.{ok_is, where_false, where_true}

-- ---- what was queued

-- the command names the device, which keeps its name and its grants; and it used up no mark
pub record IsQueued (d : Device) (dev_eui : Eui) (o : DeviceStep) : Type 0 where
  pub asked : dev_eui.0 ≡ d.dev_eui.0
  pub named : d.dev_eui ≡ o.device.dev_eui
  pub same : d.activation ≡ o.device.activation
  pub unmarked : marks_of o.effects ≡ []

first_of : (a b : Bool) → a && b ≡ true → a ≡ true
first_of true b h = refl
first_of false b h = absurd (false≢true h)

asked_so : (application : ℕ) (dev_eui : Eui) (d : Device) → is_theirs application dev_eui d ≡ true → dev_eui.0 ≡ d.dev_eui.0
asked_so application dev_eui d theirs =
    eqb-true dev_eui.0 d.dev_eui.0 (first_of (nat_eq dev_eui.0 d.dev_eui.0) (nat_eq application d.application) theirs)

pub queue-ok : (d : Device) (q : Queueing) (o : DeviceStep) → queue_at d q ≡ Ok o → IsQueued d q.dev_eui o
queue-ok d q o is =
    let theirs = where_true (is_theirs q.application q.dev_eui d) (if_short d q) UnknownDevEui o is in
    let short = where_false (nat_lt 242 (length q.payload)) (if_port d q) TooLong o theirs.1 in
    let port = where_true (nat_lt 0 q.port && nat_lt q.port 224) (if_room d q) BadPort o short in
    let room = where_true (nat_lt (length d.items) 16) (Ok (item_queued d q)) QueueFull o port.1 in
    subst (IsQueued d q.dev_eui) (ok_is (item_queued d q) o room.1)
    (record { asked = asked_so q.application q.dev_eui d theirs.0; named = refl; same = refl; unmarked = refl })

pub queue_mac-ok : (d : Device) (q : MacQueueing) (o : DeviceStep) → queue_mac_at d q ≡ Ok o → IsQueued d q.dev_eui o
queue_mac-ok d q o is =
    let theirs = where_true (is_theirs q.application q.dev_eui d) (if_commands d q.commands) UnknownDevEui o is in
    let whole = where_true (may_queue q.commands) (if_mac_room d q.commands) BadMac o theirs.1 in
    let room = where_false (nat_lt LONGEST_MAC_QUEUE (length d.mac_queue + length q.commands)) (Ok (commands_queued d q.commands)) MacQueueFull o whole.1 in
    subst (IsQueued d q.dev_eui) (ok_is (commands_queued d q.commands) o room)
    (record { asked = asked_so q.application q.dev_eui d theirs.0; named = refl; same = refl; unmarked = refl })
