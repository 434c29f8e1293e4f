-- The record that a command leaves is one that its device may have after the record before.
use Rattle.std.proofs.Common.{◌≡◌, ◌&&◌, ◌==◌, ◌^◌, ◌+◌, ℕ, Bool, true, false, cond, List, [], ◌∷◌, length, Option, Some, None, Ok, inl, inr, nat_lt, refl, subst, sym}
use Rattle.std.proofs.lemmas.Bool.{ltb-true}
use Rattle.std.specs.Option.{IfSome}
use Rattle.lw_types.specs.declared.refusal.Refusal.TheVariants.{BadMac, BadPort, DevEuiTaken, MacQueueFull, QueueFull, Repeat, TooLong, UnknownDevEui}
use Rattle.devices.specs.Activation.{Grants}
use Rattle.devices.specs.declared.Tag.{Tag}
use Rattle.devices.specs.declared.TheConstants.{LAST_HEARD}
use Rattle.devices.specs.Becoming.{AreItemsAfter, IsHeardAfter, MayBecome}
use Rattle.devices.specs.Device.{one_more_heard}
use Rattle.devices.specs.DeviceStep.{DeviceStep, device_step}
use Rattle.devices.specs.MacQueue.{may_queue}
use Rattle.devices.specs.declared.command.Command.{Command}
use Rattle.devices.specs.declared.command.Command.TheVariants.{Heard, Provision, Queue, QueueMac}
use Rattle.devices.specs.declared.command.MacQueueing.{MacQueueing}
use Rattle.devices.specs.declared.command.Queueing.{Queueing}
use Rattle.devices.specs.declared.activation.CurrentSession.{CurrentSession}
use Rattle.devices.specs.declared.device.Device.{Device}
use Rattle.devices.specs.declared.effect.Effect.{Effect}
use Rattle.devices.specs.declared.heard.Hearing.{Hearing}
use Rattle.devices.specs.declared.mac_queue.TheConstants.MacQueue.{MOST as LONGEST_MAC_QUEUE}
use Rattle.devices.specs.declared.queue.Item.{Item}
use Rattle.downlinks.specs.Load.{is_downlink_due, fitting_item, items_behind}
use Rattle.downlinks.specs.Reply.{acknowledgement_step, answer_step}
use Rattle.downlinks.specs.declared.load.Demand.{Demand}
use Rattle.uplinks.specs.Accepted.{demand_of, heard_after, session_after, uplink_step, with_uplink}
use Rattle.uplinks.specs.Step.{step_in_session}
use Rattle.uplinks.specs.declared.fit.Fit.{Fit}
use Rattle.uplinks.specs.declared.fit.Fit.TheVariants.{Again, First, Next}
use Rattle.uplinks.specs.declared.uplink.Uplink as declared
use Rattle.sessions.specs.Queueing as queueing
use Rattle.sessions.specs.Queueing.{commands_queued, if_commands, if_mac_room, if_port, if_room, if_short, is_theirs, item_queued, queue_at, queue_mac_at}
use Rattle.sessions.specs.Served.{served_at}
use Rattle.sessions.specs.Step.{step1}
use Rattle.sessions.specs.declared.served.Served.{Served}
use Rattle.sessions.specs.declared.served.Served.TheVariants.{Request, Uplink}
use Rattle.sessions.proofs.Frames.{heard-ok, uplink-ok}
use Rattle.sessions.proofs.Joins.{join-ok, no_ok, ok_is, where_false, where_true}
use Rattle.sessions.proofs.Uplinks.{uplink-fits}

abbrev Follows : Device → DeviceStep → Type 0
Follows d o = MayBecome d o.device

-- any other change of a record that keeps what its device was provisioned with
kept : (d : Device) (dev_nonce : Option ℕ) (activation : Grants) (awaited : Option Tag) (mac_queue : List ℕ) (items : List Item) → AreItemsAfter d.items items
    → MayBecome d (record d { last_dev_nonce = dev_nonce; activation = activation; awaited = awaited; mac_queue = mac_queue; items = items })
kept d dev_nonce activation awaited mac_queue items after = record {
  provisioned = record { dev_eui = refl; join_eui = refl; app_key = refl; application = refl; rx1_offset = refl; rx_delay = refl };
  items = after;
  heard = inl refl;
}

-- ---- queues

queued : (d : Device) (q : Queueing) → Follows d (item_queued d q)
queued d q = kept d _ _ _ _ _ (inr (inr (queueing.queued_item q, refl)))

queue-follows : (d : Device) (q : Queueing) (o : DeviceStep) → queue_at d q ≡ Ok o → Follows d o
queue-follows d q o is =
    let theirs = where_true (is_theirs q.application q.dev_eui d) (if_short d q) UnknownDevEui o is in
    let short = where_false (nat_lt 242 (length q.payload)) (if_port d q) TooLong o theirs.1 in
    let port = where_true (nat_lt 0 q.port && nat_lt q.port 224) (if_room d q) BadPort o short in
    let room = where_true (nat_lt (length d.items) 16) (Ok (item_queued d q)) QueueFull o port.1 in
    subst (Follows d) (ok_is (item_queued d q) o room.1) (queued d q)

commanded : (d : Device) (commands : List ℕ) → Follows d (commands_queued d commands)
commanded d commands = kept d _ _ _ _ _ (inl refl)

queue_mac-follows : (d : Device) (q : MacQueueing) (o : DeviceStep) → queue_mac_at d q ≡ Ok o → Follows d o
queue_mac-follows d q o is =
    let theirs = where_true (is_theirs q.application q.dev_eui d) (if_commands d q.commands) UnknownDevEui o is in
    let whole = where_true (may_queue q.commands) (if_mac_room d q.commands) BadMac o theirs.1 in
    let room = where_false (nat_lt LONGEST_MAC_QUEUE (length d.mac_queue + length q.commands)) (Ok (commands_queued d q.commands)) MacQueueFull o whole.1 in
    subst (Follows d) (ok_is (commands_queued d q.commands) o room) (commanded d q.commands)

-- ---- a device is answered

-- the record keeps what it was provisioned with, its items and its count
same_but : (d : Device) → MayBecome d d
same_but d = kept d _ _ _ _ _ (inl refl)

gone : (going : Option Item) (items : List Item) → AreItemsAfter items (items_behind going items)
gone None items = inl refl
gone (Some item) [] = inl refl
gone (Some item) (first ∷ items) = inr (inl (first, refl))

sent-follows : (d : Device) (spent : Bool) (effects : List Effect) (sent : DeviceStep) → Follows d sent → Follows d (cond spent (device_step d effects) sent)
sent-follows d true effects sent follows = same_but d
sent-follows d false effects sent follows = follows

due-follows : (d : Device) (due : Bool) (o : DeviceStep) → Follows d o → Follows d (cond due o (device_step d []))
due-follows d true o follows = follows
due-follows d false o follows = same_but d

answer-follows : (net_id slot : ℕ) (d : Device) (c : CurrentSession) (asked : Demand) → Follows d (answer_step net_id slot d c asked)
answer-follows net_id slot d c asked =
    due-follows d (is_downlink_due d asked) _
    (sent-follows d (c.next_down == 2 ^ 32) _ _
    (kept d _ _ _ _ _ (gone (fitting_item d asked) d.items)))

acknowledgement-follows : (net_id slot : ℕ) (d : Device) (c : CurrentSession) (best : Hearing) → Follows d (acknowledgement_step net_id slot d c best)
acknowledgement-follows net_id slot d c best =
    sent-follows d (c.next_down == 2 ^ 32) _ _
    (kept d _ _ _ _ _ (inl refl))

-- an answer doesn't change the count
sent-heard : (d : Device) (spent : Bool) (effects : List Effect) (sent : DeviceStep) → sent.device.heard ≡ d.heard → (cond spent (device_step d effects) sent).device.heard ≡ d.heard
sent-heard d true effects sent same = refl
sent-heard d false effects sent same = same

due-heard : (d : Device) (due : Bool) (o : DeviceStep) → o.device.heard ≡ d.heard → (cond due o (device_step d [])).device.heard ≡ d.heard
due-heard d true o same = same
due-heard d false o same = refl

answer-heard : (net_id slot : ℕ) (d : Device) (c : CurrentSession) (asked : Demand) → (answer_step net_id slot d c asked).device.heard ≡ d.heard
answer-heard net_id slot d c asked = due-heard d (is_downlink_due d asked) _ (sent-heard d (c.next_down == 2 ^ 32) _ _ refl)

-- ---- uplinks

one_more : (heard : ℕ) → IsHeardAfter heard (one_more_heard heard)
one_more heard = at (nat_lt heard LAST_HEARD) refl
  where
    at : (b : Bool) → nat_lt heard LAST_HEARD ≡ b → IsHeardAfter heard (cond b (heard + 1) heard)
    at true before = inr (ltb-true heard LAST_HEARD before, refl)
    at false before = inl refl

heard-follows : (fit : Fit) (heard : ℕ) → IsHeardAfter heard (heard_after fit heard)
heard-follows (First s counter) heard = one_more heard
heard-follows (Next c counter) heard = one_more heard
heard-follows (Again c) heard = inl refl

taken-follows : (net_id slot : ℕ) (d : Device) (fit : Fit) (u : declared.Uplink) (copies : ℕ) (best : Hearing) → Follows d (uplink_step net_id slot d fit u copies best)
taken-follows net_id slot d fit u copies best =
    let c : CurrentSession = session_after fit in
    let asked : Demand = demand_of c u copies best in
    let answered = answer-follows net_id slot (with_uplink d fit) c asked in
    let p = answered.provisioned in
    record {
      provisioned = record {
        dev_eui = p.dev_eui;
        join_eui = p.join_eui;
        app_key = p.app_key;
        application = p.application;
        rx1_offset = p.rx1_offset;
        rx_delay = p.rx_delay;
      };
      items = answered.items;
      heard = subst (IsHeardAfter d.heard) (sym (answer-heard net_id slot (with_uplink d fit) c asked)) (heard-follows fit d.heard);
    }

fitted-follows : (net_id slot : ℕ) (d : Device) (u : declared.Uplink) (copies : ℕ) (best : Hearing) (fit : Fit) (o : DeviceStep) → step_in_session net_id slot d u copies best fit ≡ Ok o
    → Follows d o
fitted-follows net_id slot d u copies best (First s n) o is =
    subst (Follows d) (ok_is (uplink_step net_id slot d (First s n) u copies best) o is) (taken-follows net_id slot d (First s n) u copies best)
fitted-follows net_id slot d u copies best (Next c n) o is =
    subst (Follows d) (ok_is (uplink_step net_id slot d (Next c n) u copies best) o is) (taken-follows net_id slot d (Next c n) u copies best)
fitted-follows net_id slot d u copies best (Again c) o is =
    let acked = where_true u.frame.confirmed (Ok (acknowledgement_step net_id slot d c best)) Repeat o is in
    subst (Follows d) (ok_is (acknowledgement_step net_id slot d c best) o acked.1) (acknowledgement-follows net_id slot d c best)

-- ---- commands

served-follows : (net_id slot : ℕ) (d : Device) (hearings : List Hearing) (served : Served) (o : DeviceStep) → served_at net_id slot d hearings served ≡ Ok o → Follows d o
served-follows net_id slot d hearings (Request bytes) o is =
    let granted = join-ok net_id slot d hearings bytes o is in
    subst (Follows d) granted.is
    (kept d _ _ _ _ _ (inl refl))
served-follows net_id slot d hearings (Uplink u) o is =
    let found = uplink-fits net_id slot d hearings u o (uplink-ok net_id slot d hearings u o is).1 in
    fitted-follows net_id slot d u (length hearings) found.0 found.1 o found.3

pub command-follows : (net_id slot : ℕ) (before : Option Device) (c : Command) (o : DeviceStep) → step1 net_id slot before c ≡ Ok o → IfSome before (λ d. MayBecome d o.device)
command-follows net_id slot None c o is = tt
command-follows net_id slot (Some d) (Provision p) o is = no_ok DevEuiTaken o _ is
command-follows net_id slot (Some d) (Heard h) o is = let found = heard-ok net_id slot d h o is in served-follows net_id slot d h.hearings found.0 o found.2
command-follows net_id slot (Some d) (Queue q) o is = queue-follows d q o is
command-follows net_id slot (Some d) (QueueMac q) o is = queue_mac-follows d q o is
