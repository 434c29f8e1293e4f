-- How long a change is.
use Rattle.std.proofs.Common.{◌≡◌, ℕ, ◌+◌, ◌≤◌, List, ◌∷◌, ◌++◌, length, Option, Some, None, arith}
use Rattle.std.specs.Prelude.{IfSome}
use Rattle.std.proofs.lemmas.List.{length-append}
use Rattle.lw_types.specs.Hex.{IsBytes}
use Rattle.byte_fields.specs.Spelling.{counted_bytes}
use Rattle.devices.specs.declared.Tag.{Tag}
use Rattle.devices.specs.declared.activation.Session.{Session}
use Rattle.devices.specs.declared.activation.CurrentSession.{CurrentSession}
use Rattle.devices.specs.declared.device.Device.{Device}
use Rattle.devices.specs.Activation.{Grants}
use Rattle.record_codec.specs.DeviceRecord.{awaited_bytes, dev_nonce, granted_bytes, optional_current, optional_session, IsCurrentSession, IsSession}
use Rattle.record_codec.specs.Version.{longest_mac_queue}
use Rattle.record_codec.specs.declared.version.RecordVersion.{RecordVersion}
use Rattle.record_codec.specs.declared.version.RecordVersion.TheVariants.{V1, V2}
use Rattle.record_codec.specs.Change.{Added, ItemChange, Leaves, IsChangeOf, IsCurrentGroup, IsItemChange, change_bytes, counters_bytes, group_bytes, item_change_bytes, mask, nonces_bytes}
use Rattle.record_codec.proofs.ChangeFields.{group_text}
use Rattle.record_codec.proofs.Lengths.{has_awaited, has_dev_nonce, has_granted, has_item, has_optional_current, has_optional_session}

most_nonces : (o : Option (Option ℕ × Option ℕ)) → length (group_bytes nonces_bytes o) ≤ 6
most_nonces None = omega arith
most_nonces (Some n) =
    let long = length-append (dev_nonce n.0) (granted_bytes n.1) in
    let one = (has_dev_nonce n.0).1 in
    let two = (has_granted n.1).1 in
    omega arith

most_current : (o : Option (Option CurrentSession)) (n : Option (ℕ × ℕ)) (b a : Grants) → IsCurrentGroup o n b a → IfSome o (λ x. IfSome x IsCurrentSession)
    → length (group_bytes optional_current o) + length (group_bytes counters_bytes n) ≤ 48
most_current (Some x) (Some n) b a h is = absurd (let k : Some n ≡ None = h.2 in cc)
most_current (Some x) None b a h is = let most = (has_optional_current x is).1 in omega arith
most_current None (Some n) b a h is = omega arith
most_current None None b a h is = omega arith

most_pending : (o : Option (Option Session)) → IfSome o (λ x. IfSome x IsSession) → length (group_bytes optional_session o) ≤ 36
most_pending None is = omega arith
most_pending (Some x) is = let most = (has_optional_session x is).1 in omega arith

most_awaited : (o : Option (Option Tag)) → length (group_bytes awaited_bytes o) ≤ 5
most_awaited None = omega arith
most_awaited (Some x) = let most = (has_awaited x).1 in omega arith

most_queue : (most : ℕ) (o : Option (List ℕ)) → IfSome o (λ q. IsBytes q × (length q ≤ most)) → length (group_bytes counted_bytes o) ≤ 1 + most
most_queue most None is = omega arith
most_queue most (Some q) is = let few = is.1 in omega arith

most_items : (o : Option ItemChange) → IfSome o IsItemChange → length (group_bytes item_change_bytes o) ≤ 250
most_items None is = omega arith
most_items (Some Leaves) is = omega arith
most_items (Some (Added i)) is = let most = (has_item i is).1 in omega arith

seven : (a b c d e f g : List ℕ) → length (a ++ (b ++ (c ++ (d ++ (e ++ (f ++ g)))))) ≡ length a + (length b + (length c + (length d + (length e + (length f + length g)))))
seven a b c d e f g = simp length-append

-- the largest change, in bytes, given the length of its MAC queue
most_parts : (v : RecordVersion) (before after : Device) (bytes : List ℕ) → IsChangeOf v before after bytes → length bytes ≤ 347 + longest_mac_queue v
unfolding change_bytes
most_parts v before after bytes h =
    let c = h.0 in
    let r = h.1 in
    let nonces = most_nonces c.nonces in
    let current = most_current c.current c.counters before.activation after.activation h.2.current r.current in
    let pending = most_pending c.pending r.pending in
    let awaited = most_awaited c.awaited in
    let queue = most_queue (longest_mac_queue v) c.mac_queue r.mac_queue in
    let items = most_items c.items r.items in
    let long = seven (group_bytes nonces_bytes c.nonces) (group_bytes optional_current c.current) (group_bytes counters_bytes c.counters) (group_bytes optional_session c.pending) (group_bytes awaited_bytes c.awaited) (group_bytes counted_bytes c.mac_queue) (group_bytes item_change_bytes c.items) in
    let few : length (mask c ∷ group_text c) ≤ 347 + longest_mac_queue v = omega arith in
    rw h.3 few

pub most_change : (version : RecordVersion) (before after : Device) (bytes : List ℕ) → IsChangeOf version before after bytes → length bytes ≤ 475
most_change V1 before after bytes h = let few = most_parts V1 before after bytes h in omega arith
most_change V2 before after bytes h = most_parts V2 before after bytes h

pub most_change_v1 : (before after : Device) (bytes : List ℕ) → IsChangeOf V1 before after bytes → length bytes ≤ 411
most_change_v1 before after bytes h = most_parts V1 before after bytes h

pub least_change : (version : RecordVersion) (before after : Device) (bytes : List ℕ) → IsChangeOf version before after bytes → 1 ≤ length bytes
unfolding change_bytes
least_change version before after bytes h =
    let some : 1 ≤ length (mask h.0 ∷ group_text h.0) = omega arith in
    rw h.3 some
