-- Reading a change of a version from left to right: the mask, and each group whose bit is set. What
-- the change makes of a record, and when it is a change of that record.
use Rattle.std.specs.Prelude.{◌≡◌, ◌≢◌, ◌<◌, ◌%◌, ◌/◌, ◌^◌, ◌+◌, ◌==◌, ℕ, zero, suc, Bool, true}
use Rattle.std.specs.Prelude.{false, List, [], ◌∷◌, ◌++◌, length, drop, Option, Some, None, IfSome}
use Rattle.std.specs.Prelude.{nat_le, option_map, unwrap_or}
use Rattle.std.specs.Int.{w16, w32, w64}
use Rattle.byte_fields.specs.Reading.{Reader, ◌>>=◌, both, seen_as, that, be_at, byte_at}
use Rattle.byte_fields.specs.Reading.{optional_at, three_be_bytes_at, whole}
use Rattle.mac_commands.specs.Queueable.{AreQueueable}
use Rattle.devices.specs.declared.Tag.{Tag}
use Rattle.devices.specs.declared.activation.Session.{Session}
use Rattle.devices.specs.declared.activation.CurrentSession.{CurrentSession}
use Rattle.devices.specs.declared.queue.Item.{Item}
use Rattle.devices.specs.declared.device.Device.{Device}
use Rattle.devices.specs.declared.queue.TheConstants.ItemQueue.{MOST as MOST_ITEMS}
use Rattle.devices.specs.declared.TheConstants.{LAST_HEARD}
use Rattle.devices.specs.Activation.{Grants, AreInOrder}
use Rattle.devices.specs.Parts.{nonces_of, session_of, counters_of}
use Rattle.record_codec.specs.Change.{Groups, ItemChange, Leaves, Added}
use Rattle.record_codec.specs.Reading.{awaited_at, current_at, flagged_at, nonce_from, item_at}
use Rattle.record_codec.specs.Reading.{mac_queue_at, optional_by, session_at}
use Rattle.record_codec.specs.declared.version.RecordVersion.{RecordVersion}
use Rattle.record_codec.specs.declared.version.RecordVersion.TheVariants.{V1, V2}

-- ---- the groups

abbrev pub granted_at : Reader (Option ℕ)
granted_at = seen_as nonce_from three_be_bytes_at

abbrev pub nonces_at : Reader (Option ℕ × Option ℕ)
nonces_at = both (flagged_at w16) granted_at

abbrev pub counters_at : Reader (ℕ × ℕ)
counters_at = both (be_at w32) (that (λ n. nat_le n (2 ^ 32)) (be_at w64))

abbrev pub item_change_of : Option Item → ItemChange
item_change_of None = Leaves
item_change_of (Some i) = Added i

-- 00 if the first item is removed; 01 and the item that is added
unfoldable pub item_change_at : Reader ItemChange
item_change_at = seen_as item_change_of (optional_at item_at)

-- ---- the mask

abbrev pub is_odd : ℕ → Bool
is_odd n = n % 2 == 1

-- a group, if it is present
abbrev pub group_at : {X : Type 0} → Reader X → Bool → Reader (Option X)
group_at field true = seen_as Some field
group_at field false = λ bytes. Some (None, bytes)

-- the group of the lowest bit, and the others by the bits above it
abbrev pub next_group_at : {X Y : Type 0} → Reader X → (ℕ → Reader Y) → ℕ → Reader (Option X × Y)
next_group_at field others bits = both (group_at field (is_odd bits)) (others (bits / 2))

-- whether the count grew, from the bit that is left, which has no bytes; in version 1 no bit is
-- left
abbrev pub last_bit_at : RecordVersion → ℕ → Reader Bool
last_bit_at V1 zero bytes = Some (false, bytes)
last_bit_at V1 (suc bits) bytes = None
last_bit_at V2 zero bytes = Some (false, bytes)
last_bit_at V2 (suc zero) bytes = Some (true, bytes)
last_bit_at V2 (suc (suc bits)) bytes = None

-- the groups in the order of their bits
abbrev pub GroupFields : Type 0
GroupFields =
    Option (Option ℕ × Option ℕ) × (Option (Option CurrentSession) × (Option (ℕ × ℕ)
    × (Option (Option Session) × (Option (Option Tag) × (Option (List ℕ)
    × (Option ItemChange × Bool))))))

abbrev pub groups_of : GroupFields → Groups
groups_of x =
    record {
      nonces = x.0;
      current = x.1.0;
      counters = x.1.1.0;
      pending = x.1.1.1.0;
      awaited = x.1.1.1.1.0;
      mac_queue = x.1.1.1.1.1.0;
      items = x.1.1.1.1.1.1.0;
      grew = x.1.1.1.1.1.1.1;
    }

abbrev pub groups_at : RecordVersion → ℕ → Reader GroupFields
groups_at version =
    next_group_at nonces_at (next_group_at (optional_by current_at)
    (next_group_at counters_at (next_group_at (optional_by session_at)
    (next_group_at awaited_at (next_group_at (mac_queue_at version)
    (next_group_at item_change_at (last_bit_at version)))))))

unfoldable pub change_at : RecordVersion → Reader Groups
change_at version bytes =
    byte_at bytes >>= λ bits. seen_as groups_of (groups_at version bits.0) bits.1

-- a change that is all of the bytes
unfoldable pub change_read : RecordVersion → List ℕ → Option Groups
change_read version = whole (change_at version)

-- ---- what it makes of a record

-- the session in use: the one of the change, or the one before with the counters of the change
abbrev pub changed_current : Option (Option CurrentSession) → Option (ℕ × ℕ) → Option CurrentSession
    → Option CurrentSession
changed_current (Some current) counters before = current
changed_current None (Some n) before =
    option_map (λ c. record { session = c.session; last_up = n.0; next_down = n.1 }) before
changed_current None None before = before

abbrev pub changed_items : Option ItemChange → List Item → List Item
changed_items None before = before
changed_items (Some Leaves) before = drop 1 before
changed_items (Some (Added i)) before = before ++ i ∷ []

abbrev pub changed_heard : Bool → ℕ → ℕ
changed_heard false before = before
changed_heard true before = before + 1

abbrev pub changed_grants : Groups → Device → Grants
changed_grants c before =
    record {
      granted = (unwrap_or c.nonces (nonces_of before)).1;
      current = changed_current c.current c.counters before.activation.current;
      pending = unwrap_or c.pending before.activation.pending;
    }

-- the record that a change makes of another
abbrev pub changed_device : Groups → Device → Device
changed_device c before =
    record before {
      last_dev_nonce = (unwrap_or c.nonces (nonces_of before)).0;
      activation = changed_grants c before;
      awaited = unwrap_or c.awaited before.awaited;
      mac_queue = unwrap_or c.mac_queue before.mac_queue;
      items = changed_items c.items before.items;
      heard = changed_heard c.grew before.heard;
    }

-- ---- when it is a change of a record

abbrev pub IsNew : {A : Type 0} → Option A → A → Type 0
IsNew o before = IfSome o (λ x. x ≢ before)

-- another session than before, or other counters of the same one
abbrev pub IsNewCurrent : Option (Option CurrentSession) → Option (ℕ × ℕ) → Grants → Type 0
IsNewCurrent (Some current) (Some n) before = ⊥
IsNewCurrent (Some current) None before = option_map (λ c. c.session) current ≢ session_of before
IsNewCurrent None (Some n) before =
    (before.current ≢ None) × (Some n ≢ counters_of before)
IsNewCurrent None None before = Unit {0}

abbrev pub IsNewItems : Option ItemChange → List Item → Type 0
IsNewItems None before = Unit {0}
IsNewItems (Some Leaves) before = before ≢ []
IsNewItems (Some (Added i)) before = length before < MOST_ITEMS

-- the count isn't at its end, if it grows
abbrev pub HasRoomToGrow : Bool → ℕ → Type 0
HasRoomToGrow false before = Unit {0}
HasRoomToGrow true before = before < LAST_HEARD

-- each group differs from what the record has, and the record to which they lead is one that a
-- device may have
pub record IsNewTo (before : Device) (c : Groups) : Type 0 where
  pub nonces : IsNew c.nonces (nonces_of before)
  pub current : IsNewCurrent c.current c.counters before.activation
  pub pending : IsNew c.pending before.activation.pending
  pub awaited : IsNew c.awaited before.awaited
  pub mac_queue : IsNew c.mac_queue before.mac_queue
  pub whole : IfSome c.mac_queue AreQueueable
  pub items : IsNewItems c.items before.items
  pub heard : HasRoomToGrow c.grew before.heard
  pub in_order : AreInOrder (changed_grants c before)

-- the bytes, as a whole, are no change of the record
abbrev pub IsNoChange : RecordVersion → Device → List ℕ → Type 0
IsNoChange version before bytes =
    (c : Groups) → change_read version bytes ≡ Some c → ¬ IsNewTo before c
