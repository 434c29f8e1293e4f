-- A change: what one record has that the record before it didn't have, in groups of fields.
use Rattle.std.specs.Prelude.{◌≡◌, ◌≢◌, ◌≤◌, ◌<◌, ◌^◌, ◌+◌, ◌*◌, ℕ, Bool, false, true, List, []}
use Rattle.std.specs.Prelude.{◌∷◌, ◌++◌, length, Option, Some, None, IfSome}
use Rattle.std.specs.Int.{w32, w64, to_be_bytes}
use Rattle.lw_types.specs.Hex.{IsBytes}
use Rattle.byte_fields.specs.Spelling.{counted_bytes}
use Rattle.mac_commands.specs.Queueable.{AreQueueable}
use Rattle.devices.specs.declared.Tag.{Tag}
use Rattle.devices.specs.declared.activation.Session.{Session}
use Rattle.devices.specs.declared.activation.CurrentSession.{CurrentSession}
use Rattle.devices.specs.declared.queue.Item.{Item}
use Rattle.devices.specs.declared.device.Device.{Device}
use Rattle.devices.specs.declared.TheConstants.{LAST_HEARD}
use Rattle.devices.specs.declared.queue.TheConstants.ItemQueue.{MOST as MOST_ITEMS}
use Rattle.devices.specs.Activation.{Grants, AreInOrder}
use Rattle.devices.specs.Becoming.{AreProvisionedAlike}
use Rattle.devices.specs.Parts.{nonces_of, session_of, counters_of}
use Rattle.record_codec.specs.DeviceRecord.{awaited_bytes, dev_nonce, granted_bytes, item}
use Rattle.record_codec.specs.DeviceRecord.{optional_current, optional_session, IsCurrentSession}
use Rattle.record_codec.specs.DeviceRecord.{IsItem, IsJoinNonce, IsSession}
use Rattle.record_codec.specs.Version.{longest_mac_queue}
use Rattle.record_codec.specs.declared.version.RecordVersion.{RecordVersion}
use Rattle.record_codec.specs.declared.version.RecordVersion.TheVariants.{V1, V2}

-- ---- the groups

pub data ItemChange : Type 0 where
  -- the first item is removed
  Leaves : ItemChange
  -- this one is added at the end
  Added : Item → ItemChange

-- the groups of a change, each present or absent, and whether one more uplink is counted
pub record Groups : Type 0 where
  -- the last DevNonce and the last JoinNonce granted
  pub nonces : Option (Option ℕ × Option ℕ)
  pub current : Option (Option CurrentSession)
  -- those of the current session
  pub counters : Option (ℕ × ℕ)
  pub pending : Option (Option Session)
  pub awaited : Option (Option Tag)
  pub mac_queue : Option (List ℕ)
  pub items : Option ItemChange
  pub grew : Bool

-- ---- the bytes

-- 1 for a group that is present
abbrev pub there : {A : Type 0} → Option A → ℕ
there None = 0
there (Some x) = 1

-- 1 if the count grew
abbrev pub growth : Bool → ℕ
growth false = 0
growth true = 1

-- a bit for each group, the lowest for the first, and bit 7 for the count, which has no bytes
abbrev pub mask : Groups → ℕ
mask c =
    there c.nonces
    + 2 * (there c.current
    + 2 * (there c.counters
    + 2 * (there c.pending
    + 2 * (there c.awaited
    + 2 * (there c.mac_queue
    + 2 * (there c.items
    + 2 * growth c.grew))))))

-- the bytes of a group that is present
abbrev pub group_bytes : {A : Type 0} → (A → List ℕ) → Option A → List ℕ
group_bytes spelled None = []
group_bytes spelled (Some x) = spelled x

abbrev pub nonces_bytes : Option ℕ × Option ℕ → List ℕ
nonces_bytes n = dev_nonce n.0 ++ granted_bytes n.1

abbrev pub counters_bytes : ℕ × ℕ → List ℕ
counters_bytes n = to_be_bytes w32 n.0 ++ to_be_bytes w64 n.1

abbrev pub item_change_bytes : ItemChange → List ℕ
item_change_bytes Leaves = 0 ∷ []
item_change_bytes (Added i) = 1 ∷ item i

-- the one spelling of a change, in each version: the mask and the groups that are present
unfoldable pub change_bytes : Groups → List ℕ
change_bytes c =
    mask c
    ∷ (group_bytes nonces_bytes c.nonces
    ++ (group_bytes optional_current c.current
    ++ (group_bytes counters_bytes c.counters
    ++ (group_bytes optional_session c.pending
    ++ (group_bytes awaited_bytes c.awaited
    ++ (group_bytes counted_bytes c.mac_queue
    ++ group_bytes item_change_bytes c.items))))))

-- ---- which values exist

abbrev pub AreNonces : Option ℕ × Option ℕ → Type 0
AreNonces n = IfSome n.0 (λ k. k < 2 ^ 16) × IfSome n.1 IsJoinNonce

abbrev pub AreCounters : ℕ × ℕ → Type 0
AreCounters n = (n.0 < 2 ^ 32) × (n.1 ≤ 2 ^ 32)

abbrev pub IsItemChange : ItemChange → Type 0
IsItemChange Leaves = Unit {0}
IsItemChange (Added i) = IsItem i

-- nothing is counted in version 1
abbrev pub MayGrow : RecordVersion → Bool → Type 0
MayGrow V1 grew = grew ≡ false
MayGrow V2 grew = Unit {0}

-- the fields of each group are in their ranges, and what a version doesn't have is absent
pub record AreInRange (version : RecordVersion) (c : Groups) : Type 0 where
  pub nonces : IfSome c.nonces AreNonces
  pub current : IfSome c.current (λ o. IfSome o IsCurrentSession)
  pub counters : IfSome c.counters AreCounters
  pub pending : IfSome c.pending (λ o. IfSome o IsSession)
  pub awaited : IfSome c.awaited (λ o. IfSome o (λ tag. tag.0 < 2 ^ 32))
  pub mac_queue : IfSome c.mac_queue (λ q. IsBytes q × (length q ≤ longest_mac_queue version))
  pub items : IfSome c.items IsItemChange
  pub grew : MayGrow version c.grew

-- ---- from one record to another

-- a group is present exactly if the part differs, and is the part after the change
abbrev pub IsGroup : {A : Type 0} → Option A → A → A → Type 0
IsGroup None before after = after ≡ before
IsGroup (Some x) before after = (after ≢ before) × (x ≡ after)

-- the current session with its counters if it is another one; else its counters if they differ;
-- else neither
abbrev pub IsCurrentGroup : Option (Option CurrentSession) → Option (ℕ × ℕ) → Grants → Grants
    → Type 0
IsCurrentGroup (Some x) counters before after =
    (session_of after ≢ session_of before) × (x ≡ after.current) × (counters ≡ None)
IsCurrentGroup None (Some n) before after =
    (session_of after ≡ session_of before) × (counters_of after ≢ counters_of before)
    × (counters_of after ≡ Some n)
IsCurrentGroup None None before after = after.current ≡ before.current

-- the item that is removed or added, if the items differ
abbrev pub IsItemGroup : Option ItemChange → List Item → List Item → Type 0
IsItemGroup None before after = after ≡ before
IsItemGroup (Some Leaves) before after = (first : Item) × (before ≡ first ∷ after)
IsItemGroup (Some (Added i)) before after = after ≡ before ++ i ∷ []

-- the count is the same, or one more if it wasn't at its end
abbrev pub IsGrown : Bool → ℕ → ℕ → Type 0
IsGrown false before after = after ≡ before
IsGrown true before after = (before < LAST_HEARD) × (after ≡ before + 1)

-- the groups are exactly what one record has that the other didn't have, and the record to which
-- they lead is one that a device may have
pub record IsChange (before after : Device) (c : Groups) : Type 0 where
  pub provisioned : AreProvisionedAlike before after
  pub nonces : IsGroup c.nonces (nonces_of before) (nonces_of after)
  pub current : IsCurrentGroup c.current c.counters before.activation after.activation
  pub pending : IsGroup c.pending before.activation.pending after.activation.pending
  pub awaited : IsGroup c.awaited before.awaited after.awaited
  pub mac_queue : IsGroup c.mac_queue before.mac_queue after.mac_queue
  pub items : IsItemGroup c.items before.items after.items
  pub heard : IsGrown c.grew before.heard after.heard
  pub in_order : AreInOrder after.activation
  pub whole : AreQueueable after.mac_queue
  pub few : length after.items ≤ MOST_ITEMS

-- these bytes are the change from one record to another, in a version
abbrev pub IsChangeOf : RecordVersion → Device → Device → List ℕ → Type 0
IsChangeOf version before after bytes =
    (c : Groups) × AreInRange version c × IsChange before after c × (bytes ≡ change_bytes c)

-- these bytes are a change of this record
abbrev pub IsSomeChange : RecordVersion → Device → List ℕ → Type 0
IsSomeChange version before bytes = (after : Device) × IsChangeOf version before after bytes
