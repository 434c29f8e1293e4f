-- Entries: each is what a store keeps of one device. And what they make of a table, one after
-- another.
use Rattle.std.specs.Prelude.{◌≡◌, ◌<◌, ◌≤◌, ◌^◌, ℕ, suc, List, [], ◌∷◌, ◌++◌, length, Some}
use Rattle.std.specs.Prelude.{slice_get}
use Rattle.std.specs.List.{flat_map, AllByRecursion}
use Rattle.std.specs.Option.{MatchOption}
use Rattle.std.specs.Int.{to_be_bytes, w16}
use Rattle.devices.specs.declared.device.Device.{Device}
use Rattle.record_codec.specs.declared.version.RecordVersion.{RecordVersion}
use Rattle.record_codec.specs.Change.{IsChangeOf}
use Rattle.record_codec.specs.DeviceRecord.{spelling, IsDevice}
use Rattle.sessions.specs.Table.{TableState, CanPut, with_record}
use Rattle.sessions.specs.declared.decision.Decision.{Decision}
use Rattle.store_layout.specs.declared.superblock.TheConstants.{RESERVED_RECORD}

-- what a store keeps of one device, by its kind
pub data EntryValue : Type 0 where
  -- the whole record of the device at a slot
  Whole : ℕ → Device → EntryValue
  -- the bytes of a change of the record at a slot
  Changed : ℕ → List ℕ → EntryValue

abbrev pub kind_of : EntryValue → ℕ
kind_of (Whole slot device) = 1
kind_of (Changed slot change) = 2

-- the slot of an entry
abbrev pub slot_in : EntryValue → ℕ
slot_in (Whole slot device) = slot
slot_in (Changed slot change) = slot

-- the record or the change of an entry
abbrev pub body_in : RecordVersion → EntryValue → List ℕ
body_in version (Whole slot device) = spelling version device
body_in version (Changed slot change) = change

-- the bytes of an entry: its kind, its slot, the length of its body, and the body
abbrev pub entry : RecordVersion → EntryValue → List ℕ
entry version e =
    kind_of e
    ∷ (to_be_bytes w16 (slot_in e)
    ++ (to_be_bytes w16 (length (body_in version e)) ++ body_in version e))

abbrev pub IsBody : RecordVersion → EntryValue → Type 0
IsBody version (Whole slot device) = IsDevice version device
IsBody version (Changed slot change) = length change ≤ RESERVED_RECORD

abbrev pub IsEntry : RecordVersion → EntryValue → Type 0
IsEntry version e = (slot_in e < 2 ^ 16) × IsBody version e

-- no entry stands at the front of these bytes
abbrev pub NoEntry : RecordVersion → List ℕ → Type 0
NoEntry version bytes =
    (e : EntryValue) (rest : List ℕ) → IsEntry version e → bytes ≡ entry version e ++ rest → ⊥

abbrev pub AreEntries : RecordVersion → List EntryValue → Type 0
AreEntries version es = AllByRecursion (IsEntry version) es

abbrev pub entries : RecordVersion → List EntryValue → List ℕ
entries version es = flat_map (entry version) es

-- the record that an entry leaves at its slot on this table: its whole record, or the one that its
-- change makes of the record at that slot
abbrev pub LeavesRecord : RecordVersion → TableState → EntryValue → Device → Type 0
LeavesRecord version t (Whole slot device) after = after ≡ device
LeavesRecord version t (Changed slot change) after =
    (before : Device) × (slice_get t.devices slot ≡ Some before)
    × IsChangeOf version before after change

-- an entry leads from one table to another: the record that it leaves may be put there, and is put
pub record Puts (version : RecordVersion) (t : TableState) (e : EntryValue)
    (u : TableState) : Type 0 where
  pub after : Device
  pub leaves : LeavesRecord version t e after
  pub can : CanPut t (slot_in e) after
  pub is : u ≡ with_record t (slot_in e) after

-- entries lead from one table to another, each from the table to which those before it lead
abbrev pub EntriesLead : RecordVersion → TableState → List EntryValue → TableState → Type 0
EntriesLead version t [] u = u ≡ t
EntriesLead version t (e ∷ es) u =
    (next : TableState) × Puts version t e next × EntriesLead version next es u

-- `count` entries that spell these bytes and lead from one table to another
pub record Replay (version : RecordVersion) (t : TableState) (bytes : List ℕ) (count : ℕ)
    (es : List EntryValue) (u : TableState) : Type 0 where
  pub spelled : bytes ≡ entries version es
  pub number : length es ≡ count
  pub each : AreEntries version es
  pub leads : EntriesLead version t es u

-- Entries at the front of these bytes, fewer than `count`, lead to a table, and after them stands
-- one more that leaves a record there. For that record memory may be needed.
pub record ReplayGoesOn (version : RecordVersion) (t : TableState) (bytes : List ℕ)
    (count : ℕ) : Type 0 where
  pub front : List EntryValue
  pub next : EntryValue
  pub behind : List ℕ
  pub spelled : bytes ≡ entries version front ++ (entry version next ++ behind)
  pub fewer : length front < count
  pub each : AreEntries version front
  pub one_more : IsEntry version next
  pub here : TableState
  pub leads : EntriesLead version t front here
  pub after : Device
  pub leaves : LeavesRecord version here next after

-- the entry of a decision: the record that it leaves if it found none; else the change from the one
-- that it found
abbrev pub IsEntryOf : RecordVersion → Decision → EntryValue → Type 0
IsEntryOf version d e =
    MatchOption d.before (e ≡ Whole d.slot d.after)
    (λ before. (change : List ℕ) × (e ≡ Changed d.slot change)
    × IsChangeOf version before d.after change)

-- one entry for each decision, in order
abbrev pub AreEntriesOf : RecordVersion → List Decision → List EntryValue → Type 0
AreEntriesOf version [] [] = Unit {0}
AreEntriesOf version [] (e ∷ es) = ⊥
AreEntriesOf version (d ∷ ds) [] = ⊥
AreEntriesOf version (d ∷ ds) (e ∷ es) = IsEntryOf version d e × AreEntriesOf version ds es

-- these bytes are the entries of decisions
pub record SpellsEntriesOf (version : RecordVersion) (ds : List Decision)
    (bytes : List ℕ) : Type 0 where
  pub values : List EntryValue
  pub of_each : AreEntriesOf version ds values
  pub in_range : AreEntries version values
  pub spelled : bytes ≡ entries version values

-- the entries of devices from a slot on: the record of each, under its slot
abbrev pub entries_from : ℕ → List Device → List EntryValue
entries_from slot [] = []
entries_from slot (device ∷ devices) = Whole slot device ∷ entries_from (suc slot) devices

-- the entries of a table, in order of slots
abbrev pub entries_of_table : TableState → List EntryValue
entries_of_table t = entries_from 0 t.devices
