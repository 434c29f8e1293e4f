-- Why an image holds no store. If there are several reasons, the first one here is returned.
use Rattle.std.specs.Prelude.{◌≡◌, ◌≢◌, ◌<◌, ◌≤◌, ◌⊎◌, ◌↔◌, ℕ, List, ◌∷◌, length, take, slice_index}
use Rattle.std.specs.Prelude.{codes}
use Rattle.lw_types.specs.declared.refusal.Refusal.{Refusal}
use Rattle.lw_types.specs.declared.refusal.Refusal.TheVariants.{NotFormatted, Damaged, WrongVersion}
use Rattle.lw_types.specs.declared.refusal.Refusal.TheVariants.{WrongSize, DeviceFailed}
use Rattle.lw_types.specs.declared.refusal.Refusal.TheVariants.{OutOfMemory}
use Rattle.gate_log.specs.declared.layout.Area.{Area}
use Rattle.gate_log.specs.declared.layout.Areas.{Areas}
use Rattle.gate_log.specs.declared.layout.Header.{Header}
use Rattle.gate_log.specs.declared.layout.TheConstants.{OPEN}
use Rattle.gate_log.specs.Layout.{HasRoomFor}
use Rattle.sessions.specs.Table.{TableState, IsSlots}
use Rattle.store_layout.specs.Superblock.{superblock, disk_len}
use Rattle.store_layout.specs.declared.superblock.TheConstants.Superblock.{LEN}
use Rattle.record_codec.specs.declared.version.RecordVersion.{RecordVersion}
use Rattle.record_codec.specs.Version.{version_byte}
use Rattle.store.specs.Image.{HoldsTable, IsLive, NoneLive, last_generation}

-- the gate of a store is open, and its name follows
abbrev pub IsNamed : List ℕ → Type 0
IsNamed bytes = take 8 bytes ≡ OPEN ∷ codes "LNSTORE"

-- no store begins with these 32 bytes
abbrev pub IsNoSuperblock : List ℕ → Type 0
IsNoSuperblock bytes =
    (net_id slots : ℕ) → net_id < 64 → IsSlots slots → bytes ≢ superblock net_id slots

-- what is wrong with them: a closed gate or another name, else another version, else any other
-- field
pub record SuperblockFault (bytes : List ℕ) (e : Refusal) : Type 0 where
  pub none : IsNoSuperblock bytes
  pub not_formatted : (e ≡ NotFormatted) ↔ (¬ (IsNamed bytes))
  pub version : (e ≡ WrongVersion) ↔ (IsNamed bytes × (slice_index bytes 8 ≢ 1))
  pub others : (e ≡ NotFormatted) ⊎ ((e ≡ WrongVersion) ⊎ (e ≡ Damaged))

-- the store that the superblock describes
pub record IsStoreOf (image : List ℕ) (net_id slots : ℕ) : Type 0 where
  pub net_id_range : net_id < 64
  pub slots_range : IsSlots slots
  pub superblock : take LEN image ≡ superblock net_id slots

-- what is wrong with the length or the superblock
abbrev pub FrontFault : List ℕ → Refusal → Type 0
FrontFault image e =
    ((length image < LEN) × (e ≡ WrongSize))
    ⊎ ((LEN ≤ length image)
    × (SuperblockFault (take LEN image) e
    ⊎ ((net_id slots : ℕ) × IsStoreOf image net_id slots × (length image ≢ disk_len slots)
    × (e ≡ WrongSize))))

-- a version of records that can be read
abbrev pub IsKnown : ℕ → Type 0
IsKnown byte = (version : RecordVersion) × (byte ≡ version_byte version)

-- a header of a version that can be read, of a generation that is allowed, and with records that
-- fit the area
pub record IsUsable (area : Area) (h : Header) : Type 0 where
  pub version : RecordVersion
  pub of_version : h.version ≡ version_byte version
  pub generation : h.generation ≤ last_generation version
  pub room : HasRoomFor area h

-- the superblock, the length and the header of the live area are in order
pub record HasGoodFront (image : List ℕ) : Type 0 where
  pub net_id : ℕ
  pub slots : ℕ
  pub areas : Areas
  pub header : Header
  pub store : IsStoreOf image net_id slots
  pub long : length image ≡ disk_len slots
  pub live : IsLive image slots areas header
  pub usable : IsUsable areas.live header

-- what is wrong with the gates or the live area's header
abbrev pub HeaderFault : List ℕ → ℕ → Refusal → Type 0
HeaderFault image slots e =
    (NoneLive image slots × (e ≡ Damaged))
    ⊎ ((areas : Areas) × (h : Header) × IsLive image slots areas h
    × (((¬ (IsKnown h.version)) × (e ≡ WrongVersion))
    ⊎ (IsKnown h.version × ((¬ (IsUsable areas.live h)) × (e ≡ Damaged)))))

-- what is wrong with the areas
abbrev pub AreaFault : List ℕ → ℕ → Refusal → Type 0
AreaFault image slots e =
    (NoneLive image slots × (e ≡ Damaged))
    ⊎ ((areas : Areas) × (h : Header) × IsLive image slots areas h
    × (((¬ (IsKnown h.version)) × (e ≡ WrongVersion)) ⊎ (IsKnown h.version × (e ≡ Damaged))))

-- what is wrong with an image that holds no table
pub record IsFault (image : List ℕ) (e : Refusal) : Type 0 where
  pub none : (t : TableState) (seq : ℕ) → ¬ (HoldsTable t seq image)
  pub first : FrontFault image e
      ⊎ ((net_id slots : ℕ) × IsStoreOf image net_id slots × (length image ≡ disk_len slots)
      × AreaFault image slots e)

-- why no store of this number of slots is made on a disk of this length
pub record IsFormatRefusal (slots len : ℕ) (e : Refusal) : Type 0 where
  pub slots_range : (e ≡ Damaged) ↔ (¬ (IsSlots slots))
  pub size : (e ≡ WrongSize) ↔ (IsSlots slots × (len ≢ disk_len slots))
  pub others : (e ≡ Damaged) ⊎ ((e ≡ WrongSize) ⊎ ((e ≡ DeviceFailed) ⊎ (e ≡ OutOfMemory)))
