-- The first 32 bytes of a store, and where its areas lie.
use Rattle.std.specs.Prelude.{ℕ, ◌+◌, ◌*◌, ◌≡◌, ◌⊎◌, List, ◌∷◌, ◌++◌, [], replicate, codes}
use Rattle.std.specs.Int.{bytes_high_first}
use Rattle.gate_log.specs.declared.layout.TheConstants.{OPEN, RECORDS_AT}
use Rattle.store_layout.specs.declared.superblock.TheConstants.{JOURNAL_ROOM, RESERVED_ENTRY}

-- the length of an area: a gate and a header, the room for an entry for each slot, and the room for
-- batches
abbrev pub area_len : ℕ → ℕ
area_len slots = RECORDS_AT + slots * RESERVED_ENTRY + JOURNAL_ROOM

-- a superblock and two areas
abbrev pub disk_len : ℕ → ℕ
disk_len slots = 32 + 2 * area_len slots

-- what follows the superblock's gate: name, version 1, NetID, slots, length of an area, zeros
abbrev pub superblock_body : ℕ → ℕ → List ℕ
superblock_body net_id slots =
    codes "LNSTORE"
    ++ (1 ∷ (bytes_high_first 3 net_id
    ++ (bytes_high_first 4 slots ++ (bytes_high_first 8 (area_len slots) ++ replicate 8 0))))

-- the superblock of a formatted store: an open gate and its body
abbrev pub superblock : ℕ → ℕ → List ℕ
superblock net_id slots = OPEN ∷ superblock_body net_id slots

-- a write opens the gate of an area, which is the area's first byte: of the area after the
-- superblock, or of the one after that
abbrev pub OpensArea : ℕ → ℕ → List ℕ → Type 0
OpensArea slots at bytes = (bytes ≡ OPEN ∷ []) × ((at ≡ 32) ⊎ (at ≡ 32 + area_len slots))
