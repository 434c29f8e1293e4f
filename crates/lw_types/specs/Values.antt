-- Which values bytes and keys have.
use Rattle.std.specs.Prelude.{◌≡◌, ℕ, ◌<◌, length}
use Rattle.lw_types.specs.Hex.{IsBytes}
use Rattle.lw_types.specs.declared.key.Key.{Key}

abbrev pub IsByte : ℕ → Type 0
IsByte byte = byte < 256

-- 16 bytes
abbrev pub IsKey : Key → Type 0
IsKey key = IsBytes key.0 × (length key.0 ≡ 16)
