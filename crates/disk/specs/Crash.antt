-- What the simulated crash of a disk leaves.
use Rattle.std.specs.Prelude.{◌≡◌, ◌<◌, ℕ, List, length, slice_index, slice_index_or, if◌then◌else◌}
use Rattle.disk.specs.declared.sim.Image.{Image}
use Rattle.disk.specs.declared.sim.Image.TheVariants.{Old, New, Fill, Bytes}
use Rattle.disk.specs.State.{State}

-- the byte of an image at an open position
abbrev pub open_byte : Image → State → ℕ → ℕ
open_byte Old state i = slice_index state.synced i
open_byte New state i = slice_index state.content i
open_byte (Fill byte) state i = byte
open_byte (Bytes bytes) state i = slice_index_or bytes.items i (slice_index state.content i)

-- the byte of an image at any position
abbrev pub crashed_byte : Image → State → ℕ → ℕ
crashed_byte image state i =
    if state.is_open i then open_byte image state i else slice_index state.content i

-- the bytes are those of the image, and no others
pub record IsCrashed (image : Image) (state : State) (bytes : List ℕ) : Type 0 where
  pub same_length : length bytes ≡ length state.content
  pub each : (i : ℕ) → i < length bytes → slice_index bytes i ≡ crashed_byte image state i
