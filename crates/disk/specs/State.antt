-- What a disk holds, what its calls do to that, and what a crash may leave.
use Rattle.std.specs.Prelude.{◌≡◌, ◌⊎◌, ◌<◌, ◌≤◌, ℕ, ◌+◌, Bool, true, false, List, ◌++◌, length}
use Rattle.std.specs.Prelude.{take, drop, slice_index}

pub record State : Type 0 where
  -- the bytes that a read gives
  pub content : List ℕ
  -- the bytes as the last sync that succeeded left them
  pub synced : List ℕ
  -- whether a position was written since that sync
  pub is_open : ℕ → Bool

abbrev pub NothingOpen : State → Type 0
NothingOpen state = (i : ℕ) → state.is_open i ≡ false

-- a crash may leave this image: any byte at an open position, and the content everywhere else
pub record IsPermitted (state : State) (image : List ℕ) : Type 0 where
  pub same_length : length image ≡ length state.content
  pub kept : (i : ℕ) → state.is_open i ≡ false → slice_index image i ≡ slice_index state.content i

-- each image that a crash may leave now has P
abbrev pub EveryImage : State → (List ℕ → Type 0) → Type 0
EveryImage state P = (image : List ℕ) → IsPermitted state image → P image

-- the old bytes with these written over them from a position on
abbrev pub bytes_after_write : List ℕ → ℕ → List ℕ → List ℕ
bytes_after_write old at bytes = take at old ++ bytes ++ drop (at + length bytes) old

-- any bytes at n positions from `at` on, and the old bytes elsewhere
pub record IsTorn (at n : ℕ) (old new : List ℕ) : Type 0 where
  pub same_length : length new ≡ length old
  pub before : take at new ≡ take at old
  pub after : drop (at + n) new ≡ drop (at + n) old

-- a write of n bytes, whether it succeeded or not
pub record IsWrite (at n : ℕ) (old new : State) : Type 0 where
  pub torn : IsTorn at n old.content new.content
  pub synced : new.synced ≡ old.synced
  pub opened : (i : ℕ) → at ≤ i → i < at + n → new.is_open i ≡ true
  pub others : (i : ℕ) → (i < at) ⊎ (at + n ≤ i) → new.is_open i ≡ old.is_open i

-- these bytes are on the disk, and a crash leaves them
pub record IsSettledAt (bytes : List ℕ) (state : State) : Type 0 where
  pub content : state.content ≡ bytes
  pub synced : state.synced ≡ bytes
  pub nothing_open : NothingOpen state
