-- How a disk in memory keeps track of what was written since the last sync.
use Rattle.std.specs.Prelude.{◌≡◌, ◌⊎◌, ◌<◌, ◌≤◌, ℕ, Bool, false, List, length, slice_index}
use Rattle.std.specs.Prelude.{slice_index_or}
use Rattle.disk.specs.State.{State}

-- the mark of a position
abbrev pub mark_at : List Bool → ℕ → Bool
mark_at marks i = slice_index_or marks i false

-- the state that the bytes, the synced bytes and the marks stand for
abbrev pub state_from : List ℕ → List ℕ → List Bool → State
state_from content synced marks =
    record { content = content; synced = synced; is_open = mark_at marks }

-- each byte has a mark and a synced byte, and outside of low..high nothing was written
pub record IsTracked (content synced : List ℕ) (marks : List Bool) (low high : ℕ) : Type 0 where
  pub synced_length : length synced ≡ length content
  pub marks_length : length marks ≡ length content
  pub order : low ≤ high
  pub within : high ≤ length content
  pub closed : (i : ℕ) → (i < low) ⊎ (high ≤ i) → mark_at marks i ≡ false
  pub same : (i : ℕ) → (i < low) ⊎ (high ≤ i) → slice_index synced i ≡ slice_index content i
