-- What the bytes of an area give when the area is opened.
use Rattle.std.specs.Prelude.{◌≡◌, ◌≢◌, ◌<◌, ◌≤◌, ℕ, ◌+◌, Bool, true, false, List, ◌∷◌, ◌++◌}
use Rattle.std.specs.Prelude.{length, drop, slice_index, MatchBool, Result, Ok, Err}
use Rattle.disk.specs.Outlook.{IsArmed, Outlook}
use Rattle.disk.specs.Outlook.Outlook.{AllSucceed}
use Rattle.disk.specs.State.{State}
use Rattle.gate_log.specs.declared.error.RecoverError.{RecoverError}
use Rattle.gate_log.specs.declared.error.RecoverError.TheVariants.{Device, OutOfMemory, Damaged}
use Rattle.gate_log.specs.declared.layout.Header.{Header}
use Rattle.gate_log.specs.declared.layout.TheConstants.{ENTRIES_AT, OPEN, RECORDS_AT}
use Rattle.gate_log.specs.Layout.{BatchValue, AreHeads, IsHead, IsHeader, body, head_of}
use Rattle.gate_log.specs.Layout.{header_bytes, open_batches}

-- calls of a disk that only read, up to the first one that failed, and whether one did
pub record OnlyReads {D : Type 0} (honest : Type 0) (state : D → State) (failures : D → ℕ)
    (outlook : D → Outlook)
    (old new : D) (failed : Bool) : Type 0 where
  pub same : honest → state new ≡ state old
  pub same_length : length (state new).content ≡ length (state old).content
  pub cause : MatchBool failed (failures new ≡ failures old + 1) (failures new ≡ failures old)
  pub unarmed : outlook old ≡ AllSucceed → (failed ≡ false) × (outlook new ≡ AllSucceed)
  pub armed : IsArmed (outlook old)
      → MatchBool failed (outlook new ≡ AllSucceed) (IsArmed (outlook new))

-- whether a device failed
abbrev pub is_device_error : RecoverError → Bool
is_device_error Device = true
is_device_error OutOfMemory = false
is_device_error Damaged = false

abbrev pub has_device_error : {T : Type 0} → Result T RecoverError → Bool
has_device_error (Ok x) = false
has_device_error (Err e) = is_device_error e

-- an open gate with a header after it
pub record IsHeaderAt (disk : List ℕ) (at : ℕ) (h : Header) : Type 0 where
  pub bytes : drop at disk ≡ OPEN ∷ (header_bytes h ++ drop (at + RECORDS_AT) disk)
  pub header : IsHeader h

-- an open gate with a batch after it, and room for the next gate before the end
pub record IsBatchAt (disk : List ℕ) (end at : ℕ) (b : BatchValue) : Type 0 where
  pub bytes : drop at disk ≡ OPEN ∷ (body b ++ drop (at + ENTRIES_AT + length b.entries) disk)
  pub head : IsHead (head_of b)
  pub fits : at + ENTRIES_AT + length b.entries < end

-- an open gate, and no batch that fits after it
pub record NoBatchAt (disk : List ℕ) (end at : ℕ) : Type 0 where
  pub opened : slice_index disk at ≡ OPEN
  pub none : (b : BatchValue) (rest : List ℕ) → IsHead (head_of b)
      → drop at disk ≡ OPEN ∷ (body b ++ rest)
      → end ≤ at + ENTRIES_AT + length b.entries

-- batches from a position on, and after them a closed gate before the end
pub record AreBatchesAt (disk : List ℕ) (end at : ℕ) (batches : List BatchValue) : Type 0 where
  pub gate : ℕ
  pub rest : List ℕ
  pub bytes : drop at disk ≡ open_batches batches ++ (gate ∷ rest)
  pub closed : gate ≢ OPEN
  pub fits : at + length (open_batches batches) < end
  pub heads : AreHeads batches
