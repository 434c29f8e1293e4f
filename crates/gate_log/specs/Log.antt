-- A log and its disk.
use Rattle.std.specs.Prelude.{◌≡◌, ◌+◌, ℕ, Bool, IsTrue, length, MatchBool, MatchResult, Result}
use Rattle.std.specs.Prelude.{is_ok}
use Rattle.disk.specs.declared.DeviceFailed.{DeviceFailed}
use Rattle.disk.specs.Outlook.{Outlook, HasCause, IsArmed, IsForeseen}
use Rattle.disk.specs.Outlook.Outlook.{AllSucceed}
use Rattle.disk.specs.State.{State, NothingOpen}
use Rattle.gate_log.specs.declared.layout.Areas.{Areas}
use Rattle.gate_log.specs.declared.log.Log.{Log}
use Rattle.gate_log.specs.Areas.{LogContents, Holds, IsClosedArea, IsOpenArea}
use Rattle.gate_log.specs.Layout.{spelling}

abbrev pub log_disk : {D : Type 0} {g : _} → Log D g → D
log_disk log = log.disk

-- a log as contracts see it
pub record LogState : Type 0 where
  pub disk : State
  pub areas : Areas
  -- the place of the next batch's gate
  pub next : ℕ
  -- that of the live area
  pub generation : ℕ
  -- whether the other area's gate is open
  pub other_open : Bool

abbrev pub log_state : {D : Type 0} {g : _} → (D → State) → Log D g → LogState
log_state state log =
    record {
      disk = state log.disk;
      areas = log.areas;
      next = log.next;
      generation = log.generation;
      other_open = log.other_open;
    }

-- only the disk changes
abbrev pub OnlyDiskChanges : LogState → LogState → Type 0
OnlyDiskChanges old new =
    new ≡ record {
      disk = new.disk;
      areas = old.areas;
      next = old.next;
      generation = old.generation;
      other_open = old.other_open;
    }

-- exactly one call of a log's disk: an error is returned exactly if the call failed, and the call
-- is the next one that was foreseen
pub record IsOneLogCall {D : Type 0} {g : _} {T : Type 0} (failures : D → ℕ) (outlook : D → Outlook)
    (old new : Log D g) (result : Result T DeviceFailed) : Type 0 where
  pub cause : HasCause (failures old.disk) (failures new.disk) result
  pub foreseen : IsForeseen (outlook old.disk) (is_ok result) (outlook new.disk)

-- several calls, of which only the last one may have failed: an error is returned exactly if it did
pub record AreLogCalls {D : Type 0} {g : _} {T : Type 0} (failures : D → ℕ) (outlook : D → Outlook)
    (old new : Log D g) (result : Result T DeviceFailed) : Type 0 where
  pub cause : HasCause (failures old.disk) (failures new.disk) result
  pub unarmed : outlook old.disk ≡ AllSucceed
      → IsTrue (is_ok result) × (outlook new.disk ≡ AllSucceed)
  pub armed : IsArmed (outlook old.disk) → MatchResult result
      (λ _. IsArmed (outlook new.disk)) (λ _. outlook new.disk ≡ AllSucceed)

-- the log knows which area is live, its generation, and where the next batch's gate stands
pub record Knows (log : LogState) (c : LogContents) : Type 0 where
  pub areas : log.areas ≡ c.areas
  pub generation : log.generation ≡ c.journal.header.generation
  pub next : log.next ≡ c.areas.live.start + length (spelling c.journal)

-- the log has it right whether the other area's gate is open
abbrev pub KnowsOther : LogState → LogContents → Type 0
KnowsOther log c =
    MatchBool log.other_open (IsOpenArea c.areas.other log.disk.content)
    (IsClosedArea c.areas.other log.disk.content)

-- nothing is under way: the disk holds these contents, and a crash changes nothing
pub record IsAtRest (log : LogState) (c : LogContents) : Type 0 where
  pub settled : NothingOpen log.disk
  pub holds : Holds c log.disk.content
  pub knows : Knows log c
  pub other_gate : KnowsOther log c
