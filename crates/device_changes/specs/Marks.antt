-- What a changed table says of the marks before it.
use Rattle.std.specs.Prelude.{◌≡◌, ◌≤◌, List, Contains}
use Rattle.devices.specs.declared.command.Command.TheVariants.{Heard, Queue, QueueMac}
use Rattle.devices.specs.declared.command.MacQueueing.{MacQueueing}
use Rattle.devices.specs.declared.command.Queueing.{Queueing}
use Rattle.devices.specs.declared.heard.Heard as heard
use Rattle.devices.specs.declared.mark.Mark.{Mark}
use Rattle.sessions.specs.Marks.{Covers, IsSound, session_in}
use Rattle.sessions.specs.Table.{TableState, step}
use Rattle.device_changes.specs.declared.change.Change.{Change}
use Rattle.device_changes.specs.declared.change.Change.TheVariants.{Import}
use Rattle.device_changes.specs.declared.change.Importing.{Importing}

-- a network may go on with this table in place of the one before: it covers each mark that the one
-- before covers, and it is sound if that one is
pub record KeepsMarks (before after : TableState) : Type 0 where
  pub covers : (m : Mark) → Covers before m → Covers after m
  pub sound : IsSound before → IsSound after

-- the table covers each mark of an imported device that has a JoinNonce up to the last one of the
-- other network
abbrev pub CoversImported : List Change → TableState → Type 0
CoversImported rows t =
    (i : Importing) (m : Mark) → Contains rows (Import i)
    → (session_in m).dev_eui.0 ≡ i.provisioning.dev_eui.0
    → (session_in m).join_nonce ≤ i.last_join_nonce → Covers t m

-- in both tables, each frame and each request for a device is decided alike. So each address leads
-- to the same device
pub record DecidesAlike (before after : TableState) : Type 0 where
  pub heard : (h : heard.Heard) → step after (Heard h) ≡ step before (Heard h)
  pub queue : (q : Queueing) → step after (Queue q) ≡ step before (Queue q)
  pub queue_mac : (q : MacQueueing) → step after (QueueMac q) ≡ step before (QueueMac q)
