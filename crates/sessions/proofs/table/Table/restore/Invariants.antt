-- the devices so far are restored, and nothing else changes
use Rattle.std.proofs.Common.{◌≡◌}
use Rattle.std.specs.Vec.{vec_capacity}
use Rattle.sessions.proofs.Restoring.{restored_up_to}
use Rattle.sessions.proofs.table.Table.restore.Given as goal

abbrev pub invariant-loop-slot : goal.invariant-loop-slot
invariant-loop-slot l =
    (l.self-inside.devices.items ≡ restored_up_to l.since l.slot l.initial.self-inside.devices.items)
    × ((vec_capacity l.self-inside.devices ≡ vec_capacity l.initial.self-inside.devices)
    × ((l.self-inside.net_id ≡ l.initial.self-inside.net_id)
    × ((l.self-inside.slots ≡ l.initial.self-inside.slots)
    × (l.self-inside.index ≡ l.initial.self-inside.index))))
