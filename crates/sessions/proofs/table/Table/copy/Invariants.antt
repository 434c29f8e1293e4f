-- the devices so far, with room for all
use Rattle.std.proofs.Common.{nat_eq}
use Rattle.std.specs.HashMap.{get, spare}
use Rattle.std.specs.Vec.{vec_capacity}
use Rattle.sessions.proofs.table.Table.copy.Given as goal
use Rattle.sessions.proofs.CopyState.{Copied}

abbrev pub invariant-loop-slot : goal.invariant-loop-slot
invariant-loop-slot l = Copied l.slot l.most l.device-items l.devices.items (vec_capacity l.devices) (get nat_eq l.index) (spare l.index)
