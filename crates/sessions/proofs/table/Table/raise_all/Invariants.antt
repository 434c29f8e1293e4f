use Rattle.std.proofs.Common.{◌≡◌, take}
use Rattle.sessions.specs.Restored.{raised_by_all}
use Rattle.sessions.proofs.table.Table.raise_all.Given as goal

abbrev pub invariant-loop-session : goal.invariant-loop-session
invariant-loop-session l = l.self ≡ raised_by_all (take l.session-index l.sessions) l.fn.self
