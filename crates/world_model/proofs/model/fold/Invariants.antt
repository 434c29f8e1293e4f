-- the commands that are left do on this table what all of them do on the first, and the effects so far come before theirs
use Rattle.std.proofs.Common.{◌≡◌, ◌++◌, drop}
use Rattle.sessions.specs.Table.{fold_of, effects_of}
use Rattle.world_model.proofs.model.fold.Given as goal

abbrev pub invariant-loop-command : goal.invariant-loop-command
invariant-loop-command l =
    (fold_of l.table (drop l.command-index l.commands) ≡ fold_of l.fn.table l.commands)
    × (l.effects.items ++ effects_of l.table (drop l.command-index l.commands) ≡ effects_of l.fn.table l.commands)
