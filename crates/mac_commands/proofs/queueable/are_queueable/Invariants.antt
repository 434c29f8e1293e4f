use Rattle.std.proofs.Common.{length}
use Rattle.mac_commands.proofs.Queues.{HasQueued}
use Rattle.mac_commands.proofs.queueable.are_queueable.Given as goal

abbrev pub invariant-loop-front : goal.invariant-loop-front
invariant-loop-front l = HasQueued l.bytes l.rest

abbrev pub decreases-loop-front : goal.decreases-loop-front
decreases-loop-front l = length l.rest
