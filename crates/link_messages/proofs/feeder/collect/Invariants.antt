use Rattle.std.proofs.Common.{◌≡◌, ◌⊎◌, List, ◌++◌, length}
use Rattle.link_messages.specs.declared.message.Message.{Message}
use Rattle.link_messages.specs.Steps.{IsSaidSoFar}
use Rattle.link_messages.specs.Stream.{BeginsWithMessage}
use Rattle.link_messages.proofs.feeder.collect.Given as goal

abbrev pub invariant-loop-fault : goal.invariant-loop-fault
invariant-loop-fault l =
    (new : List Message) × (l.messages.items ≡ l.fn.messages.items ++ new) × IsSaidSoFar l.fn.peer l.stream new l.peer l.left
    × (((l.left ≡ l.stream) × (l.peer ≡ l.fn.peer)) ⊎ BeginsWithMessage l.fn.peer l.stream)

abbrev pub decreases-loop-fault : goal.decreases-loop-fault
decreases-loop-fault l = length l.left
