use Rattle.devices.proofs.Gateways.{ReceivableBelow}
use Rattle.devices.proofs.heard.are_receivable.Given as goal

abbrev pub invariant-loop-hearing : goal.invariant-loop-hearing
invariant-loop-hearing l = ReceivableBelow l.hearings l.hearing-index
