use Rattle.devices.proofs.Gateways.{ApartBelow}
use Rattle.devices.proofs.heard.are_apart.Given as goal

abbrev pub invariant-loop-i : goal.invariant-loop-i
invariant-loop-i l = ApartBelow l.hearings l.i
