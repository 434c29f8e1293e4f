use Rattle.std.proofs.Common.{arith}
use Rattle.gate_log.proofs.opening.Opening.new.Goals as goal

pub invariant_of-result : goal.invariant_of-result
invariant_of-result g c = record { settled = λ honest. grind arith }
