use Rattle.std.proofs.Common.{◌≡◌, drop}
use Rattle.devices.specs.Heard.{best_with}
use Rattle.devices.proofs.heard.Hearings.heard_best.Given as goal

-- the best copy is the best of those still to be read and of the best one before them
abbrev pub invariant-loop-hearing : goal.invariant-loop-hearing
invariant-loop-hearing l = best_with l.initial.best l.hearing-items ≡ best_with l.best (drop l.hearing-index l.hearing-items)
