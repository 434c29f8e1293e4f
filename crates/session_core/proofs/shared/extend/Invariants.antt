-- The decisions before this place are in the history.
use Rattle.std.proofs.Common.{◌≡◌, ◌≤◌, ◌+◌, ◌++◌, drop, length}
use Rattle.session_core.proofs.shared.extend.Given as goal

abbrev pub invariant-loop-place : goal.invariant-loop-place
invariant-loop-place g l =
    let s = l.fn.core.decisions in
    (drop s.taken l.history ++ drop l.place s.log ≡ s.log)
    × ((length l.history ≡ s.taken + l.place) × (l.place ≤ length s.log))
