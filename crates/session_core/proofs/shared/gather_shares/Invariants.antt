use Rattle.std.proofs.Common.{◌≡◌, ◌+◌, length}
use Rattle.session_core.specs.Seats.{made_by}
use Rattle.session_core.proofs.shared.gather_shares.Given as goal

-- what was joined, with what is still to come
abbrev pub invariant-loop-seat : goal.invariant-loop-seat
invariant-loop-seat g l =
    (l.spare.parts + length l.seat-iterator.rest.items ≡ l.left + length l.fn.seats.items)
    × (l.spare.amount + made_by l.seat-iterator.rest.items ≡ made_by l.fn.seats.items)
