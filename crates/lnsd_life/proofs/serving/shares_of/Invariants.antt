use Rattle.std.proofs.Common.{◌≡◌, map, take}
use Rattle.session_core.specs.Seats.{SeatState}
use Rattle.lnsd_life.proofs.serving.shares_of.Given as goal

abbrev pub invariant-loop-seat : goal.invariant-loop-seat
invariant-loop-seat g l = l.shares.items ≡ map (λ (s : SeatState). s.made) (take l.seat-index l.seats.items)
