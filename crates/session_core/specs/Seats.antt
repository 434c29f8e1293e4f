-- What a seat says about the calls that were made through it.
use Rattle.std.specs.Prelude.{◌≡◌, ◌+◌, ◌≤◌, ◌-◌, ◌^◌, ℕ, List, map, min, sum, Option, Some, None}
use Rattle.session_core.specs.declared.event.CallKind.{CallKind}
use Rattle.session_core.specs.declared.seat.LastCall.{LastCall}
use Rattle.session_core.specs.declared.turn.Turn.{Turn}

-- the number of calls through a seat, the number of decisions made through it, and the last call
pub record SeatState : Type 0 where
  pub calls : ℕ
  pub made : ℕ
  pub last : Option LastCall

-- a seat through which nothing was handed in yet
abbrev pub new_seat : SeatState
new_seat = record { calls = 0; made = 0; last = None }

-- the number of decisions made through these seats together
abbrev pub made_by : List SeatState → ℕ
made_by seats = sum (map (λ s. s.made) seats)

-- One call through a seat: it is counted, up to the largest number of 64 bits. The seat's share
-- grew by the decisions of the turn, which may be none, and is at most the number made so far. This
-- call is its last one, refused as the turn says.
pub record HasMade (old new : SeatState) (moment : ℕ) (kind : CallKind) (turn : Turn) : Type 0 where
  pub calls : new.calls ≡ min (old.calls + 1) (2 ^ 64 - 1)
  pub order : turn.from ≤ turn.to
  pub grown : new.made + turn.from ≡ old.made + turn.to
  pub within : new.made ≤ turn.to
  pub last : new.last ≡ Some (record { moment = moment; kind = kind; refused = turn.refused })
