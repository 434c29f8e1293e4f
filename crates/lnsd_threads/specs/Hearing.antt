-- What happens to the messages of a link.
use Rattle.std.specs.Prelude.{◌≡◌, ◌⊎◌, ◌∷◌, ◌++◌, ℕ, Bool, true, false, List, [], Option, Some}
use Rattle.std.specs.Prelude.{None, count_by}
use Rattle.lw_types.specs.declared.refusal.Refusal.{Refusal}
use Rattle.lw_types.specs.declared.refusal.Refusal.TheVariants.{BadMessage, OutOfMemory}
use Rattle.gateway_wire.specs.Request.{IsRequestLine}
use Rattle.link_messages.specs.Feeding.{FeedState, Feeds, fault_in}
use Rattle.link_messages.specs.declared.message.Message.{Message}
use Rattle.link_messages.specs.declared.message.Message.TheVariants.{Copy, Line}
use Rattle.link_messages.specs.declared.message.Peer.{Peer}
use Rattle.link_messages.specs.declared.message.Peer.TheVariants.{Application}
use Rattle.lnsd_links.specs.Allowed.{IsPaid}
use Rattle.lnsd_links.specs.declared.allowance.Allowance.{Allowance}
use Rattle.rtrb.specs.Ring.{sent, known_free}
use Rattle.rtrb.specs.declared.producer.Producer.{Producer}
use Rattle.session_core.specs.Seats.{SeatState, HasMade}
use Rattle.session_core.specs.declared.event.CallKind.TheVariants.{Asked, Heard}
use Rattle.session_core.specs.declared.turn.Turn.{Turn}

-- what came with a greeting: the messages of the piece of bytes that completed it, and the fault
-- after them
abbrev pub CameWithGreeting : List Message → Option Refusal → FeedState → Type 0
CameWithGreeting messages fault now =
    (before : FeedState) × ((piece : List ℕ) × ((before.peer ≡ None)
    × (Feeds before piece messages now × (fault ≡ fault_in now.end))))

-- A request of an application is handed in as that application's, and refused as its turn says. A
-- line that is no request is refused, and so is a line for which memory runs out; then nothing is
-- handed in.
abbrev pub IsAnswered : ℕ → List ℕ → SeatState → SeatState → Option Refusal → Type 0
IsAnswered application line old new refused =
    (IsRequestLine line × ((moment : ℕ) × ((turn : Turn)
    × (HasMade old new moment (Asked application) turn × (refused ≡ turn.refused)))))
    ⊎ ((new ≡ old) × ((refused ≡ Some OutOfMemory)
    ⊎ ((refused ≡ Some BadMessage) × ¬ (IsRequestLine line))))

-- a refusal, if there is one, was put into the ring of the application that asked, unless the ring
-- is full
abbrev pub IsTold : {A P : Type 0} → Option Refusal → Producer Refusal A P → Producer Refusal A P
    → Type 0
IsTold None old new = new ≡ old
IsTold (Some refusal) old new =
    (sent new ≡ sent old ++ refusal ∷ []) ⊎ ((sent new ≡ sent old) × (known_free new ≡ 0))

-- how a message of this peer changes its worker's seat and the ring of refusals: a copy is handed
-- in as its gateway's, and a line is answered
abbrev pub IsOneHeard : {A P : Type 0} → Option Peer → Message → SeatState → Producer Refusal A P
    → SeatState → Producer Refusal A P → Type 0
IsOneHeard peer (Copy copy) seat told new_seat new_told =
    ((moment : ℕ) × ((turn : Turn)
    × HasMade seat new_seat moment (Heard copy.reception.gateway) turn)) × (new_told ≡ told)
IsOneHeard (Some (Application application)) (Line line) seat told new_seat new_told =
    (refused : Option Refusal) × (IsAnswered application line seat new_seat refused
    × IsTold refused told new_told)
IsOneHeard peer message seat told new_seat new_told = (new_seat ≡ seat) × (new_told ≡ told)

-- how many of these messages are copies
abbrev pub is_copy : Message → Bool
is_copy (Copy copy) = true
is_copy message = false

abbrev pub copies_in : List Message → ℕ
copies_in messages = count_by is_copy messages

-- at some moment this number of copies is paid for, if the link is limited
abbrev pub ArePaidFor : ℕ → Option Allowance → Option Allowance → Type 0
ArePaidFor copies None new = new ≡ None
ArePaidFor copies (Some old) new =
    (moment : ℕ) × ((left : Allowance) × ((new ≡ Some left) × IsPaid copies moment old left))

-- messages are handled, one after another
abbrev pub AreHeard : {A P : Type 0} → Option Peer → List Message → SeatState
    → Producer Refusal A P → SeatState → Producer Refusal A P → Type 0
AreHeard peer [] seat told new_seat new_told = (new_seat ≡ seat) × (new_told ≡ told)
AreHeard {A} {P} peer (message ∷ messages) seat told new_seat new_told =
    (next_seat : SeatState) × ((next_told : Producer Refusal A P)
    × (IsOneHeard peer message seat told next_seat next_told
    × AreHeard peer messages next_seat next_told new_seat new_told))
