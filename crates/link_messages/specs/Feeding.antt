-- What a feeder has read of its link's stream, and what it returns for a piece of it.
use Rattle.std.specs.Prelude.{◌≡◌, ℕ, List, [], ◌∷◌, ◌++◌, Option, Some, None, Result, Ok, Err}
use Rattle.lw_types.specs.declared.refusal.Refusal.{Refusal}
use Rattle.lw_types.specs.declared.refusal.Refusal.TheVariants.{CutShort}
use Rattle.link_messages.specs.declared.message.Peer.{Peer}
use Rattle.link_messages.specs.declared.message.Message.{Message}
use Rattle.link_messages.specs.Stream.{End, Rest, Fault, IsSaid, WantsMemory, peer_after}

-- the peer at the other end, none before the greeting, and how the stream ends so far
pub record FeedState : Type 0 where
  pub peer : Option Peer
  pub end : End

abbrev pub new_feed : FeedState
new_feed = record { peer = None; end = Rest [] }

abbrev pub fault_in : End → Option Refusal
fault_in (Rest bytes) = None
fault_in (Fault refusal) = Some refusal

-- what a piece adds: after a rest, the messages that both together say; after a fault, nothing
abbrev pub Adds : Option Peer → End → List ℕ → List Message → FeedState → Type 0
Adds peer (Rest rest) piece messages new =
    (new.peer ≡ peer_after peer messages) × IsSaid peer (rest ++ piece) messages new.end
Adds peer (Fault refusal) piece messages new =
    (messages ≡ []) × (new ≡ record { peer = peer; end = Fault refusal })

abbrev pub WantsMemoryBehind : Option Peer → End → List ℕ → Type 0
WantsMemoryBehind peer (Rest rest) piece = WantsMemory peer (rest ++ piece)
WantsMemoryBehind peer (Fault refusal) piece = ⊥

abbrev pub Feeds : FeedState → List ℕ → List Message → FeedState → Type 0
Feeds old piece messages new = Adds old.peer old.end piece messages new

-- memory is taken for what is then at the front; after a fault none is taken
abbrev pub FeedWantsMemory : FeedState → List ℕ → Type 0
FeedWantsMemory s piece = WantsMemoryBehind s.peer s.end piece

-- pieces, one after another, and all of their messages
abbrev pub FeedsAll : FeedState → List (List ℕ) → List Message → FeedState → Type 0
FeedsAll old [] messages new = (messages ≡ []) × (new ≡ old)
FeedsAll old (piece ∷ pieces) messages new =
    (first : List Message) × (others : List Message) × (between : FeedState)
    × Feeds old piece first between × FeedsAll between pieces others new
    × (messages ≡ first ++ others)

abbrev pub joined_pieces : List (List ℕ) → List ℕ
joined_pieces [] = []
joined_pieces (piece ∷ pieces) = piece ++ joined_pieces pieces

-- what the end of the input means: cut short exactly if a part of a frame is left
abbrev pub end_answer : End → Result (Unit {0}) Refusal
end_answer (Rest []) = Ok tt
end_answer (Rest (byte ∷ bytes)) = Err CutShort
end_answer (Fault refusal) = Err refusal

-- how bytes end that have this rest or this fault
abbrev pub end_of : Option Refusal → List ℕ → End
end_of None rest = Rest rest
end_of (Some refusal) rest = Fault refusal
