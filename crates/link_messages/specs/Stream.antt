-- What a link's stream of bytes says: messages, each in a frame, and then a rest or a fault. This
-- doesn't depend on the pieces in which the stream comes.
use Rattle.std.specs.Prelude.{◌≡◌, ℕ, ◌+◌, ◌<◌, ◌≤◌, ◌⊎◌, List, [], ◌∷◌, ◌++◌, length, Option, Some}
use Rattle.std.specs.Prelude.{None}
use Rattle.std.specs.Int.{w16, from_be_bytes}
use Rattle.lw_types.specs.declared.refusal.Refusal.{Refusal}
use Rattle.lw_types.specs.declared.refusal.Refusal.TheVariants.{BadMessage, FrameTooLong}
use Rattle.link_messages.specs.declared.message.Peer.{Peer}
use Rattle.link_messages.specs.declared.message.Message.{Message}
use Rattle.link_messages.specs.declared.message.Message.TheVariants.{Greeting}
use Rattle.link_messages.specs.Wire.{wire_frame}
use Rattle.link_messages.specs.Message.{IsSaying}

-- the peer at the other end after a message
abbrev pub peer_after_one : Option Peer → Message → Option Peer
peer_after_one peer (Greeting greeted) = Some greeted
peer_after_one peer message = peer

abbrev pub peer_after : Option Peer → List Message → Option Peer
peer_after peer [] = peer
peer_after peer (message ∷ messages) = peer_after (peer_after_one peer message) messages

-- how a stream ends: in the bytes of a frame that isn't whole, or in a fault
pub data End : Type 0 where
  Rest : List ℕ → End
  Fault : Refusal → End

-- ---- what is at the front of a stream

-- the length of the content, as the first two bytes state it
abbrev pub stated_length : List ℕ → Option ℕ
stated_length [] = None
stated_length (high ∷ []) = None
stated_length (high ∷ low ∷ behind) = Some (from_be_bytes w16 (high ∷ low ∷ []))

abbrev pub IsPartOf : ℕ → Option ℕ → Type 0
IsPartOf len None = Unit {0}
IsPartOf len (Some told) = (told ≤ 700) × (len < told + 2)

-- fewer bytes than a frame has, and the stated length, if both its bytes are there, is at most 700
abbrev pub IsPart : List ℕ → Type 0
IsPart stream = IsPartOf (length stream) (stated_length stream)

-- the two bytes of a length that is above the longest
abbrev pub IsTooLong : List ℕ → Type 0
IsTooLong stream = (told : ℕ) × (stated_length stream ≡ Some told) × (700 < told)

-- a whole frame with this content, and what follows it
abbrev pub IsFrame : List ℕ → List ℕ → List ℕ → Type 0
IsFrame stream content behind = (length content ≤ 700) × (stream ≡ wire_frame content ++ behind)

-- a whole frame whose content is no message that may be said
abbrev pub IsWrong : Option Peer → List ℕ → Type 0
IsWrong peer stream =
    (content : List ℕ) × (behind : List ℕ) × IsFrame stream content behind
    × ¬ ((message : Message) × IsSaying peer content message)

-- a message that may be said is at the front
abbrev pub BeginsWithMessage : Option Peer → List ℕ → Type 0
BeginsWithMessage peer stream =
    (content : List ℕ) × (behind : List ℕ) × (message : Message)
    × IsFrame stream content behind × IsSaying peer content message

-- a message is at the front, or all of it is a part of a frame; content that is no message takes no
-- memory
abbrev pub WantsMemory : Option Peer → List ℕ → Type 0
WantsMemory peer stream = IsPart stream ⊎ BeginsWithMessage peer stream

-- ---- what a stream says

-- a stream that begins with no message
abbrev pub IsEnd : Option Peer → List ℕ → End → Type 0
IsEnd peer stream (Rest bytes) = (stream ≡ bytes) × IsPart bytes
IsEnd peer stream (Fault refusal) =
    ((refusal ≡ FrameTooLong) × IsTooLong stream) ⊎ ((refusal ≡ BadMessage) × IsWrong peer stream)

-- this stream, on a link of this peer (none before the greeting), says these messages and ends so
abbrev pub IsSaid : Option Peer → List ℕ → List Message → End → Type 0
IsSaid peer stream [] end = IsEnd peer stream end
IsSaid peer stream (message ∷ messages) end =
    (content : List ℕ) × (behind : List ℕ) × IsFrame stream content behind
    × IsSaying peer content message
    × IsSaid (peer_after_one peer message) behind messages end
