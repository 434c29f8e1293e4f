-- What the functions inside a feeder return: they read a stream frame by frame.
use Rattle.std.specs.Prelude.{◌≡◌, ℕ, ◌⊎◌, List, [], ◌++◌, Option, Some, None, Result, Ok, Err}
use denote.Ref.{Bor}
use Rattle.lw_types.specs.declared.refusal.Refusal.{Refusal}
use Rattle.lw_types.specs.declared.refusal.Refusal.TheVariants.{BadMessage, FrameTooLong}
use Rattle.lw_types.specs.declared.refusal.Refusal.TheVariants.{OutOfMemory}
use Rattle.link_messages.specs.declared.message.Peer.{Peer}
use Rattle.link_messages.specs.declared.message.Message.{Message}
use Rattle.link_messages.specs.declared.feeder.Next.{Next}
use Rattle.link_messages.specs.Stream.{BeginsWithMessage, End, Fault, IsEnd, IsFrame, IsPart}
use Rattle.link_messages.specs.Stream.{IsSaid, IsTooLong, peer_after}
use Rattle.link_messages.specs.Message.{IsSaying}

-- the first frame and what follows it, a part of one, or a length that is too long
abbrev pub IsFirstFrame : List ℕ → Result (Option (Bor (List ℕ) × Bor (List ℕ))) Refusal → Type 0
IsFirstFrame stream (Ok None) = IsPart stream
IsFirstFrame stream (Ok (Some frame)) = IsFrame stream frame.0.now frame.1.now
IsFirstFrame stream (Err refusal) = (refusal ≡ FrameTooLong) × IsTooLong stream

-- bytes that were kept, with those that finish their frame, and what comes after these
abbrev pub Finishes : List ℕ → List ℕ → Type 0
Finishes kept behind =
    (IsPart kept × (behind ≡ []))
    ⊎ (IsTooLong kept ⊎ ((content : List ℕ) × IsFrame kept content []))

-- the first message and what follows it, a part of a frame, or a fault; or memory runs out for a
-- message
abbrev pub IsNext : Option Peer → List ℕ → Result Next Refusal → Type 0
IsNext peer stream (Ok (Next.Message message behind)) =
    (content : List ℕ) × IsFrame stream content behind.now × IsSaying peer content message
IsNext peer stream (Ok Next.Nothing) = IsPart stream
IsNext peer stream (Ok (Next.Fault refusal)) = IsEnd peer stream (Fault refusal)
IsNext peer stream (Err refusal) = (refusal ≡ OutOfMemory) × BeginsWithMessage peer stream

-- a message that may be said, unless memory runs out for it; or that there is none
abbrev pub Tells : Option Peer → List ℕ → Result Message Refusal → Type 0
Tells peer content (Ok message) = IsSaying peer content message
Tells peer content (Err refusal) =
    ((refusal ≡ OutOfMemory) × ((message : Message) × IsSaying peer content message))
    ⊎ ((refusal ≡ BadMessage) × ¬ ((message : Message) × IsSaying peer content message))

-- this stream said these messages so far, and this is left to read
pub record IsSaidSoFar (peer : Option Peer) (stream : List ℕ) (messages : List Message)
    (current : Option Peer) (left : List ℕ) : Type 0 where
  pub who : current ≡ peer_after peer messages
  pub said : (others : List Message) (end : End) → IsSaid current left others end
      → IsSaid peer stream (messages ++ others) end

-- messages that come after those before, and the peer at the other end then, for a stream that ends
-- so
abbrev pub HasGathered : Option Peer → List ℕ → List Message → List Message → Option Peer → End
    → Type 0
HasGathered peer stream old new current end =
    (messages : List Message) × (new ≡ old ++ messages) × (current ≡ peer_after peer messages)
    × IsSaid peer stream messages end
