-- What takes memory: a message at the front, or a part of a frame.
use Rattle.std.proofs.Common.{◌≡◌, ◌∙◌, ◌⊎◌, ℕ, List, [], ◌∷◌, ◌++◌, Option, Result, Ok, Err, IfErr, inl, inr, sym, subst, append_assoc, ap}
use Rattle.link_messages.specs.declared.message.Peer.{Peer}
use Rattle.link_messages.specs.declared.message.Message.{Message}
use Rattle.link_messages.specs.Message.{IsSaying}
use Rattle.link_messages.specs.Steps.{HasGathered}
use Rattle.link_messages.specs.Stream.{BeginsWithMessage, IsFrame, IsPart, IsSaid, Rest, WantsMemory}
use Rattle.link_messages.proofs.StreamLaws.{frame_more}

-- what always holds also holds of a refusal
pub if-err : {A E : Type 0} {P : Type 0} (r : Result A E) → P → IfErr r (λ _. P)
if-err (Ok x) h = tt
if-err (Err e) h = h

pub begins-frame : (peer : Option Peer) (stream content behind : List ℕ) (m : Message) → IsFrame stream content behind → IsSaying peer content m → BeginsWithMessage peer stream
begins-frame peer stream content behind m frame saying = (content, behind, m, frame, saying)

pub begins-more : (peer : Option Peer) (stream more : List ℕ) → BeginsWithMessage peer stream → BeginsWithMessage peer (stream ++ more)
begins-more peer stream more h = (h.0, h.1 ++ more, h.2, frame_more stream h.0 h.1 more h.3, h.4)

-- a stream of which this much was read, with a message at the front of what is left
pub begins-left : (peer current : Option Peer) (stream left : List ℕ) → ((left ≡ stream) × (current ≡ peer)) ⊎ BeginsWithMessage peer stream → BeginsWithMessage current left
    → BeginsWithMessage peer stream
begins-left peer current stream left (inl same) h = subst (λ (s : List ℕ). BeginsWithMessage peer s) same.0 (subst (λ (p : Option Peer). BeginsWithMessage p left) same.1 h)
begins-left peer current stream left (inr begins) h = begins

takes-said : (peer : Option Peer) (stream left : List ℕ) (ms : List Message) → IsSaid peer stream ms (Rest left) → WantsMemory peer stream
takes-said peer stream left [] h = inl (subst IsPart (sym h.0) h.1)
takes-said peer stream left (m ∷ ms) h = inr (begins-frame peer stream h.0 h.1 m h.2 h.3)

pub takes-gathered : (peer : Option Peer) (stream left : List ℕ) (old new : List Message) (current : Option Peer) → HasGathered peer stream old new current (Rest left) → WantsMemory peer stream
takes-gathered peer stream left old new current h = takes-said peer stream left h.0 h.3

-- what is kept, with a piece of which this much finishes its frame
pub takes-front : (peer : Option Peer) (kept piece front behind more : List ℕ) → more ≡ kept ++ front → piece ≡ front ++ behind → BeginsWithMessage peer more → WantsMemory peer (kept ++ piece)
takes-front peer kept piece front behind more joined split h =
    let whole : more ++ behind ≡ kept ++ piece =
    ap (λ (bytes : List ℕ). bytes ++ behind) joined ∙ (append_assoc kept front behind ∙ ap (λ (bytes : List ℕ). kept ++ bytes) (sym split)) in
    inr (subst (BeginsWithMessage peer) whole (begins-more peer more behind h))
