-- The pieces of a stream together say what the whole stream says.
use Rattle.std.proofs.Common.{◌≡◌, ℕ, List, [], ◌∷◌, ◌++◌, Option, None, refl, sym, ap, subst, ◌∙◌, append_assoc}
use Rattle.std.proofs.lemmas.List.{append-nil}
use Rattle.link_messages.specs.declared.message.Peer.{Peer}
use Rattle.link_messages.specs.declared.message.Message.{Message}
use Rattle.link_messages.specs.Stream.{End, Rest, Fault, IsSaid, peer_after}
use Rattle.link_messages.specs.Feeding.{Adds, FeedState, FeedsAll, joined_pieces, new_feed}
use Rattle.link_messages.proofs.StreamLaws.{after-append, said_fault_more, said_more}

-- a feeder has heard this stream, which said these messages
abbrev HasHeard : List ℕ → List Message → FeedState → Type 0
HasHeard stream ms heard = (heard.peer ≡ peer_after None ms) × IsSaid None stream ms heard.end

one_more : (stream : List ℕ) (ms : List Message) (peer : Option Peer) (end : End) (piece : List ℕ) (others : List Message) (new : FeedState)
    → peer ≡ peer_after None ms → IsSaid None stream ms end → Adds peer end piece others new → HasHeard (stream ++ piece) (ms ++ others) new
one_more stream ms peer (Rest rest) piece others new who said adds =
    let next : IsSaid (peer_after None ms) (rest ++ piece) others new.end = subst (λ (p : Option Peer). IsSaid p (rest ++ piece) others new.end) who adds.1 in
    (adds.0 ∙ (ap (λ (p : Option Peer). peer_after p others) who ∙ sym (after-append None ms others)), said_more None stream rest piece ms others new.end said next)
one_more stream ms peer (Fault refusal) piece others new who said adds =
    let none : ms ++ others ≡ ms = ap (λ (qs : List Message). ms ++ qs) adds.0 ∙ append-nil ms in
    let stays = said_fault_more None stream piece ms refusal said in
    subst (λ (qs : List Message). HasHeard (stream ++ piece) qs new) (sym none)
    (subst (HasHeard (stream ++ piece) ms) (sym adds.1) (who, stays))

all_more : (pieces : List (List ℕ)) (stream : List ℕ) (ms : List Message) (old : FeedState) (others : List Message) (new : FeedState)
    → HasHeard stream ms old → FeedsAll old pieces others new → HasHeard (stream ++ joined_pieces pieces) (ms ++ others) new
all_more [] stream ms old others new has all =
    let whole : stream ++ [] ≡ stream = append-nil stream in
    let none : ms ++ others ≡ ms = ap (λ (qs : List Message). ms ++ qs) all.0 ∙ append-nil ms in
    subst (λ (s : List ℕ). HasHeard s (ms ++ others) new) (sym whole)
    (subst (λ (qs : List Message). HasHeard stream qs new) (sym none) (subst (HasHeard stream ms) (sym all.1) has))
all_more (piece ∷ pieces) stream ms old others new has all =
    let first = one_more stream ms old.peer old.end piece all.0 all.2 has.0 has.1 all.3 in
    let then = all_more pieces (stream ++ piece) (ms ++ all.0) all.2 all.1 new first all.4 in
    let bytes : (stream ++ piece) ++ joined_pieces pieces ≡ stream ++ (piece ++ joined_pieces pieces) = append_assoc stream piece (joined_pieces pieces) in
    let messages : (ms ++ all.0) ++ all.1 ≡ ms ++ others = append_assoc ms all.0 all.1 ∙ ap (λ (qs : List Message). ms ++ qs) (sym all.5) in
    subst (λ (s : List ℕ). HasHeard s (ms ++ others) new) bytes
    (subst (λ (qs : List Message). HasHeard ((stream ++ piece) ++ joined_pieces pieces) qs new) messages then)

pub pieces_said : (pieces : List (List ℕ)) (ms : List Message) (new : FeedState) → FeedsAll new_feed pieces ms new
    → (new.peer ≡ peer_after None ms) × IsSaid None (joined_pieces pieces) ms new.end
pieces_said pieces ms new all = all_more pieces [] [] new_feed ms new (refl, (refl, tt)) all
