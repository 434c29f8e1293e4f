-- What a piece says that is read after everything that came over its link before.
use Rattle.std.proofs.Common.{◌≡◌, ◌∙◌, ℕ, List, [], ◌∷◌, ◌++◌, Option, None, ap, subst, refl}
use Rattle.std.proofs.lemmas.List.{append-nil}
use Rattle.lw_types.specs.declared.refusal.Refusal.{Refusal}
use Rattle.link_messages.specs.declared.message.Peer.{Peer}
use Rattle.link_messages.specs.declared.message.Message.{Message}
use Rattle.link_messages.specs.Stream.{IsSaid, peer_after}
use Rattle.link_messages.specs.Feeding.{FeedState, Feeds, FeedsAll, fault_in, joined_pieces, new_feed}
use Rattle.session_core.specs.declared.event.Event.{Event}
use Rattle.world.specs.Links.{AreHandedIn, Completes}

-- pieces say what they are joined
abbrev pub PiecesLaw : Type 0
PiecesLaw =
    (pieces : List (List ℕ)) (messages : List Message) (heard : FeedState)
    → FeedsAll new_feed pieces messages heard → (heard.peer ≡ peer_after None messages) × IsSaid None (joined_pieces pieces) messages heard.end

pub read_anew : PiecesLaw → (new heard now : FeedState) (stream said piece : List ℕ) (before others : List Message) (peer : Option Peer)
    (handed_in : List Event) (fault : Option Refusal) → new ≡ new_feed → said ≡ stream
    → Feeds new said before heard → Feeds heard piece others now → peer ≡ heard.peer → AreHandedIn peer others handed_in
    → fault ≡ fault_in now.end → Completes stream piece handed_in fault
read_anew law new heard now stream said piece before others peer handed_in fault is_new is_stream hears_before hears_others is_peer handed is_fault =
    let first : Feeds new_feed stream before heard =
    subst (λ l. Feeds new_feed l before heard) is_stream (subst (λ h. Feeds h said before heard) is_new hears_before) in
    let all : FeedsAll new_feed (stream ∷ piece ∷ []) (before ++ (others ++ [])) now =
    (before, others ++ [], heard, first, (others, [], now, hears_others, (refl, refl), refl), refl) in
    let whole : IsSaid None (stream ++ piece) (before ++ others) now.end =
    subst (λ l. IsSaid None (stream ++ l) (before ++ others) now.end) (append-nil piece) (
    subst (λ m. IsSaid None (stream ++ (piece ++ [])) (before ++ m) now.end) (append-nil others) (law (stream ∷ piece ∷ []) (before ++ (others ++ [])) now all).1
    ) in
    (before, others, heard.end, now.end, first.1, whole, subst (λ p. AreHandedIn p others handed_in) (is_peer ∙ first.0) handed, is_fault)
