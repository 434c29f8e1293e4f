-- What links say, piece by piece.
use Rattle.std.proofs.Common.{◌≡◌, ◌≢◌, ◌∙◌, ℕ, IsSome, inl, inr, Bool, true, false, nat_eq, cond, List, [], ◌∷◌, ◌++◌, Option, Some, None, Result, Ok, Err, OnErr, append_assoc, refl, sym, ap, subst}
use Rattle.std.proofs.lemmas.Bool.{eqb-true, eqb-false}
use Rattle.std.proofs.lemmas.List.{append-nil}
use Rattle.lw_types.specs.declared.refusal.Refusal.{Refusal}
use Rattle.link_messages.specs.declared.message.Peer.{Peer}
use Rattle.link_messages.specs.declared.message.Peer.TheVariants.{Application, Gateway}
use Rattle.link_messages.specs.declared.message.Message.{Message}
use Rattle.link_messages.specs.declared.message.Message.TheVariants.{Copy, Greeting, Line}
use Rattle.link_messages.specs.Stream.{End, Rest, Fault, IsSaid, peer_after, peer_after_one}
use Rattle.link_messages.specs.Feeding.{Adds, FeedState, fault_in}
use Rattle.session_core.specs.declared.event.Event.{Event}
use Rattle.session_core.specs.declared.event.Event.TheVariants as events
use Rattle.world.specs.declared.links.Links.{Links}
use Rattle.world.specs.Links.{before_others, AddsNothing, AreHandedIn, HandsIn, Completes, HasSaid, Piece, SaysMore, heard_on, stream_on}

after_append : (peer : Option Peer) (xs ys : List Message) → peer_after peer (xs ++ ys) ≡ peer_after (peer_after peer xs) ys
after_append peer [] ys = refl
after_append peer (x ∷ xs) ys = after_append (peer_after_one peer x) xs ys

-- one more piece belongs to its own link's stream
stream_more : (l link : ℕ) (bytes : List ℕ) (pieces : List Piece)
    → stream_on l (pieces ++ record { link = link; bytes = bytes } ∷ []) ≡ cond (nat_eq link l) (stream_on l pieces ++ bytes) (stream_on l pieces)
stream_more l link bytes [] = by (nat_eq link l)
  where
    by : (b : Bool) → cond b (bytes ++ []) [] ≡ cond b bytes []
    by true = append-nil bytes
    by false = refl
stream_more l link bytes (piece ∷ pieces) = by (nat_eq piece.link l) (nat_eq link l) (stream_on l pieces) _ (stream_more l link bytes pieces)
  where
    by : (own other : Bool) (behind longer : List ℕ) → longer ≡ cond other (behind ++ bytes) behind
        → cond own (piece.bytes ++ longer) longer ≡ cond other (cond own (piece.bytes ++ behind) behind ++ bytes) (cond own (piece.bytes ++ behind) behind)
    by true true behind longer is = ap (λ k. piece.bytes ++ k) is ∙ sym (append_assoc piece.bytes behind bytes)
    by true false behind longer is = ap (λ k. piece.bytes ++ k) is
    by false true behind longer is = is
    by false false behind longer is = is

-- if messages have no events, neither the first has any nor the others
pub nothing_in_each : (peer : Option Peer) (message : Message) (messages : List Message) → AreHandedIn peer (message ∷ messages) []
    → HandsIn peer message None × AreHandedIn (peer_after_one peer message) messages []
nothing_in_each peer message messages (None, others, first, rest, is) = (first, subst (AreHandedIn (peer_after_one peer message) messages) (sym is) rest)
nothing_in_each peer message messages (Some event, others, first, rest, is) = let no : [] ≡ event ∷ others = is in cc

-- and a message that has no events has no event
pub hands_nothing : (peer : Option Peer) (message : Message) (event : Option Event) → HandsIn peer message None → HandsIn peer message event → event ≡ None
hands_nothing peer message None nothing is = refl
hands_nothing peer (Greeting greeted) (Some event) nothing is = is
hands_nothing peer (Copy copy) (Some event) nothing is = let no : None ≡ Some (events.Hear copy) = nothing in cc
hands_nothing None (Line line) (Some event) nothing is = is
hands_nothing (Some (Gateway name)) (Line line) (Some event) nothing is = is
hands_nothing (Some (Application name)) (Line line) (Some event) nothing (request, in_range, says, asks) = absurd (nothing (request, in_range, says))

-- what holds holds of an error
pub of_error : {A E : Type 0} (r : Result A E) (P : Type 0) → P → OnErr r P
of_error (Ok x) P p = tt
of_error (Err e) P p = p

pub before_append : (event : Option Event) (others : List Event) → before_others event [] ++ others ≡ before_others event others
before_append None others = refl
before_append (Some event) others = refl

-- where a link's bytes are cut makes no difference
abbrev pub RestLaw : Type 0
RestLaw =
    (peer : Option Peer) (stream : List ℕ) (rest : List ℕ) (piece : List ℕ) (messages : List Message) (others : List Message) (end : End)
    → IsSaid peer stream messages (Rest rest) → IsSaid (peer_after peer messages) (rest ++ piece) others end → IsSaid peer (stream ++ piece) (messages ++ others) end

abbrev pub FaultLaw : Type 0
FaultLaw =
    (peer : Option Peer) (stream : List ℕ) (piece : List ℕ) (messages : List Message) (refusal : Refusal)
    → IsSaid peer stream messages (Fault refusal) → IsSaid peer (stream ++ piece) messages (Fault refusal)

module _ (rest_law : RestLaw) (fault_law : FaultLaw) where
  says_on : (stream piece : List ℕ) (peer : Option Peer) (end : End) (before others : List Message) (new : FeedState) → IsSaid None stream before end → peer ≡ peer_after None before
      → Adds peer end piece others new → IsSaid None (stream ++ piece) (before ++ others) new.end × (new.peer ≡ peer_after None (before ++ others))
  says_on stream piece peer (Rest rest) before others new said is adds = (
    rest_law None stream rest piece before others new.end said (subst (λ p. IsSaid p (rest ++ piece) others new.end) is adds.1),
    adds.0 ∙ (ap (λ p. peer_after p others) is ∙ sym (after_append None before others)),
  )
  says_on stream piece peer (Fault refusal) before others new said is adds =
      let none : before ++ others ≡ before = ap (λ l. before ++ l) adds.0 ∙ append-nil before in (
        subst (λ e. IsSaid None (stream ++ piece) (before ++ others) e) (sym (ap (λ (h : FeedState). h.end) adds.1))
            (subst (λ l. IsSaid None (stream ++ piece) l (Fault refusal)) (sym none) (fault_law None stream piece before refusal said)),
        ap (λ (h : FeedState). h.peer) adds.1 ∙ (is ∙ ap (peer_after None) (sym none)),
      )

  -- what a piece adds to what the links have said
  pub says-more : (pieces : List Piece) (old new : Links) (link : ℕ) (piece : List ℕ) (handed_in : List Event) (fault : Option Refusal)
      → ((l : ℕ) → HasSaid (stream_on l pieces) (heard_on old l)) → SaysMore old link piece new handed_in fault
      → Completes (stream_on link pieces) piece handed_in fault
      × ((l : ℕ) → HasSaid (stream_on l (pieces ++ record { link = link; bytes = piece } ∷ [])) (heard_on new l))
  says-more pieces old new link piece handed_in fault said more =
      let before = said link in
      let was = heard_on old link in
      let now = heard_on new link in
      let stream = stream_on link pieces in
      let on = says_on stream piece was.peer was.end before.0 more.0 now before.1 before.2 more.1 in
      let here : HasSaid (stream ++ piece) now = (before.0 ++ more.0, on.0, on.1) in (
        (before.0, more.0, was.end, now.end, before.1, on.0, subst (λ p. AreHandedIn p more.0 handed_in) before.2 more.2, more.3),
        λ l. subst (λ k. HasSaid k (heard_on new l)) (sym (stream_more l link piece pieces)) (others l (nat_eq link l) refl here),
      )
    where
      others : (l : ℕ) (b : Bool) → nat_eq link l ≡ b → HasSaid (stream_on link pieces ++ piece) (heard_on new link)
          → HasSaid (cond b (stream_on l pieces ++ piece) (stream_on l pieces)) (heard_on new l)
      others l true is here = subst (λ k. HasSaid (stream_on k pieces ++ piece) (heard_on new k)) (eqb-true link l is) here
      others l false is here = subst (λ h. HasSaid (stream_on l pieces) h) (sym (more.4 l (λ same. eqb-false link l is (sym same)))) (said l)

-- a stream says one thing
abbrev pub OneLaw : Type 0
OneLaw =
    (peer : Option Peer) (stream : List ℕ) (a b : List Message) (x y : End) → IsSaid peer stream a x → IsSaid peer stream b y → (a ≡ b) × (x ≡ y)

-- bytes that come when there was no fault before add something
pub adds-something : OneLaw → (stream piece : List ℕ) (heard : FeedState) → HasSaid stream heard → piece ≢ [] → ¬ (IsSome (fault_in heard.end)) → ¬ (AddsNothing stream piece)
adds-something law stream piece heard said some faultless (inl empty) = some empty
adds-something law stream piece heard said some faultless (inr (messages, refusal, fault)) =
    let is = (law None stream messages said.0 (Fault refusal) heard.end fault said.1).1 in
    faultless (subst (λ (e : End). IsSome (fault_in e)) is refl)
