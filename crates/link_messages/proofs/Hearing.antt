-- Messages that are read one after another, and a piece after the bytes that were kept.
use Rattle.std.proofs.Common.{◌≡◌, ℕ, ◌<◌, List, [], ◌∷◌, ◌++◌, length, Option, None, Result, Ok, Err, refl, sym, ap, subst, ◌∙◌, append_assoc, arith, inl, inr}
use Rattle.std.specs.Prelude.{IfOk}
use Rattle.std.proofs.lemmas.List.{append-nil}
use Rattle.lw_types.specs.declared.refusal.Refusal.{Refusal}
use Rattle.link_messages.specs.declared.message.Peer.{Peer}
use Rattle.link_messages.specs.declared.message.Message.{Message}
use Rattle.link_messages.specs.Message.{IsSaying}
use Rattle.link_messages.specs.Stream.{End, Rest, Fault, IsEnd, IsFrame, IsPart, IsSaid, peer_after, peer_after_one}
use Rattle.link_messages.specs.Feeding.{end_of}
use Rattle.link_messages.specs.Steps.{Finishes, HasGathered, IsSaidSoFar}
use Rattle.link_messages.proofs.StreamLaws.{after-append, fault_more, frame_is_no_part, frame_is_short, frame_length, one_frame, said_more, said_part}

-- ---- one after another

pub so_far_start : (peer : Option Peer) (stream : List ℕ) → IsSaidSoFar peer stream [] peer stream
so_far_start peer stream = record { who = refl; said = λ others end h. h }

pub so_far_step : (peer : Option Peer) (stream : List ℕ) (ms : List Message) (current : Option Peer) (left content behind : List ℕ) (m : Message)
    → IsSaidSoFar peer stream ms current left → IsFrame left content behind → IsSaying current content m → IsSaidSoFar peer stream (ms ++ m ∷ []) (peer_after_one current m) behind
so_far_step peer stream ms current left content behind m so_far frame saying = record {
  who = ap (λ (p : Option Peer). peer_after_one p m) so_far.who ∙ sym (after-append peer ms (m ∷ []));
  said = λ others end h.
      subst (λ (qs : List Message). IsSaid peer stream qs end) (sym (append_assoc ms (m ∷ []) others)) (so_far.said (m ∷ others) end (content, behind, frame, saying, h));
}

pub so_far_end : (peer : Option Peer) (stream : List ℕ) (ms : List Message) (current : Option Peer) (left : List ℕ) (end : End)
    → IsSaidSoFar peer stream ms current left → IsEnd current left end → IsSaid peer stream ms end
so_far_end peer stream ms current left end so_far h =
    subst (λ (qs : List Message). IsSaid peer stream qs end) (append-nil ms) (so_far.said [] end h)

pub frame_shorter : (stream content behind : List ℕ) → IsFrame stream content behind → length behind < length stream
frame_shorter stream content behind frame = omega (arith, frame_length stream content behind frame)

-- ---- the rest that is kept

pub heard_rest : (peer : Option Peer) (stream : List ℕ) (old new : List Message) (current : Option Peer) (fault : Option Refusal) (left : List ℕ)
    → HasGathered peer stream old new current (end_of fault left) → fault ≡ None → IsPart left × HasGathered peer stream old new current (Rest left)
heard_rest peer stream old new current fault left h none =
    let at : HasGathered peer stream old new current (Rest left) = subst (λ (f : Option Refusal). HasGathered peer stream old new current (end_of f left)) none h in
    (said_part peer stream left at.0 at.3, at)

-- ---- a piece after what was kept

whole_piece : (kept piece front behind more : List ℕ) → more ≡ kept ++ front → piece ≡ front ++ behind → more ++ behind ≡ kept ++ piece
whole_piece kept piece front behind more joined split =
    ap (λ (bytes : List ℕ). bytes ++ behind) joined ∙ (append_assoc kept front behind ∙ ap (λ (bytes : List ℕ). kept ++ bytes) (sym split))

pub heard_fault : (peer : Option Peer) (kept piece front behind more : List ℕ) (old : List Message) (refusal : Refusal) → more ≡ kept ++ front → piece ≡ front ++ behind
    → IsEnd peer more (Fault refusal) → HasGathered peer (kept ++ piece) old old peer (Fault refusal)
heard_fault peer kept piece front behind more old refusal joined split h =
    let all = subst (λ (stream : List ℕ). IsEnd peer stream (Fault refusal)) (whole_piece kept piece front behind more joined split) (fault_more peer more behind refusal h) in
    ([], sym (append-nil old), refl, all)

nothing_behind : (more content others behind : List ℕ) → Finishes more behind → IsFrame more content others → others ≡ []
nothing_behind more content others behind (inl part) frame = absurd (frame_is_no_part more content others frame part.0)
nothing_behind more content others behind (inr (inl long)) frame = absurd (frame_is_short more content others frame long)
nothing_behind more content others behind (inr (inr whole)) frame = (one_frame more content others whole.0 [] frame whole.1).1

pub heard_behind : (peer : Option Peer) (kept piece front behind more content others : List ℕ) (m : Message) (old pushed new : List Message) (next current : Option Peer) (end : End)
    → more ≡ kept ++ front → piece ≡ front ++ behind → Finishes more behind → IsFrame more content others → IsSaying peer content m
    → next ≡ peer_after_one peer m → pushed ≡ old ++ m ∷ []
    → HasGathered next behind pushed new current end → HasGathered peer (kept ++ piece) old new current end
heard_behind peer kept piece front behind more content others m old pushed new next current end joined split finished frame saying is_next is_pushed h =
    let first : IsSaid peer more (m ∷ []) (Rest []) = (content, others, frame, saying, (nothing_behind more content others behind finished frame, tt)) in
    let then : IsSaid (peer_after_one peer m) behind h.0 end = subst (λ (p : Option Peer). IsSaid p behind h.0 end) is_next h.3 in
    let all = said_more peer more [] behind (m ∷ []) h.0 end first then in (
      m ∷ h.0,
      h.1 ∙ (ap (λ (qs : List Message). qs ++ h.0) is_pushed ∙ append_assoc old (m ∷ []) h.0),
      h.2 ∙ ap (λ (p : Option Peer). peer_after p h.0) is_next,
      subst (λ (stream : List ℕ). IsSaid peer stream (m ∷ h.0) end) (whole_piece kept piece front behind more joined split) all,
    )

pub if_ok : {A E : Type 0} (P Q : A → Type 0) (r : Result A E) → ((x : A) → P x → Q x) → IfOk r P → IfOk r Q
if_ok P Q (Ok x) f h = f x h
if_ok P Q (Err e) f h = tt
