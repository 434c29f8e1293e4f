-- What a stream says: one thing, and the same for any way to cut it.
use Rattle.std.proofs.Common.{◌≡◌, ℕ, ◌+◌, ◌≤◌, List, [], ◌∷◌, ◌++◌, length, take, drop, Option, Some, refl, sym, ap, subst, ◌∙◌, append_assoc, arith, inl, inr}
use Rattle.std.proofs.lemmas.Nat.{from_be_bytes-to_be_bytes_2}
use Rattle.std.proofs.lemmas.List.{length-append, take_at, drop_at}
use Rattle.lw_types.specs.declared.refusal.Refusal.{Refusal}
use Rattle.link_messages.specs.declared.message.Peer.{Peer}
use Rattle.link_messages.specs.declared.message.Message.{Message}
use Rattle.link_messages.specs.Wire.{wire_frame}
use Rattle.link_messages.specs.Stream.{End, Rest, Fault, IsEnd, IsFrame, IsPart, IsPartOf, IsSaid, IsTooLong, peer_after, peer_after_one, stated_length}

-- ---- frames

-- what a frame says about its length
pub told_of_frame : (content behind : List ℕ) → length content ≤ 700 → stated_length (wire_frame content ++ behind) ≡ Some (length content)
told_of_frame content behind few = ap (λ (n : ℕ). Some n) (from_be_bytes-to_be_bytes_2 (length content) (omega arith))

frame_told : (stream content behind : List ℕ) → IsFrame stream content behind → stated_length stream ≡ Some (length content)
frame_told stream content behind frame = ap stated_length frame.1 ∙ told_of_frame content behind frame.0

abbrev pub some_of : ℕ → Option ℕ
some_of n = Some n

pub some_same : (a b : ℕ) → some_of a ≡ some_of b → a ≡ b
some_same a b e = cc

pub frame_length : (stream content behind : List ℕ) → IsFrame stream content behind → length stream ≡ length content + 2 + length behind
frame_length stream content behind frame = ap length frame.1 ∙ omega (arith, length-append content behind)

pub frame_is_no_part : (stream content behind : List ℕ) → IsFrame stream content behind → IsPart stream → ⊥
frame_is_no_part stream content behind frame part =
    let h : IsPartOf (length stream) (Some (length content)) = subst (IsPartOf (length stream)) (frame_told stream content behind frame) part in
    omega (arith, h.1, frame_length stream content behind frame)

pub frame_is_short : (stream content behind : List ℕ) → IsFrame stream content behind → IsTooLong stream → ⊥
frame_is_short stream content behind frame long =
    let e = some_same (length content) long.0 (sym (frame_told stream content behind frame) ∙ long.1) in
    omega (arith, frame.0, long.2)

pub part_is_short : (stream : List ℕ) → IsPart stream → IsTooLong stream → ⊥
part_is_short stream part long =
    let h : IsPartOf (length stream) (Some long.0) = subst (IsPartOf (length stream)) long.1 part in
    omega (arith, h.0, long.2)

-- only one frame is at the front
pub one_frame : (stream a b c d : List ℕ) → IsFrame stream a b → IsFrame stream c d → (a ≡ c) × (b ≡ d)
one_frame stream a b c d one two =
    let len = some_same (length a) (length c) (sym (frame_told stream a b one) ∙ frame_told stream c d two) in
    let whole : drop 2 (wire_frame a ++ b) ≡ drop 2 (wire_frame c ++ d) = ap (drop 2) (sym one.1 ∙ two.1) in
    let at_a = take_at a b (length a) refl in
    let at_c = take_at c d (length a) (sym len) in
    let in_a = drop_at a b (length a) refl in
    let in_c = drop_at c d (length a) (sym len) in
    (sym at_a ∙ (ap (take (length a)) whole ∙ at_c), sym in_a ∙ (ap (drop (length a)) whole ∙ in_c))

-- ---- more bytes

pub frame_more : (stream content behind more : List ℕ) → IsFrame stream content behind → IsFrame (stream ++ more) content (behind ++ more)
frame_more stream content behind more frame = (frame.0, ap (λ (s : List ℕ). s ++ more) frame.1 ∙ append_assoc (wire_frame content) behind more)

told_more : (stream more : List ℕ) (told : ℕ) → stated_length stream ≡ Some told → stated_length (stream ++ more) ≡ Some told
told_more [] more told e = absurd cc
told_more (high ∷ []) more told e = absurd cc
told_more (high ∷ low ∷ rest) more told e = e

-- a fault stays
pub fault_more : (peer : Option Peer) (stream more : List ℕ) (refusal : Refusal) → IsEnd peer stream (Fault refusal) → IsEnd peer (stream ++ more) (Fault refusal)
fault_more peer stream more refusal (inl h) = inl (h.0, (h.1.0, told_more stream more h.1.0 h.1.1, h.1.2))
fault_more peer stream more refusal (inr h) = inr (h.0, (h.1.0, h.1.1 ++ more, frame_more stream h.1.0 h.1.1 more h.1.2, h.1.3))

pub said_fault_more : (peer : Option Peer) (stream more : List ℕ) (ms : List Message) (refusal : Refusal) → IsSaid peer stream ms (Fault refusal) → IsSaid peer (stream ++ more) ms (Fault refusal)
said_fault_more peer stream more [] refusal h = fault_more peer stream more refusal h
said_fault_more peer stream more (m ∷ ms) refusal h =
    (h.0, h.1 ++ more, frame_more stream h.0 h.1 more h.2, h.3, said_fault_more (peer_after_one peer m) h.1 more ms refusal h.4)

-- what the rest and a piece say comes after what was said before
pub said_more : (peer : Option Peer) (stream rest piece : List ℕ) (ms others : List Message) (end : End)
    → IsSaid peer stream ms (Rest rest) → IsSaid (peer_after peer ms) (rest ++ piece) others end → IsSaid peer (stream ++ piece) (ms ++ others) end
said_more peer stream rest piece [] others end h next =
    subst (λ (s : List ℕ). IsSaid peer (s ++ piece) others end) (sym h.0) next
said_more peer stream rest piece (m ∷ ms) others end h next =
    (h.0, h.1 ++ piece, frame_more stream h.0 h.1 piece h.2, h.3, said_more (peer_after_one peer m) h.1 rest piece ms others end h.4 next)

pub after-append : (peer : Option Peer) (ms others : List Message) → peer_after peer (ms ++ others) ≡ peer_after (peer_after peer ms) others
after-append peer [] others = refl
after-append peer (m ∷ ms) others = after-append (peer_after_one peer m) ms others

-- the rest that a stream ends in is a part of a frame
pub said_part : (peer : Option Peer) (stream rest : List ℕ) (ms : List Message) → IsSaid peer stream ms (Rest rest) → IsPart rest
said_part peer stream rest [] h = h.1
said_part peer stream rest (m ∷ ms) h = said_part (peer_after_one peer m) h.1 rest ms h.4
