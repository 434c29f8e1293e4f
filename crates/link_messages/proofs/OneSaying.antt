-- Each stream of bytes has exactly one meaning.
use Rattle.std.proofs.Common.{◌≡◌, ℕ, zero, suc, ◌≤◌, List, [], ◌∷◌, ◌++◌, length, take, drop, Option, Some, None, refl, sym, ap, subst, ◌∙◌, arith, inl, inr}
use Rattle.std.specs.Int.{w16, to_be_bytes, from_be_bytes}
use Rattle.std.proofs.lemmas.Bool.{cases_lt}
use Rattle.std.proofs.lemmas.Nat.{be_bytes_2}
use Rattle.std.proofs.lemmas.List.{take-append-drop, length-take, length-drop}
use Rattle.lw_types.specs.Hex.{IsBytes}
use Rattle.lw_types.specs.declared.refusal.Refusal.TheVariants.{BadMessage, FrameTooLong}
use Rattle.byte_fields.proofs.FieldLemmas.{IsBytes-after, IsBytes-take}
use Rattle.link_messages.specs.declared.message.Peer.{Peer}
use Rattle.link_messages.specs.declared.message.Message.{Message}
use Rattle.link_messages.specs.Message.{IsSaying}
use Rattle.link_messages.specs.MessageReading.{message_at}
use Rattle.link_messages.specs.Stream.{End, Rest, Fault, IsEnd, IsFrame, IsPart, IsSaid, peer_after_one}
use Rattle.link_messages.proofs.Messages.{message_again, message_takes}
use Rattle.link_messages.proofs.StreamLaws.{frame_is_no_part, frame_is_short, one_frame, part_is_short}

-- ---- one

abbrev some_message : Message → Option Message
some_message m = Some m

message_same : (m n : Message) → some_message m ≡ some_message n → m ≡ n
message_same m n e = cc

saying_read : (peer : Option Peer) (content : List ℕ) (m : Message) → IsSaying peer content m → message_at peer content ≡ Some m
saying_read peer content m h = ap (message_at peer) h.2 ∙ message_again peer m h.0 h.1

one_saying : (peer : Option Peer) (content : List ℕ) (m n : Message) → IsSaying peer content m → IsSaying peer content n → m ≡ n
one_saying peer content m n one two = message_same m n (sym (saying_read peer content m one) ∙ saying_read peer content n two)

no_end : (peer : Option Peer) (stream content behind : List ℕ) (m : Message) (end : End) → IsFrame stream content behind → IsSaying peer content m → IsEnd peer stream end → ⊥
no_end peer stream content behind m (Rest rest) frame said h = frame_is_no_part stream content behind frame (subst IsPart (sym h.0) h.1)
no_end peer stream content behind m (Fault refusal) frame said (inl h) = frame_is_short stream content behind frame h.1
no_end peer stream content behind m (Fault refusal) frame said (inr h) =
    let same = one_frame stream content behind h.1.0 h.1.1 frame h.1.2 in
    h.1.3 (m, subst (λ (c : List ℕ). IsSaying peer c m) same.0 said)

one_end : (peer : Option Peer) (stream : List ℕ) (x y : End) → IsEnd peer stream x → IsEnd peer stream y → x ≡ y
one_end peer stream (Rest a) (Rest b) hx hy = ap Rest (sym hx.0 ∙ hy.0)
one_end peer stream (Rest a) (Fault f) hx (inl hy) = absurd (part_is_short stream (subst IsPart (sym hx.0) hx.1) hy.1)
one_end peer stream (Rest a) (Fault f) hx (inr hy) = absurd (frame_is_no_part stream hy.1.0 hy.1.1 hy.1.2 (subst IsPart (sym hx.0) hx.1))
one_end peer stream (Fault e) (Rest b) (inl hx) hy = absurd (part_is_short stream (subst IsPart (sym hy.0) hy.1) hx.1)
one_end peer stream (Fault e) (Rest b) (inr hx) hy = absurd (frame_is_no_part stream hx.1.0 hx.1.1 hx.1.2 (subst IsPart (sym hy.0) hy.1))
one_end peer stream (Fault e) (Fault f) (inl hx) (inl hy) = ap Fault (hx.0 ∙ sym hy.0)
one_end peer stream (Fault e) (Fault f) (inl hx) (inr hy) = absurd (frame_is_short stream hy.1.0 hy.1.1 hy.1.2 hx.1)
one_end peer stream (Fault e) (Fault f) (inr hx) (inl hy) = absurd (frame_is_short stream hx.1.0 hx.1.1 hx.1.2 hy.1)
one_end peer stream (Fault e) (Fault f) (inr hx) (inr hy) = ap Fault (hx.0 ∙ sym hy.0)

pub said_one : (peer : Option Peer) (stream : List ℕ) (a b : List Message) (x y : End) → IsSaid peer stream a x → IsSaid peer stream b y → (a ≡ b) × (x ≡ y)
said_one peer stream [] [] x y hx hy = (refl, one_end peer stream x y hx hy)
said_one peer stream [] (n ∷ ns) x y hx hy = absurd (no_end peer stream hy.0 hy.1 n x hy.2 hy.3 hx)
said_one peer stream (m ∷ ms) [] x y hx hy = absurd (no_end peer stream hx.0 hx.1 m y hx.2 hx.3 hy)
said_one peer stream (m ∷ ms) (n ∷ ns) x y hx hy =
    let same = one_frame stream hx.0 hx.1 hy.0 hy.1 hx.2 hy.2 in
    let is : m ≡ n = one_saying peer hy.0 m n (subst (λ (c : List ℕ). IsSaying peer c m) same.0 hx.3) hy.3 in
    let left : IsSaid (peer_after_one peer m) hy.1 ms x = subst (λ (b : List ℕ). IsSaid (peer_after_one peer m) b ms x) same.1 hx.4 in
    let behind : IsSaid (peer_after_one peer n) hy.1 ms x = subst (λ (q : Message). IsSaid (peer_after_one peer q) hy.1 ms x) is left in
    let others = said_one (peer_after_one peer n) hy.1 ms ns x y behind hy.4 in
    (ap (λ (q : Message). q ∷ ms) is ∙ ap (λ (qs : List Message). n ∷ qs) others.0, others.1)

-- ---- some

pub unsaid : (peer : Option Peer) (content : List ℕ) → message_at peer content ≡ None → ¬ ((m : Message) × IsSaying peer content m)
unsaid peer content none said = let e : message_at peer content ≡ Some said.0 = saying_read peer content said.0 said.1 in absurd cc

pub frame_is : (high low : ℕ) (rest : List ℕ) (told : ℕ) → IsBytes (high ∷ low ∷ rest) → told ≡ from_be_bytes w16 (high ∷ low ∷ []) → told ≤ 700 → told ≤ length rest
    → IsFrame (high ∷ low ∷ rest) (take told rest) (drop told rest)
frame_is high low rest told fits is few long =
    let len : length (take told rest) ≡ told = omega (arith, length-take told rest) in
    let head : to_be_bytes w16 told ≡ high ∷ low ∷ [] = be_bytes_2 (high ∷ low ∷ []) told refl (IsBytes-take 2 (high ∷ low ∷ rest) fits) is in
    let whole : rest ≡ take told rest ++ drop told rest = sym (take-append-drop told rest) in
    (omega arith, ap (λ (r : List ℕ). high ∷ low ∷ r) whole ∙ ap (λ (h : List ℕ). h ++ (take told rest ++ drop told rest)) (sym head) ∙ ap (λ (n : ℕ). to_be_bytes w16 n ++ (take told rest ++ drop told rest)) (sym len))

abbrev Says : Option Peer → List ℕ → Type 0
Says peer stream = (ms : List Message) × (end : End) × IsSaid peer stream ms end

with_message : (peer : Option Peer) (stream content behind : List ℕ) (read : Option Message) → message_at peer content ≡ read → IsBytes content → IsFrame stream content behind
    → ((next : Option Peer) → Says next behind) → Says peer stream
with_message peer stream content behind None e fits frame others = ([], Fault BadMessage, inr (refl, (content, behind, frame, unsaid peer content e)))
with_message peer stream content behind (Some m) e fits frame others =
    let said = others (peer_after_one peer m) in
    (m ∷ said.0, said.1, (content, behind, frame, message_takes peer content m fits e, said.2))

said_some : (fuel : ℕ) (peer : Option Peer) (stream : List ℕ) → IsBytes stream → length stream ≤ fuel → Says peer stream
said_some fuel peer [] fits le = ([], Rest [], (refl, tt))
said_some fuel peer (high ∷ []) fits le = ([], Rest (high ∷ []), (refl, tt))
said_some zero peer (high ∷ low ∷ rest) fits le = absurd (omega arith)
said_some (suc fuel) peer (high ∷ low ∷ rest) fits le =
    let told = from_be_bytes w16 (high ∷ low ∷ []) in
    elim (cases_lt 700 told) [
      | inl long ↦ ([], Fault FrameTooLong, inl (refl, (told, refl, long)))
      | inr few ↦ elim (cases_lt (length rest) told) [
        | inl part ↦ ([], Rest (high ∷ low ∷ rest), (refl, (few, omega arith)))
        | inr whole ↦
            let behind_fits : IsBytes (drop told rest) = IsBytes-after (take told rest) (drop told rest) (subst IsBytes (sym (take-append-drop told rest)) (λ i. fits (suc (suc i)))) in
            with_message peer (high ∷ low ∷ rest) (take told rest) (drop told rest) (message_at peer (take told rest)) refl
            (IsBytes-take told rest (λ i. fits (suc (suc i)))) (frame_is high low rest told fits refl few whole)
            (λ next. said_some fuel next (drop told rest) behind_fits (omega (arith, length-drop told rest)))
      ]
    ]

pub says : (peer : Option Peer) (stream : List ℕ) → IsBytes stream → (ms : List Message) × (end : End) × IsSaid peer stream ms end
says peer stream fits = said_some (length stream) peer stream fits (omega arith)
