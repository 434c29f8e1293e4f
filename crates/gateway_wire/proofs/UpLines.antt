-- The line of an uplink, around its payload.
use Rattle.std.proofs.Common.{◌≡◌, ◌∙◌, ◌+◌, ℕ, List, [], ◌∷◌, ◌++◌, ap, append_assoc, arith, codes, length, refl, sym}
use Rattle.std.specs.Int.{w16, to_be_bytes}
use Rattle.lw_types.specs.Hex.{field_text}
use Rattle.lw_types.specs.Words.{line_of}
use Rattle.gateway_wire.specs.Answer.{answer_frame, answer_head}
use Rattle.gateway_wire.specs.AppLine.{heard_words}
use Rattle.gateway_wire.specs.UpLine.{head_of_up, line_of_up}
use Rattle.gateway_wire.specs.declared.answer.TheConstants.{ANSWER}
use Rattle.gateway_wire.specs.declared.uplink.UpFields.{UpFields}

line_of-append : (word : List ℕ) (words : List (List ℕ)) (next : List ℕ) (more : List (List ℕ))
    → line_of (word ∷ words ++ next ∷ more) ≡ line_of (word ∷ words) ++ 32 ∷ line_of (next ∷ more)
unfolding line_of
line_of-append word [] next more = refl
line_of-append word (second ∷ words) next more =
    ap (λ (t : List ℕ). word ++ 32 ∷ t) (line_of-append second words next more)
    ∙ sym (append_assoc word (32 ∷ line_of (second ∷ words)) (32 ∷ line_of (next ∷ more)))

one_word : (word next : List ℕ) (more : List (List ℕ)) → line_of (word ∷ next ∷ more) ≡ word ++ 32 ∷ line_of (next ∷ more)
unfolding line_of
one_word word next more = refl

pub around_payload : (up : UpFields)
    → line_of_up up ≡ line_of (head_of_up up) ++ 32 ∷ (field_text up.payload.now ++ 32 ∷ line_of (heard_words up.copies up.best.now))
around_payload up =
    line_of-append (codes "up") _ (field_text up.payload.now) (heard_words up.copies up.best.now)
    ∙ ap (λ (t : List ℕ). line_of (head_of_up up) ++ 32 ∷ t) (one_word (field_text up.payload.now) _ _)

-- ---- a frame, put together part after part

put_more : (old there more part next : List ℕ) → there ≡ old ++ part → more ≡ there ++ next → more ≡ old ++ (part ++ next)
put_more old there more part next is then = then ∙ (ap (λ (l : List ℕ). l ++ next) is ∙ append_assoc old part next)

line_of_parts : (head field heard before after : List ℕ) → before ≡ head ++ 32 ∷ [] → after ≡ 32 ∷ heard
    → (before ++ field) ++ after ≡ head ++ 32 ∷ (field ++ 32 ∷ heard)
line_of_parts head field heard before after front back =
    ap (λ (l : List ℕ). (l ++ field) ++ after) front
    ∙ (ap (λ (l : List ℕ). ((head ++ 32 ∷ []) ++ field) ++ l) back
    ∙ (ap (λ (l : List ℕ). l ++ 32 ∷ heard) (append_assoc head (32 ∷ []) field) ∙ append_assoc head (32 ∷ field) (32 ∷ heard)))

head_and_line : (line : List ℕ) (len : ℕ) → len ≡ length line → answer_head len ++ line ≡ answer_frame line
head_and_line line len is =
    let content : 1 + len ≡ length (ANSWER ∷ line) = omega (arith, is) in
    ap (λ (n : ℕ). (to_be_bytes w16 n ++ ANSWER ∷ []) ++ line) content

-- The bytes of a line's frame, where a line has these parts: its head, then what is before and
-- after its field.
pub record AreParts (line head field heard before after : List ℕ) (len : ℕ) : Type 0 where
  pub line_is : line ≡ head ++ 32 ∷ (field ++ 32 ∷ heard)
  pub len_is : len ≡ length line
  pub front : before ≡ head ++ 32 ∷ []
  pub back : after ≡ 32 ∷ heard

pub frame_of_parts : (line head field heard before after : List ℕ) (len : ℕ) → AreParts line head field heard before after len
    → (old one two three four : List ℕ) → one ≡ old ++ answer_head len → two ≡ one ++ before → three ≡ two ++ field → four ≡ three ++ after
    → four ≡ old ++ answer_frame line
frame_of_parts line head field heard before after len parts old one two three four a b c d =
    let h = answer_head len in
    let two_is = put_more old one two h before a b in
    let three_is = put_more old two three (h ++ before) field two_is c in
    let four_is = put_more old three four ((h ++ before) ++ field) after three_is d in
    let together : (before ++ field) ++ after ≡ line = line_of_parts head field heard before after parts.front parts.back ∙ sym parts.line_is in
    let whole : ((h ++ before) ++ field) ++ after ≡ answer_frame line =
    ap (λ (l : List ℕ). l ++ after) (append_assoc h before field)
    ∙ (append_assoc h (before ++ field) after
    ∙ (ap (λ (l : List ℕ). h ++ l) together ∙ head_and_line line len parts.len_is)) in
    four_is ∙ ap (λ (l : List ℕ). old ++ l) whole
