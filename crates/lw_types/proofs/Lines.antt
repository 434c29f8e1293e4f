-- A line and its words.
use Rattle.std.proofs.Common.{◌≡◌, ◌≢◌, ℕ, ◌<◌, false, List, [], ◌∷◌, length, get_or, Option, Some, None, refl, ap, ◌∙◌, arith}
use denote.Ref.{Bor}
use Rattle.std.specs.List.{AllByRecursion, join_with_byte}
use Rattle.std.specs.Option.{MatchOption}
use Rattle.std.proofs.lemmas.Bool.{ne_eqb}
use Rattle.std.proofs.lemmas.List.{get_or_default}
use Rattle.std.proofs.lemmas.List.Elements.{All-cons}
use Rattle.std.proofs.lemmas.List.Splits.{join_with_byte-slice_split, slice_split_at, slice_split_none}
use Rattle.std.proofs.lemmas.Str.Pattern.{IsSplitOnceResult, split_parts}
use Rattle.lw_types.specs.Words.{is_space, words_of, line_of, IsWord, AreWords}

-- the text has no space
pub word_from_bytes : (text : List ℕ) → ((i : ℕ) → i < length text → get_or text i 0 ≢ 32) → IsWord text
word_from_bytes text h k d lt = ne_eqb (get_or text k d) 32 (λ e. h k lt (get_or_default text k 0 d lt ∙ e))

pub behind_dash : (text : List ℕ) → IsWord text → IsWord (45 ∷ text)
behind_dash text h = All-cons (λ c. is_space c ≡ false) 45 text refl h

-- the first word and what follows it, as the search for a space finds them
pub first_of : (line : List ℕ) (r : Option (Bor (List ℕ) × Bor (List ℕ))) → IsSplitOnceResult 32 line r → MatchOption r (words_of line ≡ line ∷ []) (λ x. words_of line ≡ x.0.now ∷ words_of x.1.now)
unfolding words_of
first_of line None h = slice_split_none is_space line (word_from_bytes line (split_parts 32 line None h (omega arith)))
first_of line (Some x) h =
    let parts = split_parts 32 line (Some x) h (omega arith) in
    ap words_of parts.0 ∙ slice_split_at is_space x.0.now 32 x.1.now (word_from_bytes x.0.now parts.1) refl

-- the line of a line's words is the line
pub line_of-words_of : (line : List ℕ) → line_of (words_of line) ≡ line
unfolding words_of line_of
line_of-words_of line = join_with_byte-slice_split 32 line

-- the words of a line of words are these words
split_back : (word : List ℕ) (words : List (List ℕ)) → AllByRecursion IsWord (word ∷ words) → words_of (line_of (word ∷ words)) ≡ word ∷ words
unfolding words_of line_of
split_back word [] each = slice_split_none is_space word each.0
split_back word (next ∷ words) each =
    slice_split_at is_space word 32 (join_with_byte 32 (next ∷ words)) each.0 refl ∙ ap (λ (rest : List (List ℕ)). word ∷ rest) (split_back next words each.1)

pub words_of-line_of : (words : List (List ℕ)) → AreWords words → words_of (line_of words) ≡ words
words_of-line_of [] h = absurd (omega arith)
words_of-line_of (word ∷ words) h = split_back word words h.1
