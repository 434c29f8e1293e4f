-- A text and its lines.
use Rattle.std.proofs.Common.{◌≡◌, ◌≢◌, ℕ, ◌<◌, false, List, [], ◌∷◌, length, get_or, Option, Some, None, refl, ap, ◌∙◌, arith}
use denote.Ref.{Bor}
use Rattle.std.specs.Prelude.{◌==◌}
use Rattle.std.specs.List.{All}
use Rattle.std.specs.Option.{MatchOption}
use Rattle.std.proofs.lemmas.Bool.{ne_eqb}
use Rattle.std.proofs.lemmas.List.{get_or_default}
use Rattle.std.proofs.lemmas.List.Splits.{slice_split_at, slice_split_none}
use Rattle.std.proofs.lemmas.Str.Pattern.{IsSplitOnceResult, split_parts}
use Rattle.lnsd_links.specs.NameLines.{lines_of}

-- the text has no newline
line_from_bytes : (text : List ℕ) → ((i : ℕ) → i < length text → get_or text i 0 ≢ 10) → All (λ c. c == 10 ≡ false) text
line_from_bytes text h k d lt = ne_eqb (get_or text k d) 10 (λ e. h k lt (get_or_default text k 0 d lt ∙ e))

-- the first line and what follows it, as the search for a newline finds them
pub first_of : (text : List ℕ) (r : Option (Bor (List ℕ) × Bor (List ℕ))) → IsSplitOnceResult 10 text r → MatchOption r (lines_of text ≡ text ∷ []) (λ x. lines_of text ≡ x.0.now ∷ lines_of x.1.now)
unfolding lines_of
first_of text None h = slice_split_none (λ c. c == 10) text (line_from_bytes text (split_parts 10 text None h (omega arith)))
first_of text (Some x) h =
    let parts = split_parts 10 text (Some x) h (omega arith) in
    ap lines_of parts.0 ∙ slice_split_at (λ c. c == 10) x.0.now 10 x.1.now (line_from_bytes x.0.now parts.1) refl
