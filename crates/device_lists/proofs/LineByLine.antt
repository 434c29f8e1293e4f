-- The rows of a text, one line after the other.
use Rattle.std.proofs.Common.{◌≡◌, ◌<◌, ◌+◌, ◌∙◌, inl, inr, ℕ, List, [], ◌∷◌, Option, None, Some, ap, refl, subst, arith, length, zero, suc, Bool, true, false, ◌==◌}
use Rattle.device_lists.specs.declared.rows.NumberedRow.{NumberedRow}
use Rattle.device_lists.specs.declared.rows.Rows.{Rows}
use Rattle.csv.specs.Records.{fields_of}
use Rattle.std.proofs.lemmas.Bool.{eqb-true}
use Rattle.std.proofs.lemmas.List.{length-append}
use Rattle.device_lists.specs.Rows.{AreLines, AreRows, AreRowsAfter, HasNoLineFeed, SplitsAfterLine, Numbered, TakesRow, and_row, rows_after, values_in}

pub shorter : (text line rest : List ℕ) → 0 < length text → SplitsAfterLine text line rest → length rest < length text
shorter text line rest some (inl e) = omega (arith, ap length e ∙ length-append line (10 ∷ rest))
shorter text line rest some (inr e) = omega (arith, some, ap length e.1)

-- one line before what is left
pub line_before : (n : ℕ) (text line rest : List ℕ) (more : List Numbered) → 0 < length text → HasNoLineFeed line → SplitsAfterLine text line rest
    → AreRowsAfter (n + 1) rest more → AreRowsAfter n text (and_row (n + 1) (values_in line) more)
line_before n text line rest more some one split left =
    (line ∷ left.0, (rest, some, one, split, left.1), ap (and_row (n + 1) (values_in line)) left.2)

-- a line that is no row
pub no_row : (n : ℕ) (text line rest : List ℕ) (more : List Numbered) → 0 < length text → HasNoLineFeed line → SplitsAfterLine text line rest
    → values_in line ≡ None → AreRowsAfter (n + 1) rest more → AreRowsAfter n text more
no_row n text line rest more some one split none left =
    subst (λ v. AreRowsAfter n text (and_row (n + 1) v more)) none (line_before n text line rest more some one split left)

-- a line that is a row
pub a_row : (n : ℕ) (text line rest : List ℕ) (values : List (List ℕ)) (more : List Numbered) → 0 < length text → HasNoLineFeed line
    → SplitsAfterLine text line rest → values_in line ≡ Some values → AreRowsAfter (n + 1) rest more
    → AreRowsAfter n text (record { line = n + 1; values = values } ∷ more)
a_row n text line rest values more some one split is left =
    subst (λ v. AreRowsAfter n text (and_row (n + 1) v more)) is (line_before n text line rest more some one split left)

-- the row that was taken is before those that are left
pub row_taken : (old : Rows) (o : Option NumberedRow) (row : NumberedRow) (new : Rows) → o ≡ Some row → TakesRow old o new
    → (more : List Numbered) → AreRowsAfter new.line new.rest.now more
    → AreRowsAfter old.line old.rest.now (record { line = row.line; values = fields_of row.values } ∷ more)
row_taken old o row new is taken = subst (λ o. TakesRow old o new) is taken

pub none_taken : (old : Rows) (o : Option NumberedRow) (new : Rows) → o ≡ None → TakesRow old o new → AreRowsAfter old.line old.rest.now []
none_taken old o new is taken = subst (λ o. TakesRow old o new) is taken

-- all rows of a text
pub from_start : (r : Rows) (text : List ℕ) (rows : List Numbered) → r.rest.now ≡ text → r.line ≡ 0
    → AreRowsAfter r.line r.rest.now rows → AreRows text rows
from_start r text rows rest line are =
    subst (λ t. AreRowsAfter 0 t rows) rest (subst (λ n. AreRowsAfter n r.rest.now rows) line are)

-- each text has lines, and so rows
one_byte_more : (byte : ℕ) (text : List ℕ) (lines : List (List ℕ)) → (byte == 10) ≡ false → AreLines text lines
    → (more : List (List ℕ)) × AreLines (byte ∷ text) more
one_byte_more byte text [] no_end are = (
  (byte ∷ []) ∷ [],
  ([], omega arith, at_first byte [] no_end (λ k d below. absurd (omega (arith, below))), inr (ap (λ t. byte ∷ t) are, refl), refl),
)
  where
    at_first : (byte : ℕ) (line : List ℕ) → (byte == 10) ≡ false → HasNoLineFeed line → HasNoLineFeed (byte ∷ line)
    at_first byte line e one zero d below = e
    at_first byte line e one (suc k) d below = one k d (omega (arith, below))
one_byte_more byte text (line ∷ lines) no_end are = (
  (byte ∷ line) ∷ lines,
  (are.0, omega arith, at_first byte line no_end are.2, split are.3, are.4),
)
  where
    at_first : (byte : ℕ) (line : List ℕ) → (byte == 10) ≡ false → HasNoLineFeed line → HasNoLineFeed (byte ∷ line)
    at_first byte line e one zero d below = e
    at_first byte line e one (suc k) d below = one k d (omega (arith, below))

    split : SplitsAfterLine text line are.0 → SplitsAfterLine (byte ∷ text) (byte ∷ line) are.0
    split (inl e) = inl (ap (λ t. byte ∷ t) e)
    split (inr e) = inr (ap (λ t. byte ∷ t) e.0, e.1)

lines_of : (text : List ℕ) → (lines : List (List ℕ)) × AreLines text lines
lines_of [] = ([], refl)
lines_of (byte ∷ text) = go (byte == 10) refl (lines_of text)
  where
    go : (b : Bool) → (byte == 10) ≡ b → (lines : List (List ℕ)) × AreLines text lines → (lines : List (List ℕ)) × AreLines (byte ∷ text) lines
    go false e rest = one_byte_more byte text rest.0 e rest.1
    go true e rest = (
      [] ∷ rest.0,
      (text, omega arith, (λ k d below. absurd (omega (arith, below))), inl (ap (λ b. b ∷ text) (eqb-true byte 10 e)), rest.1),
    )

pub rows_of : (n : ℕ) (text : List ℕ) → (rows : List Numbered) × AreRowsAfter n text rows
rows_of n text = let lines = lines_of text in (rows_after n lines.0, (lines.0, lines.1, refl))
