-- Sums of bytes: lemmas for other proofs.
use Rattle.std.proofs.Common.{◌≡◌, ℕ, suc, ◌≤◌, List, [], ◌∷◌, length, refl, ap, ◌∙◌, arith}
use Rattle.std.specs.Int.Bits.{bit_xor, xor_assoc, xor_zero_r, xor_self}
use Rattle.aes128.specs.Field.{◌⊕◌}
use Rattle.aes128.specs.Cipher.{xor}

pub length-xor : (xs ys : List ℕ) → length xs ≤ length ys → length (xor xs ys) ≡ length xs
length-xor [] ys fits = refl
length-xor (x ∷ xs) [] fits = absurd (omega arith)
length-xor (x ∷ xs) (y ∷ ys) fits = ap suc (length-xor xs ys (omega arith))

-- adding the same bytes twice changes nothing
pub xor-twice : (xs ys : List ℕ) → length xs ≤ length ys → xor (xor xs ys) ys ≡ xs
xor-twice [] ys fits = refl
xor-twice (x ∷ xs) [] fits = absurd (omega arith)
xor-twice (x ∷ xs) (y ∷ ys) fits =
    let head : (x ⊕ y) ⊕ y ≡ x =
    xor_assoc x y y ∙ ap (bit_xor x) (xor_self y) ∙ xor_zero_r x in
    ap (λ (n : ℕ). n ∷ xor (xor xs ys) ys) head
    ∙ ap (λ (l : List ℕ). x ∷ l) (xor-twice xs ys (omega arith))
