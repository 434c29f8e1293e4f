-- The field GF(2^8) of FIPS 197 §4. A byte is an element: the polynomial in x whose coefficients
-- are its bits.
use Rattle.std.specs.Prelude.{ℕ, zero, suc, ◌*◌, ◌/◌, ◌%◌, ◌==◌, nat_lt, bit_xor, if◌then◌else◌}
use Rattle.std.specs.Prelude.{List, [], ◌∷◌, slice_index}

infixl 60 ◌⊕◌
infixl 65 ◌•◌
-- the sum of two elements (§4.1)
abbrev pub ◌⊕◌ : ℕ → ℕ → ℕ
a ⊕ b = bit_xor a b

-- the product with x, reduced modulo x^8 + x^4 + x^3 + x + 1 (§4.2)
abbrev pub times_x : ℕ → ℕ
times_x b = if nat_lt b 128 then 2 * b else 2 * b ⊕ 0x11b

-- the product of b with the n lowest terms of a: a_0 b + x (a_1 b + x (a_2 b + ..))
unfoldable pub terms_times : ℕ → ℕ → ℕ → ℕ
terms_times zero a b = 0
terms_times (suc n) a b = (if a % 2 == 1 then b else 0) ⊕ times_x (terms_times n (a / 2) b)

-- the product of two elements (§4.2)
unfoldable pub ◌•◌ : ℕ → ℕ → ℕ
a • b = terms_times 8 a b

-- the element from 1 to n whose product with b is 1, or 0 if there is none
unfoldable pub inverse_up_to : ℕ → ℕ → ℕ
inverse_up_to zero b = 0
inverse_up_to (suc n) b = if b • suc n == 1 then suc n else inverse_up_to n b

-- the multiplicative inverse, and 0 for 0 (§4.4)
unfoldable pub inverse : ℕ → ℕ
inverse b = inverse_up_to 255 b

-- the product of n factors b
unfoldable pub power : ℕ → ℕ → ℕ
power b zero = 1
power b (suc n) = b • power b n

-- the product of two words as polynomials a_3 y^3 + a_2 y^2 + a_1 y + a_0 over the field, modulo
-- y^4 + 1 (§4.3)
abbrev pub word_product : List ℕ → List ℕ → List ℕ
word_product a b =
    let a0 = slice_index a 0 in
    let a1 = slice_index a 1 in
    let a2 = slice_index a 2 in
    let a3 = slice_index a 3 in
    let b0 = slice_index b 0 in
    let b1 = slice_index b 1 in
    let b2 = slice_index b 2 in
    let b3 = slice_index b 3 in
    (a0 • b0 ⊕ a3 • b1 ⊕ a2 • b2 ⊕ a1 • b3)
    ∷ (a1 • b0 ⊕ a0 • b1 ⊕ a3 • b2 ⊕ a2 • b3)
    ∷ (a2 • b0 ⊕ a1 • b1 ⊕ a0 • b2 ⊕ a3 • b3)
    ∷ (a3 • b0 ⊕ a2 • b1 ⊕ a1 • b2 ⊕ a0 • b3) ∷ []
