-- The two tables of bytes against the substitution that the standard defines.
use Rattle.std.proofs.Common.{◌≡◌, ℕ, zero, suc, ◌<◌, ◌≤◌, true, false, cond, eqb, ltb, lit≤, arith, get_or, refl, ap, ◌∙◌, sym, subst}
use Rattle.std.specs.Int.{w8, rotate_left}
use Rattle.std.proofs.lemmas.Bool.{ltb-true}
use Rattle.aes128.specs.declared.substitution.TheConstants.{S_BOX, INVERSE_S_BOX}
use Rattle.aes128.specs.Field.{◌⊕◌, ◌•◌, terms_times, inverse, inverse_up_to}
use Rattle.aes128.specs.Cipher.{s_box}
use Rattle.aes128.proofs.Below.{all_below, all_below-at, agree_below}

-- the affine map that follows the inverse
affine : ℕ → ℕ
affine b = b ⊕ rotate_left w8 b 1 ⊕ rotate_left w8 b 2 ⊕ rotate_left w8 b 3 ⊕ rotate_left w8 b 4 ⊕ 0x63

-- the map that undoes it
unfoldable pub unaffine : ℕ → ℕ
unaffine b = rotate_left w8 b 1 ⊕ rotate_left w8 b 3 ⊕ rotate_left w8 b 6 ⊕ 0x05

-- the inverses, searched for once: the table holds their images
pub inverse-table : (b : ℕ) → b < 256 → inverse b ≡ unaffine (get_or S_BOX b 0)
unfolding all_below ◌•◌ terms_times inverse inverse_up_to unaffine
inverse-table b low = agree_below inverse (λ b. unaffine (get_or S_BOX b 0)) 256 refl b low

pub table-s_box : (byte : ℕ) → byte < 256 → get_or S_BOX byte 0 ≡ s_box byte
unfolding all_below s_box affine unaffine
table-s_box byte low =
    agree_below (λ b. get_or S_BOX b 0) (λ b. affine (unaffine (get_or S_BOX b 0))) 256 refl byte low ∙ ap affine (sym (inverse-table byte low))

pub unaffine-lt : (b : ℕ) → b < 256 → unaffine b < 256
unfolding all_below unaffine
unaffine-lt b low = ltb-true _ 256 (all_below-at (λ b. ltb (unaffine b) 256) 256 refl b low)

pub inverse-lt : (byte : ℕ) → byte < 256 → get_or INVERSE_S_BOX byte 0 < 256
unfolding all_below
inverse-lt byte low = ltb-true _ 256 (all_below-at (λ b. ltb (get_or INVERSE_S_BOX b 0) 256) 256 refl byte low)

pub s_box-lt : (byte : ℕ) → byte < 256 → s_box byte < 256
unfolding all_below
s_box-lt byte low =
    let P : ℕ → Type 0 = λ n. n < 256 in
    subst P (table-s_box byte low) (ltb-true _ 256 (all_below-at (λ b. ltb (get_or S_BOX b 0) 256) 256 refl byte low))

affine-lt : (b : ℕ) → b < 256 → affine b < 256
unfolding all_below affine
affine-lt b low = ltb-true _ 256 (all_below-at (λ b. ltb (affine b) 256) 256 refl b low)

inverse_up_to-le : (n b : ℕ) → inverse_up_to n b ≤ n
unfolding inverse_up_to
inverse_up_to-le zero b = lit≤ tt
inverse_up_to-le (suc n) b =
    let P : ℕ → Type 0 = λ k. k ≤ suc n in
    elim (eqb (b • suc n) 1) as (λ same. P (cond same (suc n) (inverse_up_to n b))) [
      | true ↦ omega arith
      | false ↦ let rest = inverse_up_to-le n b in omega arith
    ]

-- the substitution of any number is a byte
pub any_s_box-lt : (b : ℕ) → s_box b < 256
unfolding s_box inverse affine
any_s_box-lt b = affine-lt (inverse b) (let low = inverse_up_to-le 255 b in omega arith)

pub s_box-inverse : (byte : ℕ) → byte < 256 → s_box (get_or INVERSE_S_BOX byte 0) ≡ byte
unfolding all_below
s_box-inverse byte low =
    sym (table-s_box (get_or INVERSE_S_BOX byte 0) (inverse-lt byte low))
    ∙ agree_below (λ b. get_or S_BOX (get_or INVERSE_S_BOX b 0) 0) (λ b. b) 256 refl byte low

pub inverse-s_box : (byte : ℕ) → byte < 256 → get_or INVERSE_S_BOX (s_box byte) 0 ≡ byte
unfolding all_below
inverse-s_box byte low =
    ap (λ (n : ℕ). get_or INVERSE_S_BOX n 0) (sym (table-s_box byte low))
    ∙ agree_below (λ b. get_or INVERSE_S_BOX (get_or S_BOX b 0) 0) (λ b. b) 256 refl byte low
