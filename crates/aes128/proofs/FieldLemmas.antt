-- The field: products are linear, and stay bytes.
use Rattle.std.proofs.Common.{◌≡◌, ℕ, zero, suc, ◌+◌, ◌-◌, ◌*◌, ◌/◌, ◌%◌, ◌<◌, ◌≤◌, List, [], ◌∷◌, subst, Bool, ◌&&◌, true, false, cond, eqb, ltb, refl, sym, ap, ◌∙◌, arith, lit<}
use Rattle.std.proofs.lemmas.Bool.{ltb-true}
use Rattle.std.proofs.lemmas.Nat.{xor_lt}
use Rattle.std.specs.Int.Bits.{bit_xor, xor_assoc, xor_comm}
use Rattle.aes128.specs.Field.{◌⊕◌, ◌•◌, times_x, terms_times}
use Rattle.aes128.proofs.Below.{all_below, all_below-at, agree_below}
use Rattle.std.proofs.lemmas.Bool.{and_parts}

-- the middle two of four summands change places
pub interchange : (a b c d : ℕ) → (a ⊕ b) ⊕ (c ⊕ d) ≡ (a ⊕ c) ⊕ (b ⊕ d)
interchange a b c d =
    xor_assoc a b (c ⊕ d)
    ∙ ap (bit_xor a) (sym (xor_assoc b c d) ∙ ap (λ (n : ℕ). n ⊕ d) (xor_comm b c) ∙ xor_assoc c b d)
    ∙ sym (xor_assoc a c (b ⊕ d))

pub xor_byte : (a b : ℕ) → a < 256 → b < 256 → a ⊕ b < 256
xor_byte a b = xor_lt 8 a b

-- A byte is the sum of its bits. So what holds of the single bits, and carries over to sums, holds
-- of every byte.
abbrev pub weights : List ℕ
weights = 1 ∷ 2 ∷ 4 ∷ 8 ∷ 16 ∷ 32 ∷ 64 ∷ 128 ∷ []

unfoldable sum_of_bits : List ℕ → ℕ → ℕ
sum_of_bits [] b = 0
sum_of_bits (w ∷ ws) b = cond (eqb (b / w % 2) 1) w 0 ⊕ sum_of_bits ws b

bits_of_byte : (b : ℕ) → b < 256 → sum_of_bits weights b ≡ b
unfolding all_below sum_of_bits
bits_of_byte b low = agree_below (sum_of_bits weights) (λ b. b) 256 refl b low

-- the test passes at each of these bytes, and at 0
unfoldable pub at_weights : (ℕ → Bool) → List ℕ → Bool
at_weights test [] = test 0
at_weights test (w ∷ ws) = (ltb w 256 && test w) && at_weights test ws

-- a summand that is present or absent
chosen-lt : (p : Bool) (b : ℕ) → b < 256 → cond p b 0 < 256
chosen-lt true b byte = byte
chosen-lt false b byte = lit< tt

module _ (P : ℕ → Type 0) (sum : (x y : ℕ) → x < 256 → y < 256 → P x → P y → P (x ⊕ y)) (test : ℕ → Bool) (sound : (w : ℕ) → test w ≡ true → P w) where
  holds_at_0 : (ws : List ℕ) → at_weights test ws ≡ true → P 0
  unfolding at_weights
  holds_at_0 [] passed = sound 0 passed
  holds_at_0 (w ∷ ws) passed = holds_at_0 ws (and_parts _ _ passed).1

  holds_chosen : (there : Bool) (w : ℕ) → P w → P 0 → P (cond there w 0)
  holds_chosen true w one none = one
  holds_chosen false w one none = none

  holds_at_sum : (ws : List ℕ) → at_weights test ws ≡ true → (b : ℕ) → (sum_of_bits ws b < 256) × P (sum_of_bits ws b)
  unfolding at_weights sum_of_bits
  holds_at_sum [] passed b = (lit< tt, sound 0 passed)
  holds_at_sum (w ∷ ws) passed b =
      let parts = and_parts _ _ passed in
      let here = and_parts _ _ parts.0 in
      let rest = holds_at_sum ws parts.1 b in
      let there = eqb (b / w % 2) 1 in
      let low = chosen-lt there w (ltb-true w 256 here.0) in
      let one = holds_chosen there w (sound w here.1) (holds_at_0 ws parts.1) in
      (xor_byte (cond there w 0) (sum_of_bits ws b) low rest.0, sum (cond there w 0) (sum_of_bits ws b) low rest.0 one rest.1)

  pub at_bytes : at_weights test weights ≡ true → (b : ℕ) → b < 256 → P b
  at_bytes passed b low = subst P (bits_of_byte b low) (holds_at_sum weights passed b).1

-- a is added before or after the product with x
adds : ℕ → Type 0
adds a = (b : ℕ) → b < 256 → times_x (a ⊕ b) ≡ times_x a ⊕ times_x b

adds-sum : (x y : ℕ) → x < 256 → y < 256 → adds x → adds y → adds (x ⊕ y)
unfolding adds
adds-sum x y x_low y_low of_x of_y b low =
    ap (λ (n : ℕ). times_x n) (xor_assoc x y b)
    ∙ of_x (y ⊕ b) (xor_byte y b y_low low)
    ∙ ap (bit_xor (times_x x)) (of_y b low)
    ∙ sym (xor_assoc (times_x x) (times_x y) (times_x b))
    ∙ ap (λ (n : ℕ). n ⊕ times_x b) (sym (of_x y y_low))

adds_by : ℕ → Bool
adds_by a = all_below (λ b. eqb (times_x (a ⊕ b)) (times_x a ⊕ times_x b)) 256

adds_if : (a : ℕ) → adds_by a ≡ true → adds a
unfolding adds adds_by
adds_if a passed b low = agree_below (λ b. times_x (a ⊕ b)) (λ b. times_x a ⊕ times_x b) 256 passed b low

pub times_x-xor : (a b : ℕ) → a < 256 → b < 256 → times_x (a ⊕ b) ≡ times_x a ⊕ times_x b
unfolding adds adds_by all_below at_weights
times_x-xor a b a_byte b_byte = at_bytes adds adds-sum adds_by adds_if refl a a_byte b b_byte

pub times_x-lt : (a : ℕ) → a < 256 → times_x a < 256
unfolding all_below
times_x-lt a byte = ltb-true (times_x a) 256 (all_below-at (λ a. ltb (times_x a) 256) 256 refl a byte)

pub chosen-xor : (p : Bool) (b c : ℕ) → cond p (b ⊕ c) 0 ≡ cond p b 0 ⊕ cond p c 0
chosen-xor true b c = refl
chosen-xor false b c = refl

pub terms_times-lt : (n a b : ℕ) → b < 256 → terms_times n a b < 256
unfolding terms_times
terms_times-lt zero a b byte = lit< tt
terms_times-lt (suc n) a b byte =
    xor_byte _ _ (chosen-lt (eqb (a % 2) 1) b byte) (times_x-lt (terms_times n (a / 2) b) (terms_times-lt n (a / 2) b byte))

pub terms_times-xor : (n a b c : ℕ) → b < 256 → c < 256 → terms_times n a (b ⊕ c) ≡ terms_times n a b ⊕ terms_times n a c
unfolding terms_times
terms_times-xor zero a b c b_byte c_byte = refl
terms_times-xor (suc n) a b c b_byte c_byte =
    let rest : times_x (terms_times n (a / 2) (b ⊕ c)) ≡ times_x (terms_times n (a / 2) b) ⊕ times_x (terms_times n (a / 2) c) =
    ap (λ (k : ℕ). times_x k) (terms_times-xor n (a / 2) b c b_byte c_byte)
    ∙ times_x-xor (terms_times n (a / 2) b) (terms_times n (a / 2) c) (terms_times-lt n (a / 2) b b_byte) (terms_times-lt n (a / 2) c c_byte) in
    ap (λ (k : ℕ). cond (eqb (a % 2) 1) (b ⊕ c) 0 ⊕ k) rest
    ∙ ap (λ (k : ℕ). k ⊕ (times_x (terms_times n (a / 2) b) ⊕ times_x (terms_times n (a / 2) c))) (chosen-xor (eqb (a % 2) 1) b c)
    ∙ interchange (cond (eqb (a % 2) 1) b 0) (cond (eqb (a % 2) 1) c 0) (times_x (terms_times n (a / 2) b)) (times_x (terms_times n (a / 2) c))

pub product-lt : (a b : ℕ) → b < 256 → a • b < 256
unfolding ◌•◌
product-lt a b byte = terms_times-lt 8 a b byte

pub product-xor : (a b c : ℕ) → b < 256 → c < 256 → a • (b ⊕ c) ≡ a • b ⊕ a • c
unfolding ◌•◌
product-xor a b c b_byte c_byte = terms_times-xor 8 a b c b_byte c_byte

-- the products with small elements, by the doublings that make them
pub two_times_low : (b : ℕ) → b < 128 → b * 2 % 256 ≡ 2 • b
unfolding all_below ◌•◌ terms_times
two_times_low b low = agree_below (λ b. b * 2 % 256) (λ b. 2 • b) 128 refl b low

pub two_times_high : (b : ℕ) → 128 ≤ b → b < 256 → b * 2 % 256 ⊕ 27 ≡ 2 • b
unfolding all_below ◌•◌ terms_times
two_times_high b high byte =
    let above : (b - 128) + 128 ≡ b = omega arith in
    let P : ℕ → Type 0 = λ n. n * 2 % 256 ⊕ 27 ≡ 2 • n in
    subst P above (agree_below (λ k. (k + 128) * 2 % 256 ⊕ 27) (λ k. 2 • (k + 128)) 128 refl (b - 128) (omega arith))

pub nine_times : (b : ℕ) → b < 256 → 9 • b ≡ 2 • (2 • (2 • b)) ⊕ b
unfolding all_below ◌•◌ terms_times
nine_times b byte = agree_below (λ b. 9 • b) (λ b. 2 • (2 • (2 • b)) ⊕ b) 256 refl b byte

pub eleven_times : (b : ℕ) → b < 256 → 11 • b ≡ 2 • (2 • (2 • b)) ⊕ 2 • b ⊕ b
unfolding all_below ◌•◌ terms_times
eleven_times b byte = agree_below (λ b. 11 • b) (λ b. 2 • (2 • (2 • b)) ⊕ 2 • b ⊕ b) 256 refl b byte

pub thirteen_times : (b : ℕ) → b < 256 → 13 • b ≡ 2 • (2 • (2 • b)) ⊕ 2 • (2 • b) ⊕ b
unfolding all_below ◌•◌ terms_times
thirteen_times b byte = agree_below (λ b. 13 • b) (λ b. 2 • (2 • (2 • b)) ⊕ 2 • (2 • b) ⊕ b) 256 refl b byte

pub fourteen_times : (b : ℕ) → b < 256 → 14 • b ≡ 2 • (2 • (2 • b)) ⊕ 2 • (2 • b) ⊕ 2 • b
unfolding all_below ◌•◌ terms_times
fourteen_times b byte = agree_below (λ b. 14 • b) (λ b. 2 • (2 • (2 • b)) ⊕ 2 • (2 • b) ⊕ 2 • b) 256 refl b byte
