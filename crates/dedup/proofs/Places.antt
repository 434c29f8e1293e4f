-- The place of the first window of some bytes.
use Rattle.std.proofs.Common.{◌≡◌, ℕ, zero, suc, ◌+◌, ◌<◌, ◌⊎◌, inl, inr, Bool, true, false, cond, not, ◌||◌, List, [], ◌∷◌, ◌++◌, length, refl, sym, ap, subst, ◌∙◌, arith, zero-add, Some, None, position, nat_lt, lt-ltb, le-ltb}
use Rattle.std.specs.List.{list_any, position_or_len}
use Rattle.dedup.specs.Windows.{Window, is_of}

-- the window at this place has the bytes, and no earlier one has
abbrev pub IsFirst : List ℕ → List Window → ℕ → Type 0
IsFirst bytes [] i = ⊥
IsFirst bytes (w ∷ ws) zero = is_of bytes w ≡ true
IsFirst bytes (w ∷ ws) (suc i) = (is_of bytes w ≡ false) × IsFirst bytes ws i

module _ (bytes : List ℕ) where
  pub first_within : (ws : List Window) (i : ℕ) → IsFirst bytes ws i → i < length ws
  first_within [] i h = absurd h
  first_within (w ∷ ws) zero h = omega arith
  first_within (w ∷ ws) (suc i) h = omega (arith, first_within ws i h.1)

  pub first_left : (xs ys : List Window) (i : ℕ) → IsFirst bytes xs i → IsFirst bytes (xs ++ ys) i
  first_left [] ys i h = absurd h
  first_left (x ∷ xs) ys zero h = h
  first_left (x ∷ xs) ys (suc i) h = (h.0, first_left xs ys i h.1)

  pub first_right : (xs ys : List Window) (i : ℕ) → list_any (is_of bytes) xs ≡ false → IsFirst bytes ys i → IsFirst bytes (xs ++ ys) (length xs + i)
  first_right [] ys i none h = rw (zero-add i) h
  first_right (x ∷ xs) ys i none h =
      let at' : suc (length xs) + i ≡ suc (length xs + i) = omega arith in
      subst (IsFirst bytes (x ∷ xs ++ ys)) (sym at') (by (is_of bytes x) none (λ none'. first_right xs ys i none' h))
    where
      by : (b : Bool) → (b || list_any (is_of bytes) xs) ≡ false → (list_any (is_of bytes) xs ≡ false → IsFirst bytes (xs ++ ys) (length xs + i))
          → (b ≡ false) × IsFirst bytes (xs ++ ys) (length xs + i)
      by true none rest = absurd (cc)
      by false none rest = (refl, rest none)

  or_len : (ws : List Window) (i : ℕ) → IsFirst bytes ws i → position_or_len (is_of bytes) ws ≡ i
  or_len [] i h = absurd h
  or_len (w ∷ ws) zero h = ap (λ b. cond (not b) (1 + position_or_len (is_of bytes) ws) 0) h
  or_len (w ∷ ws) (suc i) h = ap (λ b. cond (not b) (1 + position_or_len (is_of bytes) ws) 0) h.0 ∙ ap (λ n. 1 + n) (or_len ws i h.1) ∙ omega arith

  pub position_first : (ws : List Window) (i : ℕ) → IsFirst bytes ws i → position (is_of bytes) ws ≡ Some i
  position_first ws i h =
      ap (λ n. cond (nat_lt n (length ws)) (Some n) None) (or_len ws i h) ∙ ap (λ b. cond b (Some i) None) (lt-ltb i (length ws) (first_within ws i h))

  no_len : (ws : List Window) → list_any (is_of bytes) ws ≡ false → position_or_len (is_of bytes) ws ≡ length ws
  no_len [] none = refl
  no_len (w ∷ ws) none = by (is_of bytes w) none (no_len ws)
    where
      by : (b : Bool) → (b || list_any (is_of bytes) ws) ≡ false → (list_any (is_of bytes) ws ≡ false → position_or_len (is_of bytes) ws ≡ length ws)
          → cond (not b) (1 + position_or_len (is_of bytes) ws) 0 ≡ suc (length ws)
      by true none rest = absurd (cc)
      by false none rest = omega (arith, rest none)

  pub position_none : (ws : List Window) → list_any (is_of bytes) ws ≡ false → position (is_of bytes) ws ≡ None
  position_none ws none =
      let n = no_len ws none in
      ap (λ n. cond (nat_lt n (length ws)) (Some n) None) n ∙ ap (λ b. cond b (Some (length ws)) None) (le-ltb (length ws) (length ws) (omega arith))

  -- there is one, or none
  first_or_none : (ws : List Window) → (list_any (is_of bytes) ws ≡ false) ⊎ ((i : ℕ) × IsFirst bytes ws i)
  first_or_none [] = inl refl
  first_or_none (w ∷ ws) = by (is_of bytes w) refl (first_or_none ws)
    where
      by : (b : Bool) → is_of bytes w ≡ b → (list_any (is_of bytes) ws ≡ false) ⊎ ((i : ℕ) × IsFirst bytes ws i)
          → (list_any (is_of bytes) (w ∷ ws) ≡ false) ⊎ ((i : ℕ) × IsFirst bytes (w ∷ ws) i)
      by true e rest = inr (0, e)
      by false e (inl none) = inl (rw e none)
      by false e (inr f) = inr (suc f.0, (e, f.1))

  pub first_from_position : (ws : List Window) (i : ℕ) → position (is_of bytes) ws ≡ Some i → IsFirst bytes ws i
  first_from_position ws i p = by (first_or_none ws)
    where
      by : (list_any (is_of bytes) ws ≡ false) ⊎ ((i : ℕ) × IsFirst bytes ws i) → IsFirst bytes ws i
      by (inl none) = let e = sym (position_none ws none) ∙ p in absurd (cc)
      by (inr f) = let e = sym (position_first ws f.0 f.1) ∙ p in let same : f.0 ≡ i = cc in subst (IsFirst bytes ws) same f.1

  pub none_from_position : (ws : List Window) → position (is_of bytes) ws ≡ None → list_any (is_of bytes) ws ≡ false
  none_from_position ws p = by (first_or_none ws)
    where
      by : (list_any (is_of bytes) ws ≡ false) ⊎ ((i : ℕ) × IsFirst bytes ws i) → list_any (is_of bytes) ws ≡ false
      by (inl none) = none
      by (inr f) = let e = sym (position_first ws f.0 f.1) ∙ p in absurd (cc)
