-- What a write leaves of the images from before it.
use Rattle.std.proofs.Common.{◌≡◌, ◌⊎◌, Bool, true, inl, inr, ◌<◌, ◌≤◌, ℕ, ◌+◌, ◌-◌, false, List, ◌++◌, length, get_or, take, drop, sym, ◌∙◌, ap, arith, length-append, length-take, length-drop}
use Rattle.std.proofs.lemmas.List.{get_or-take, get_or-drop, take_at, drop_at, drop-drop}
use Rattle.std.proofs.lemmas.Grind.{common_steps}
use Rattle.disk.specs.State.{State, IsPermitted, IsWrite, IsTorn}

-- lists with the same beginning, or the same rest, have the same elements there
earlier : (xs ys : List ℕ) (at i : ℕ) → take at xs ≡ take at ys → i < at → get_or xs i 0 ≡ get_or ys i 0
earlier xs ys at i same below = sym (get_or-take at xs i 0 below) ∙ ap (λ (l : List ℕ). get_or l i 0) same ∙ get_or-take at ys i 0 below

later : (xs ys : List ℕ) (at i : ℕ) → drop at xs ≡ drop at ys → at ≤ i → get_or xs i 0 ≡ get_or ys i 0
later xs ys at i same above =
    let is : at + (i - at) ≡ i = omega (arith, above) in
    ap (λ (k : ℕ). get_or xs k 0) (sym is)
    ∙ sym (get_or-drop at xs (i - at) 0)
    ∙ ap (λ (l : List ℕ). get_or l (i - at) 0) same
    ∙ get_or-drop at ys (i - at) 0
    ∙ ap (λ (k : ℕ). get_or ys k 0) is

not_both : (b : Bool) → b ≡ true → b ≡ false → ⊥
not_both b set clear = cc (set, clear)

-- an image of a disk is also one after a failed write
place_of : (at n i : ℕ) → ((i < at) ⊎ (at + n ≤ i)) ⊎ ((at ≤ i) × (i < at + n))
place_of at n i = grind arith

kept_over : (at n : ℕ) (before failed : State) → IsWrite at n before failed → (i : ℕ) → (i < at) ⊎ (at + n ≤ i)
    → get_or before.content i 0 ≡ get_or failed.content i 0
kept_over at n before failed is i (inl below) = sym (earlier failed.content before.content at i is.torn.before below)
kept_over at n before failed is i (inr above) = sym (later failed.content before.content (at + n) i is.torn.after above)

pub still_permitted : (at n : ℕ) (before failed : State) → IsWrite at n before failed → (image : List ℕ) → IsPermitted before image
    → IsPermitted failed image
still_permitted at n before failed is image permitted = record { same_length = permitted.same_length ∙ sym is.torn.same_length; kept = kept }
  where
    kept : (i : ℕ) → failed.is_open i ≡ false → get_or image i 0 ≡ get_or failed.content i 0
    kept i shut = elim (place_of at n i) [
      | inl out ↦ permitted.kept i (sym (is.others i out) ∙ shut) ∙ kept_over at n before failed is i out
      | inr w ↦ absurd (not_both (failed.is_open i) (is.opened i w.0 w.1) shut)
    ]

pub permitted_there : (at n : ℕ) (before after failed : State) → IsWrite at n before after → IsWrite at n before failed → (image : List ℕ)
    → IsPermitted after image → IsPermitted failed image
permitted_there at n before after failed was is image permitted =
    record { same_length = permitted.same_length ∙ (was.torn.same_length ∙ sym is.torn.same_length); kept = kept }
  where
    kept : (i : ℕ) → failed.is_open i ≡ false → get_or image i 0 ≡ get_or failed.content i 0
    kept i shut = elim (place_of at n i) [
      | inl out ↦ permitted.kept i (was.others i out ∙ (sym (is.others i out) ∙ shut)) ∙ (sym (kept_over at n before after was i out) ∙ kept_over at n before failed is i out)
      | inr w ↦ absurd (not_both (failed.is_open i) (is.opened i w.0 w.1) shut)
    ]

module _ (at n : ℕ) (before after : State) (within : at + n ≤ length before.content) (opens : IsWrite at n before after) (image : List ℕ) (permitted : IsPermitted after image) where
  abbrev middle : List ℕ
  middle = take n (drop at before.content)

  -- the image with the content from before the write in the write's range
  abbrev was : List ℕ
  was = take at image ++ (middle ++ drop (at + n) image)

  size : length image ≡ length before.content
  size = permitted.same_length ∙ opens.torn.same_length

  length-middle : length middle ≡ n
  length-middle = omega (arith, within, length-take n (drop at before.content), length-drop at before.content)

  front : length (take at image) ≡ at
  front = omega (arith, within, length-take at image, size)

  same_length : length was ≡ length image
  same_length = omega (arith, within, front, length-middle, size, length-append (take at image) (middle ++ drop (at + n) image), length-append middle (drop (at + n) image), length-drop (at + n) image)

  same_front : take at was ≡ take at image
  same_front = take_at (take at image) (middle ++ drop (at + n) image) at front

  from_middle : drop at was ≡ middle ++ drop (at + n) image
  from_middle = drop_at (take at image) (middle ++ drop (at + n) image) at front

  same_rest : drop (at + n) was ≡ drop (at + n) image
  same_rest = sym (drop-drop n at was) ∙ ap (λ (l : List ℕ). drop n l) from_middle ∙ drop_at middle (drop (at + n) image) n length-middle

  kept_outside : (i : ℕ) → (i < at) ⊎ (at + n ≤ i) → before.is_open i ≡ false → get_or was i 0 ≡ get_or before.content i 0
  kept_outside i (inl below) shut =
      earlier was image at i same_front below ∙ permitted.kept i (opens.others i (inl below) ∙ shut) ∙ earlier after.content before.content at i opens.torn.before below
  kept_outside i (inr above) shut =
      later was image (at + n) i same_rest above ∙ permitted.kept i (opens.others i (inr above) ∙ shut) ∙ later after.content before.content (at + n) i opens.torn.after above

  inside : (i : ℕ) → at ≤ i → i < at + n → get_or was i 0 ≡ get_or before.content i 0
  inside i above below =
      let is : at + (i - at) ≡ i = omega (arith, above) in
      let near : i - at < n = omega (arith, above, below) in
      ap (λ (k : ℕ). get_or was k 0) (sym is)
      ∙ sym (get_or-drop at was (i - at) 0)
      ∙ ap (λ (l : List ℕ). get_or l (i - at) 0) from_middle
      ∙ grind (arith, common_steps, length-middle, near)
      ∙ get_or-drop at before.content (i - at) 0
      ∙ ap (λ (k : ℕ). get_or before.content k 0) is

  place : (i : ℕ) → ((i < at) ⊎ (at + n ≤ i)) ⊎ ((at ≤ i) × (i < at + n))
  place i = grind arith

  kept : (i : ℕ) → before.is_open i ≡ false → get_or was i 0 ≡ get_or before.content i 0
  kept i shut = elim (place i) [
    | inl out ↦ kept_outside i out shut
    | inr within ↦ inside i within.0 within.1
  ]

  pub torn_image : (w : List ℕ) × IsPermitted before w × IsTorn at n w image
  torn_image =
      (was, record { same_length = same_length ∙ size; kept = kept }, record { same_length = sym same_length; before = sym same_front; after = sym same_rest })
