-- The place of a name in a list when an element is replaced or added.
use Rattle.std.proofs.Common.{◌<◌, ◌≢◌, ◌≡◌, ◌+◌, ℕ, suc, zero, Bool, true, false, cond, List, [], ◌∷◌, ◌++◌, length, take, drop, Option, Some, None, nat_eq, sym, ◌∙◌, ap, refl, arith}
use Rattle.std.specs.List.{position_from, slice_get}
use Rattle.std.proofs.lemmas.Bool.{eqb-true, eq-eqb, ne_eqb, true≢false}
use Rattle.std.proofs.lemmas.Option.{none-some, same_Some}

-- a test splits a proof in two
pub split : {P : Type 0} (b : Bool) → (b ≡ true → P) → (b ≡ false → P) → P
split true left right = left refl
split false left right = right refl

module _ {X : Type 0} (name : X → ℕ) where
  -- the index of the first element with this name, in a list that begins at index i
  abbrev pub place : ℕ → ℕ → List X → Option ℕ
  place e i xs = position_from (λ x. nat_eq (name x) e) i xs

  -- each element is the first of its name
  abbrev pub HaveOwnNames : List X → Type 0
  HaveOwnNames xs = (k : ℕ) (x : X) → slice_get xs k ≡ Some x → place (name x) 0 xs ≡ Some k

  pub place-replaced : (e i n : ℕ) (y old : X) (xs : List X) → slice_get xs n ≡ Some old → name old ≡ name y
      → place e i (take n xs ++ y ∷ drop (suc n) xs) ≡ place e i xs
  place-replaced e i n y old [] at same = absurd (none-some old at)
  place-replaced e i zero y old (x ∷ xs) at same =
      ap (λ m. cond (nat_eq m e) (Some i) (place e (i + 1) xs)) (sym same ∙ ap name (sym (same_Some x old at)))
  place-replaced e i (suc n) y old (x ∷ xs) at same =
      ap (cond (nat_eq (name x) e) (Some i)) (place-replaced e (i + 1) n y old xs at same)

  pub place-pushed : (e i : ℕ) (y : X) (xs : List X) → place (name y) i xs ≡ None
      → place e i (xs ++ y ∷ []) ≡ cond (nat_eq (name y) e) (Some (i + length xs)) (place e i xs)
  place-pushed e i y [] new = ap (λ k. cond (nat_eq (name y) e) (Some k) None) (omega arith)
  place-pushed e i y (x ∷ xs) new =
      split (nat_eq (name x) (name y))
      (λ same. absurd (none-some i (sym new ∙ ap (λ b. cond b (Some i) (place (name y) (i + 1) xs)) same)))
      (λ apart.
      let rest : place (name y) (i + 1) xs ≡ None = sym (ap (λ b. cond b (Some i) (place (name y) (i + 1) xs)) apart) ∙ new in
      split (nat_eq (name x) e)
      (λ here.
      let other : nat_eq (name y) e ≡ false = ne_eqb (name y) e (λ h. true≢false (sym (eq-eqb (name x) (name y) (eqb-true (name x) e here ∙ sym h)) ∙ apart)) in
      ap (λ b. cond b (Some i) (place e (i + 1) (xs ++ y ∷ []))) here
      ∙ sym (ap (λ b. cond b (Some (i + suc (length xs))) (cond (nat_eq (name x) e) (Some i) (place e (i + 1) xs))) other
      ∙ ap (λ b. cond b (Some i) (place e (i + 1) xs)) here))
      (λ there.
      let later : (i + 1) + length xs ≡ i + suc (length xs) = omega arith in
      ap (λ b. cond b (Some i) (place e (i + 1) (xs ++ y ∷ []))) there
      ∙ (place-pushed e (i + 1) y xs rest
      ∙ (ap (λ k. cond (nat_eq (name y) e) (Some k) (place e (i + 1) xs)) later
      ∙ ap (λ p. cond (nat_eq (name y) e) (Some (i + suc (length xs))) p) (sym (ap (λ b. cond b (Some i) (place e (i + 1) xs)) there))))))

  pub place-take : (e i n : ℕ) (xs : List X) → place e i xs ≡ Some (i + n) → place e i (take n xs) ≡ None
  place-take e i zero xs at = refl
  place-take e i (suc n) [] at = refl
  place-take e i (suc n) (x ∷ xs) at =
      split (nat_eq (name x) e)
      (λ here. let no : i ≡ i + suc n = same_Some i (i + suc n) (sym (ap (λ b. cond b (Some i) (place e (i + 1) xs)) here) ∙ at) in absurd (omega arith))
      (λ there.
      let later : i + suc n ≡ (i + 1) + n = omega arith in
      ap (λ b. cond b (Some i) (place e (i + 1) (take n xs))) there
      ∙ place-take e (i + 1) n xs (sym (ap (λ b. cond b (Some i) (place e (i + 1) xs)) there) ∙ (at ∙ ap Some later)))

  slice_get-replaced : (n k : ℕ) (y old : X) (xs : List X) → slice_get xs n ≡ Some old
      → (x : X) → slice_get (take n xs ++ y ∷ drop (suc n) xs) k ≡ Some x → name old ≡ name y
      → (z : X) × (slice_get xs k ≡ Some z) × (name z ≡ name x)
  slice_get-replaced n k y old [] at x is same = absurd (none-some old at)
  slice_get-replaced zero zero y old (w ∷ xs) at x is same = (w, refl, ap name (same_Some w old at) ∙ (same ∙ ap name (same_Some y x is)))
  slice_get-replaced zero (suc k) y old (w ∷ xs) at x is same = (x, is, refl)
  slice_get-replaced (suc n) zero y old (w ∷ xs) at x is same = (x, is, refl)
  slice_get-replaced (suc n) (suc k) y old (w ∷ xs) at x is same = slice_get-replaced n k y old xs at x is same

  pub own_names-replaced : (n : ℕ) (y old : X) (xs : List X) → HaveOwnNames xs → slice_get xs n ≡ Some old → name old ≡ name y
      → HaveOwnNames (take n xs ++ y ∷ drop (suc n) xs)
  own_names-replaced n y old xs own at same k x is =
      let was = slice_get-replaced n k y old xs at x is same in
      place-replaced (name x) 0 n y old xs at same
      ∙ (ap (λ e. place e 0 xs) (sym was.2) ∙ own k was.0 was.1)

  -- an element of a longer list is an old one or the new one
  slice_get-pushed : (k : ℕ) (y : X) (xs : List X) (x : X) → slice_get (xs ++ y ∷ []) k ≡ Some x
      → (P : Type 0) → (slice_get xs k ≡ Some x → P) → (k ≡ length xs → y ≡ x → P) → P
  slice_get-pushed zero y [] x is P old new = new refl (same_Some y x is)
  slice_get-pushed (suc k) y [] x is P old new = absurd (none-some x is)
  slice_get-pushed zero y (w ∷ xs) x is P old new = old is
  slice_get-pushed (suc k) y (w ∷ xs) x is P old new = slice_get-pushed k y xs x is P old (λ e. new (ap suc e))

  pub own_names-pushed : (y : X) (xs : List X) → HaveOwnNames xs → place (name y) 0 xs ≡ None → HaveOwnNames (xs ++ y ∷ [])
  own_names-pushed y xs own new k x is =
      slice_get-pushed k y xs x is (place (name x) 0 (xs ++ y ∷ []) ≡ Some k)
      (λ old.
      let at = own k x old in
      let other : nat_eq (name y) (name x) ≡ false = ne_eqb (name y) (name x) (λ h. none-some k (sym new ∙ (ap (λ e. place e 0 xs) h ∙ at))) in
      place-pushed (name x) 0 y xs new ∙ (ap (λ b. cond b (Some (0 + length xs)) (place (name x) 0 xs)) other ∙ at))
      (λ last is_new.
      place-pushed (name x) 0 y xs new
      ∙ (ap (λ b. cond b (Some (0 + length xs)) (place (name x) 0 xs)) (eq-eqb (name y) (name x) (ap name is_new))
      ∙ ap Some (let e : 0 + length xs ≡ k = omega arith in e)))

  -- the element at a name's place has the name
  pub place-found : (e i : ℕ) (xs : List X) (k : ℕ) → place e i xs ≡ Some k → (m : ℕ) × (x : X) × (k ≡ i + m) × (slice_get xs m ≡ Some x) × (name x ≡ e)
  place-found e i [] k at = absurd (none-some k at)
  place-found e i (x ∷ xs) k at =
      split (nat_eq (name x) e)
      (λ here. (0, x, (let h = same_Some i k (sym (ap (λ b. cond b (Some i) (place e (i + 1) xs)) here) ∙ at) in omega arith), refl, eqb-true (name x) e here))
      (λ there.
      let rest = place-found e (i + 1) xs k (sym (ap (λ b. cond b (Some i) (place e (i + 1) xs)) there) ∙ at) in
      (suc rest.0, rest.1, (let h = rest.2 in omega arith), rest.3, rest.4))

  slice_get-drop : (n m : ℕ) (xs : List X) → slice_get (drop n xs) m ≡ slice_get xs (n + m)
  slice_get-drop zero m xs = ap (slice_get xs) (let e : m ≡ 0 + m = omega arith in e)
  slice_get-drop (suc n) m [] = refl
  slice_get-drop (suc n) m (x ∷ xs) = slice_get-drop n m xs ∙ ap (slice_get (x ∷ xs)) (let e : suc (n + m) ≡ suc n + m = omega arith in e)

  none-or-some : (o : Option ℕ) → ((k : ℕ) → o ≡ Some k → ⊥) → o ≡ None
  none-or-some None never = refl
  none-or-some (Some k) never = absurd (never k refl)

  -- a name doesn't occur after its own place
  pub own-last : (n : ℕ) (old : X) (xs : List X) (i : ℕ) → HaveOwnNames xs → slice_get xs n ≡ Some old → place (name old) i (drop (suc n) xs) ≡ None
  own-last n old xs i own at = none-or-some (place (name old) i (drop (suc n) xs)) (λ k found.
      let f = place-found (name old) i (drop (suc n) xs) k found in
      let behind : slice_get xs (suc n + f.0) ≡ Some f.1 = sym (slice_get-drop (suc n) f.0 xs) ∙ f.3 in
      let same : n ≡ suc n + f.0 = same_Some n (suc n + f.0) (sym (own n old at) ∙ (ap (λ e. place e 0 xs) (sym f.4) ∙ own (suc n + f.0) f.1 behind)) in
      omega arith)

  -- where each name is after the element at n has a new one
  pub place-renamed : (e i n : ℕ) (y old : X) (xs : List X) → slice_get xs n ≡ Some old → place (name old) i xs ≡ Some (i + n) → place (name y) i xs ≡ None
      → ((j : ℕ) → place (name old) j (drop (suc n) xs) ≡ None)
      → place e i (take n xs ++ y ∷ drop (suc n) xs) ≡ cond (nat_eq (name y) e) (Some (i + n)) (cond (nat_eq (name old) e) None (place e i xs))
  place-renamed e i n y old [] at own new last = absurd (none-some old at)
  place-renamed e i zero y old (x ∷ xs) at own new last =
      let is_old = ap name (same_Some x old at) in
      let here : i ≡ i + 0 = omega arith in
      split (nat_eq (name old) e)
      (λ gone.
      let behind = ap (λ m. place m (i + 1) xs) (sym (eqb-true (name old) e gone)) ∙ last (i + 1) in
      ap (cond (nat_eq (name y) e) (Some i)) behind
      ∙ (ap (λ k. cond (nat_eq (name y) e) (Some k) None) here
      ∙ ap (cond (nat_eq (name y) e) (Some (i + 0))) (sym (ap (λ b. cond b None (place e i (x ∷ xs))) gone))))
      (λ other.
      let apart : nat_eq (name x) e ≡ false = ap (λ m. nat_eq m e) is_old ∙ other in
      ap (λ k. cond (nat_eq (name y) e) (Some k) (place e (i + 1) xs)) here
      ∙ ap (cond (nat_eq (name y) e) (Some (i + 0)))
      (sym (ap (λ b. cond b None (place e i (x ∷ xs))) other ∙ ap (λ b. cond b (Some i) (place e (i + 1) xs)) apart)))
  place-renamed e i (suc n) y old (x ∷ xs) at own new last =
      let later : (i + 1) + n ≡ i + suc n = omega arith in
      let not_old : nat_eq (name x) (name old) ≡ false = not-here (name old) i (place (name old) (i + 1) xs) x (i + suc n) own (omega arith) in
      let not_new : nat_eq (name x) (name y) ≡ false = never-here (name y) i (place (name y) (i + 1) xs) x new in
      let own' = sym (ap (λ b. cond b (Some i) (place (name old) (i + 1) xs)) not_old) ∙ (own ∙ ap Some (sym later)) in
      let new' = sym (ap (λ b. cond b (Some i) (place (name y) (i + 1) xs)) not_new) ∙ new in
      let rest = place-renamed e (i + 1) n y old xs at own' new' last in
      split (nat_eq (name x) e)
      (λ here.
      let off_y : nat_eq (name y) e ≡ false = ne_eqb (name y) e (λ h. true≢false (sym (eq-eqb (name x) (name y) (eqb-true (name x) e here ∙ sym h)) ∙ not_new)) in
      let off_old : nat_eq (name old) e ≡ false = ne_eqb (name old) e (λ h. true≢false (sym (eq-eqb (name x) (name old) (eqb-true (name x) e here ∙ sym h)) ∙ not_old)) in
      ap (λ b. cond b (Some i) (place e (i + 1) (take n xs ++ y ∷ drop (suc n) xs))) here
      ∙ sym (ap (λ b. cond b (Some (i + suc n)) (cond (nat_eq (name old) e) None (place e i (x ∷ xs)))) off_y
      ∙ (ap (λ b. cond b None (place e i (x ∷ xs))) off_old ∙ ap (λ b. cond b (Some i) (place e (i + 1) xs)) here)))
      (λ there.
      ap (λ b. cond b (Some i) (place e (i + 1) (take n xs ++ y ∷ drop (suc n) xs))) there
      ∙ (rest
      ∙ (ap (λ k. cond (nat_eq (name y) e) (Some k) (cond (nat_eq (name old) e) None (place e (i + 1) xs))) later
      ∙ ap (λ p. cond (nat_eq (name y) e) (Some (i + suc n)) (cond (nat_eq (name old) e) None p)) (sym (ap (λ b. cond b (Some i) (place e (i + 1) xs)) there)))))
    where
      not-here : (e i : ℕ) (behind : Option ℕ) (x : X) (k : ℕ) → cond (nat_eq (name x) e) (Some i) behind ≡ Some k → i < k → nat_eq (name x) e ≡ false
      not-here e i behind x k h lt = split (nat_eq (name x) e) (λ here. let same = same_Some i k (sym (ap (λ b. cond b (Some i) behind) here) ∙ h) in absurd (omega arith)) (λ there. there)

      never-here : (e i : ℕ) (behind : Option ℕ) (x : X) → cond (nat_eq (name x) e) (Some i) behind ≡ None → nat_eq (name x) e ≡ false
      never-here e i behind x h = split (nat_eq (name x) e) (λ here. absurd (none-some i (sym h ∙ ap (λ b. cond b (Some i) behind) here))) (λ there. there)

  -- an element of the changed list is the new one or an old one elsewhere
  slice_get-put : (n k : ℕ) (y old x : X) (xs : List X) → slice_get xs n ≡ Some old → slice_get (take n xs ++ y ∷ drop (suc n) xs) k ≡ Some x
      → (P : Type 0) → (k ≡ n → y ≡ x → P) → (k ≢ n → slice_get xs k ≡ Some x → P) → P
  slice_get-put n k y old x [] at is P here there = absurd (none-some old at)
  slice_get-put zero zero y old x (w ∷ xs) at is P here there = here refl (same_Some y x is)
  slice_get-put zero (suc k) y old x (w ∷ xs) at is P here there = there (λ e. let h = e in absurd (omega arith)) is
  slice_get-put (suc n) zero y old x (w ∷ xs) at is P here there = there (λ e. let h = e in absurd (omega arith)) is
  slice_get-put (suc n) (suc k) y old x (w ∷ xs) at is P here there =
      slice_get-put n k y old x xs at is P (λ e. here (ap suc e)) (λ apart. there (λ e. apart (omega arith)))

  pub own_names-renamed : (n : ℕ) (y old : X) (xs : List X) → HaveOwnNames xs → slice_get xs n ≡ Some old → place (name y) 0 xs ≡ None
      → HaveOwnNames (take n xs ++ y ∷ drop (suc n) xs)
  own_names-renamed n y old xs own at new k x is =
      slice_get-put n k y old x xs at is (place (name x) 0 (take n xs ++ y ∷ drop (suc n) xs) ≡ Some k)
      (λ here is_new.
      closed x ∙ (ap (λ b. cond b (Some (0 + n)) (cond (nat_eq (name old) (name x)) None (place (name x) 0 xs))) (eq-eqb (name y) (name x) (ap name is_new))
      ∙ ap Some (let e : 0 + n ≡ k = omega arith in e)))
      (λ elsewhere was.
      let at_k = own k x was in
      let off_y : nat_eq (name y) (name x) ≡ false = ne_eqb (name y) (name x) (λ h. none-some k (sym new ∙ (ap (λ e. place e 0 xs) h ∙ at_k))) in
      let off_old : nat_eq (name old) (name x) ≡ false = ne_eqb (name old) (name x) (λ h. elsewhere (same_Some k n (sym at_k ∙ (ap (λ e. place e 0 xs) (sym h) ∙ own n old at)))) in
      closed x ∙ (ap (λ b. cond b (Some (0 + n)) (cond (nat_eq (name old) (name x)) None (place (name x) 0 xs))) off_y
      ∙ (ap (λ b. cond b None (place (name x) 0 xs)) off_old ∙ at_k)))
    where
      closed : (x : X) → place (name x) 0 (take n xs ++ y ∷ drop (suc n) xs) ≡ cond (nat_eq (name y) (name x)) (Some (0 + n)) (cond (nat_eq (name old) (name x)) None (place (name x) 0 xs))
      closed x = place-renamed (name x) 0 n y old xs at (own n old at ∙ ap Some (let e : n ≡ 0 + n = omega arith in e)) new (λ j. own-last n old xs j own at)
