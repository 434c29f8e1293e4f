-- Reading items one after the other, as a loop does.
use Rattle.std.proofs.Common.{◌≡◌, ℕ, suc, ◌-◌, ◌+◌, ◌≤◌, ◌<◌, List, [], ◌∷◌, ◌++◌, length, Option, Some, None, refl, sym, ap, ◌∙◌, append_assoc, arith, rules}
use Rattle.std.proofs.lemmas.List.{append-nil}
use Rattle.devices.specs.declared.queue.Item.{Item}
use Rattle.std.specs.Prelude.{IsSome}
use Rattle.std.specs.Option.{option_map_or}
use Rattle.byte_fields.specs.Reading.{◌>>=◌}
use Rattle.record_codec.specs.Reading.{item_at, items_at, items_in}

-- what was read before, and what is still to be read
abbrev pub with_front : List Item → Option (List Item × List ℕ) → Option (List Item × List ℕ)
with_front front read = read >>= λ x. Some (front ++ x.0, x.1)

regroup : (front : List Item) (i : Item) (read : Option (List Item × List ℕ)) → with_front front (read >>= λ x. Some (i ∷ x.0, x.1)) ≡ with_front (front ++ i ∷ []) read
regroup front i (Some x) = ap (λ (is : List Item). Some (is, x.1)) (simp append_assoc)
regroup front i None = refl

pub goes_on : (front : List Item) (count i : ℕ) (bytes : List ℕ) (item : Item) (after : List ℕ) (total : Option (List Item × List ℕ)) → i < count → item_at bytes ≡ Some (item, after)
    → with_front front (items_at (count - i) bytes) ≡ total → with_front (front ++ item ∷ []) (items_at (count - (i + 1)) after) ≡ total
unfolding items_at
goes_on front count i bytes item after total lt h so_far =
    let k : count - i ≡ suc (count - (i + 1)) = omega arith in
    let one : with_front front (items_at (count - i) bytes) ≡ with_front (front ++ item ∷ []) (items_at (count - (i + 1)) after) = rw (k, h) (regroup front item (items_at (count - (i + 1)) after)) in
    sym one ∙ so_far

pub ends : (front : List Item) (count i : ℕ) (bytes : List ℕ) (total : Option (List Item × List ℕ)) → i < count → item_at bytes ≡ None
    → with_front front (items_at (count - i) bytes) ≡ total → total ≡ None
unfolding items_at
ends front count i bytes total lt none so_far =
    let k : count - i ≡ suc (count - (i + 1)) = omega arith in
    let one : with_front front (items_at (count - i) bytes) ≡ None = rw (k, none) refl in
    sym so_far ∙ one

pub is_done : (front : List Item) (count i : ℕ) (bytes : List ℕ) (total : Option (List Item × List ℕ)) → count ≤ i → with_front front (items_at (count - i) bytes) ≡ total → total ≡ Some (front, bytes)
unfolding items_at
is_done front count i bytes total le so_far =
    let k : count - i ≡ 0 = omega arith in
    let one : with_front front (items_at (count - i) bytes) ≡ Some (front, bytes) = rw k (ap (λ (is : List Item). Some (is, bytes)) (append-nil front)) in
    sym so_far ∙ one

-- the items in the bytes are those that were read
pub in_bytes : (count : ℕ) (bytes : List ℕ) (items : List Item) (rest : List ℕ) → items_at count bytes ≡ Some (items, rest) → items_at count bytes ≡ Some (items_in count bytes, rest)
in_bytes count bytes items rest e = e ∙ ap (λ (is : List Item). Some (is, rest)) (sym (ap (λ (o : Option (List Item × List ℕ)). option_map_or (λ x. x.0) o []) e))

pub not_there : {X : Type 0} (o : Option X) → o ≡ None → IsSome o → ⊥
not_there None e h = search rules
not_there (Some x) e h = absurd cc

pub is_in_bytes : (count : ℕ) (bytes : List ℕ) (items : List Item) (rest : List ℕ) → items_at count bytes ≡ Some (items, rest) → items ≡ items_in count bytes
is_in_bytes count bytes items rest e = sym (ap (λ (o : Option (List Item × List ℕ)). option_map_or (λ x. x.0) o []) e)

-- some of the items at the front of the bytes were read, and the rest is left
pub record HasRead (count : ℕ) (bytes : List ℕ) (i : ℕ) (rest : List ℕ) : Type 0 where
  pub items : List Item
  pub so_far : with_front items (items_at (count - i) rest) ≡ items_at count bytes

-- these are the items that were read
pub record HasBuilt (count : ℕ) (bytes : List ℕ) (i : ℕ) (rest : List ℕ) (items : List Item) : Type 0 where
  pub so_far : with_front items (items_at (count - i) rest) ≡ items_at count bytes
  pub few : length items ≤ i

-- pieces, written one after another
pub two_written : (out first second after_first written : List ℕ) → after_first ≡ out ++ first → written ≡ after_first ++ second → written ≡ out ++ (first ++ second)
two_written out first second after_first written a b = rw (b, a) (append_assoc out first second)

pub four_written : (out a b c d o0 o1 o2 o3 : List ℕ) → o0 ≡ out ++ a → o1 ≡ o0 ++ b → o2 ≡ o1 ++ c → o3 ≡ o2 ++ d → o3 ≡ out ++ (a ++ (b ++ (c ++ d)))
four_written out a b c d o0 o1 o2 o3 h0 h1 h2 h3 = rw (h3, h2, h1, h0) (simp append_assoc)

pub seven_written : (out a b c d e f g o0 o1 o2 o3 o4 o5 o6 : List ℕ) → o0 ≡ out ++ a → o1 ≡ o0 ++ b → o2 ≡ o1 ++ c → o3 ≡ o2 ++ d → o4 ≡ o3 ++ e → o5 ≡ o4 ++ f → o6 ≡ o5 ++ g
    → o6 ≡ out ++ (a ++ (b ++ (c ++ (d ++ (e ++ (f ++ g))))))
seven_written out a b c d e f g o0 o1 o2 o3 o4 o5 o6 h0 h1 h2 h3 h4 h5 h6 = rw (h6, h5, h4, h3, h2, h1, h0) (simp append_assoc)

pub eight_written : (out : List ℕ) (m : ℕ) (a b c d e f g o0 o1 o2 o3 o4 o5 o6 o7 : List ℕ) → o0 ≡ out ++ m ∷ [] → o1 ≡ o0 ++ a → o2 ≡ o1 ++ b → o3 ≡ o2 ++ c → o4 ≡ o3 ++ d → o5 ≡ o4 ++ e → o6 ≡ o5 ++ f → o7 ≡ o6 ++ g
    → o7 ≡ out ++ (m ∷ (a ++ (b ++ (c ++ (d ++ (e ++ (f ++ g)))))))
eight_written out m a b c d e f g o0 o1 o2 o3 o4 o5 o6 o7 h0 h1 h2 h3 h4 h5 h6 h7 = rw (h7, h6, h5, h4, h3, h2, h1, h0) (simp append_assoc)
