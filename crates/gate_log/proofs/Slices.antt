-- The bytes of an area when a write falls into it or elsewhere.
use Rattle.std.proofs.Common.{◌≡◌, ◌⊎◌, inl, inr, ◌<◌, ◌≤◌, ℕ, ◌+◌, ◌-◌, List, [], ◌∷◌, ◌++◌, length, get_or, take, drop, sym, ◌∙◌, ap, arith, append_assoc, length-append, length-take, length-drop, take-append-drop}
use Rattle.std.proofs.Math.Seq.{take-append-add, drop-append-add}
use Rattle.std.proofs.lemmas.List.{drop-drop, drop-take, take-take, take-append-le, drop-append-le, take_at, drop_at, get_or-take, get_or-drop, length-take-le}
use Rattle.disk.specs.State.{IsTorn, bytes_after_write}
use Rattle.gate_log.specs.declared.layout.Area.{Area}
use Rattle.gate_log.specs.Areas.{bytes_in}

-- a part of a list that lies in a front, or after a front, which two lists share
early : (s m at : ℕ) (xs ys : List ℕ) → take at xs ≡ take at ys → s + m ≤ at → take m (drop s xs) ≡ take m (drop s ys)
early s m at xs ys same within =
    sym (drop-take s m xs)
    ∙ ap (λ (l : List ℕ). drop s l) (sym (take-take (s + m) at xs within) ∙ ap (λ (l : List ℕ). take (s + m) l) same ∙ take-take (s + m) at ys within)
    ∙ drop-take s m ys

late : (s at : ℕ) (xs ys : List ℕ) → drop at xs ≡ drop at ys → at ≤ s → drop s xs ≡ drop s ys
late s at xs ys same above =
    let is : at + (s - at) ≡ s = omega (arith, above) in
    ap (λ (n : ℕ). drop n xs) (sym is)
    ∙ sym (drop-drop (s - at) at xs)
    ∙ ap (λ (l : List ℕ). drop (s - at) l) same
    ∙ drop-drop (s - at) at ys
    ∙ ap (λ (n : ℕ). drop n ys) is

-- a write elsewhere leaves an area's bytes
pub bytes_stay : (area : Area) (at n : ℕ) (old new : List ℕ) → area.start ≤ area.end → IsTorn at n old new → (at + n ≤ area.start) ⊎ (area.end ≤ at) → bytes_in area new ≡ bytes_in area old
bytes_stay area at n old new order torn (inl below) = ap (λ (l : List ℕ). take (area.end - area.start) l) (late area.start (at + n) new old torn.after below)
bytes_stay area at n old new order torn (inr above) = early area.start (area.end - area.start) at new old torn.before (omega (arith, order, above))

-- and a front before it
pub front_stays : (len at n : ℕ) (old new : List ℕ) → IsTorn at n old new → len ≤ at → take len new ≡ take len old
front_stays len at n old new torn below = sym (take-take len at new below) ∙ ap (λ (l : List ℕ). take len l) torn.before ∙ take-take len at old below

pub byte_stays : (i at n : ℕ) (old new : List ℕ) → IsTorn at n old new → (i < at) ⊎ (at + n ≤ i) → get_or new i 0 ≡ get_or old i 0
byte_stays i at n old new torn (inl below) = sym (get_or-take at new i 0 below) ∙ ap (λ (l : List ℕ). get_or l i 0) torn.before ∙ get_or-take at old i 0 below
byte_stays i at n old new torn (inr above) =
    let is : (at + n) + (i - (at + n)) ≡ i = omega (arith, above) in
    ap (λ (k : ℕ). get_or new k 0) (sym is)
    ∙ sym (get_or-drop (at + n) new (i - (at + n)) 0)
    ∙ ap (λ (l : List ℕ). get_or l (i - (at + n)) 0) torn.after
    ∙ get_or-drop (at + n) old (i - (at + n)) 0
    ∙ ap (λ (k : ℕ). get_or old k 0) is

-- a write into an area tears its bytes
pub bytes_torn : (area : Area) (k n : ℕ) (old new : List ℕ) → IsTorn (area.start + k) n old new → k + n ≤ area.end - area.start → IsTorn k n (bytes_in area old) (bytes_in area new)
bytes_torn area k n old new torn within =
    let s = area.start in
    let m = area.end - area.start in
    let inside : k ≤ m = omega (arith, within) in
    record {
      same_length = omega (arith, torn.same_length, length-take m (drop s old), length-take m (drop s new), length-drop s old, length-drop s new);
      before = take-take k m (drop s new) inside ∙ early s k (s + k) new old torn.before (omega arith) ∙ sym (take-take k m (drop s old) inside);
      after = rest new ∙ ap (λ (l : List ℕ). take (m - (k + n)) l) (late (s + (k + n)) ((s + k) + n) new old torn.after (omega arith)) ∙ sym (rest old);
    }
  where
    rest : (l : List ℕ) → drop (k + n) (take (area.end - area.start) (drop area.start l)) ≡ take ((area.end - area.start) - (k + n)) (drop (area.start + (k + n)) l)
    rest l =
        let is : (k + n) + ((area.end - area.start) - (k + n)) ≡ area.end - area.start = omega (arith, within) in
        ap (λ (j : ℕ). drop (k + n) (take j (drop area.start l))) (sym is)
        ∙ drop-take (k + n) ((area.end - area.start) - (k + n)) (drop area.start l)
        ∙ ap (λ (r : List ℕ). take ((area.end - area.start) - (k + n)) r) (drop-drop (k + n) area.start l)

-- a byte that is written stands there
pub written_byte : (disk : List ℕ) (at byte : ℕ) → at ≤ length disk → get_or (bytes_after_write disk at (byte ∷ [])) at 0 ≡ byte
written_byte disk at byte within =
    let front : length (take at disk) ≡ at = length-take-le at disk within in
    let rest = drop (at + 1) disk in
    ap (λ (k : ℕ). get_or ((take at disk ++ (byte ∷ [])) ++ rest) k 0) (omega arith)
    ∙ sym (get_or-drop at ((take at disk ++ (byte ∷ [])) ++ rest) 0 0)
    ∙ ap (λ (l : List ℕ). get_or l 0 0) (ap (λ (l : List ℕ). drop at l) (append_assoc (take at disk) (byte ∷ []) rest) ∙ drop_at (take at disk) (byte ∷ rest) at front)

-- a disk in three parts: before the area, the area, and after it
pub parted : (area : Area) (disk : List ℕ) → area.start ≤ area.end → disk ≡ take area.start disk ++ (bytes_in area disk ++ drop area.end disk)
parted area disk order =
    let m = area.end - area.start in
    sym (take-append-drop area.start disk)
    ∙ ap (λ (l : List ℕ). take area.start disk ++ l)
    (sym (take-append-drop m (drop area.start disk)) ∙ ap (λ (l : List ℕ). bytes_in area disk ++ l) (drop-drop m area.start disk ∙ ap (λ (n : ℕ). drop n disk) (omega (arith, order))))

pub length-bytes_in : (area : Area) (disk : List ℕ) → area.start ≤ area.end → area.end ≤ length disk → length (bytes_in area disk) ≡ area.end - area.start
length-bytes_in area disk order within = length-take-le (area.end - area.start) (drop area.start disk) (omega (arith, length-drop area.start disk, order, within))

written_parts : (x y z bytes : List ℕ) (k : ℕ) → k + length bytes ≤ length y → bytes_after_write (x ++ (y ++ z)) (length x + k) bytes ≡ x ++ (bytes_after_write y k bytes ++ z)
written_parts x y z bytes k within =
    let front : take (length x + k) (x ++ (y ++ z)) ≡ x ++ take k y = take-append-add x (y ++ z) k ∙ ap (λ (l : List ℕ). x ++ l) (take-append-le k y z (omega (arith, within))) in
    let back : drop ((length x + k) + length bytes) (x ++ (y ++ z)) ≡ drop (k + length bytes) y ++ z =
    ap (λ (n : ℕ). drop n (x ++ (y ++ z))) (omega arith) ∙ drop-append-add x (y ++ z) (k + length bytes) ∙ drop-append-le (k + length bytes) y z within in
    (λ i. front i ++ bytes ++ back i)
    ∙ ap (λ (l : List ℕ). l ++ (drop (k + length bytes) y ++ z)) (append_assoc x (take k y) bytes)
    ∙ append_assoc x (take k y ++ bytes) (drop (k + length bytes) y ++ z)
    ∙ ap (λ (l : List ℕ). x ++ l) (sym (append_assoc (take k y ++ bytes) (drop (k + length bytes) y) z))

-- a write into an area is one into its bytes
pub bytes_written : (area : Area) (k : ℕ) (disk bytes : List ℕ) → area.start + (k + length bytes) ≤ area.end → area.end ≤ length disk → bytes_in area (bytes_after_write disk (area.start + k) bytes) ≡ bytes_after_write (bytes_in area disk) k bytes
bytes_written area k disk bytes fits within =
    let m = area.end - area.start in
    let x = take area.start disk in
    let y = bytes_in area disk in
    let z = drop area.end disk in
    let front : length x ≡ area.start = length-take-le area.start disk (omega (arith, fits, within)) in
    let middle : length y ≡ m = length-bytes_in area disk (omega (arith, fits)) within in
    let new : length (bytes_after_write y k bytes) ≡ m =
    omega (arith, middle, fits, length-append (take k y ++ bytes) (drop (k + length bytes) y), length-append (take k y) bytes, length-take k y, length-drop (k + length bytes) y) in
    let whole : bytes_after_write disk (area.start + k) bytes ≡ x ++ (bytes_after_write y k bytes ++ z) =
    ap (λ (l : List ℕ). bytes_after_write l (area.start + k) bytes) (parted area disk (omega (arith, fits)))
    ∙ ap (λ (n : ℕ). bytes_after_write (x ++ (y ++ z)) (n + k) bytes) (sym front)
    ∙ written_parts x y z bytes k (omega (arith, fits, middle)) in
    ap (λ (l : List ℕ). take m (drop area.start l)) whole
    ∙ ap (λ (l : List ℕ). take m l) (drop_at x (bytes_after_write y k bytes ++ z) area.start front)
    ∙ take_at (bytes_after_write y k bytes) z m new

-- an area's gate is the first of its bytes
pub gate_of : (area : Area) (disk : List ℕ) → area.start < area.end → get_or (bytes_in area disk) 0 0 ≡ get_or disk area.start 0
gate_of area disk order =
    get_or-take (area.end - area.start) (drop area.start disk) 0 0 (omega (arith, order)) ∙ get_or-drop area.start disk 0 0 ∙ ap (λ (n : ℕ). get_or disk n 0) (omega arith)
