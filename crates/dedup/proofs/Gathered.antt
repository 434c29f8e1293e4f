-- The two maps that store the gatherings, as the list of the windows.
use Rattle.std.proofs.Common.{◌≡◌, ℕ, zero, suc, ◌+◌, ◌-◌, ◌<◌, ◌↔◌, Bool, true, false, cond, not, ◌||◌, List, [], ◌∷◌, ◌++◌, length, map, reverse, drop, refl, sym, ap, subst, ◌∙◌, arith, zero-add, append_assoc, Bor, Ok, Err, Some, None, Option, Result, is_some, slice_get, slice_range, position}
use Rattle.std.specs.Prelude.{bytes_eq, OnErr, IsSome, option_map, option_to_list}
use Rattle.std.specs.List.{list_any, position_or_len, AllByRecursion, IsDistinct}
use Rattle.std.specs.Map.Iter.{deref_pair}
use Rattle.std.specs.Map.{keys_of, values_of, lookup}
use Rattle.std.proofs.lemmas.Bool.{false≢true}
use Rattle.std.proofs.lemmas.List.{append-nil, length-append, length-map, length-reverse, map-append, reverse-append, reverse-reverse}
use Rattle.std.proofs.lemmas.List.Folds.{list_any-append}
use Rattle.std.proofs.lemmas.List.Sorted.{list_any-IsPermutation, IsPermutation-reverse}
use Rattle.std.proofs.lemmas.Map.Keys.{IsDistinct-head, IsDistinct-tail}
use Rattle.std.proofs.lemmas.Slice.Eq.{bytes_eq-Decides}
use Rattle.indexmap.specs.Layout.{set_value_at}
use Rattle.indexmap.proofs.MapLemmas.{Found-position, some_index, split_last}
use Rattle.indexmap.proofs.ReorderLemmas.{map-reverse}
use Rattle.lw_types.specs.Answer.{Answers}
use Rattle.lw_types.specs.declared.refusal.Refusal.{Refusal}
use Rattle.devices.specs.declared.heard.Hearing.{Hearing}
use Rattle.devices.specs.Heard.{with_hearing}
use Rattle.dedup.specs.declared.gatherings.Gathering.{Gathering}
use Rattle.dedup.specs.Windows.{Window, is_of, result_map}
use Rattle.dedup.specs.Kept.{window_of, windows_of, joined_at}
use Rattle.dedup.proofs.Places.{IsFirst, first_left, first_right, position_first, position_none}

abbrev pub Entry : Type 0
Entry = List ℕ × Gathering

abbrev pub Entries : Type 0
Entries = List Entry

abbrev pub with_copies : Gathering → List Hearing → Gathering
with_copies g hearings = record { opened = g.opened; hearings = hearings }

-- a reversed map has its first window last
turned : (e : Entry) (es : Entries) → map window_of (reverse (e ∷ es)) ≡ map window_of (reverse es) ++ window_of e ∷ []
turned e es = ap (map window_of) (reverse-append (e ∷ []) es) ∙ map-append window_of (reverse es) (e ∷ [])

length-turned : (es : Entries) → length (map window_of (reverse es)) ≡ length es
length-turned es = length-map (reverse es) window_of ∙ length-reverse es

pub length-windows_of : (older newer : Entries) → length (windows_of older newer) ≡ length older + length newer
length-windows_of older newer = omega (arith, length-append (map window_of (reverse older)) (map window_of newer), length-turned older, length-map newer window_of)

pub empty_maps : (es : Entries) → length es ≡ 0 → es ≡ []
empty_maps [] n = refl
empty_maps (e ∷ es) n = absurd (omega arith)

-- which windows have the bytes

any_is_lookup : (es : Entries) (bytes : List ℕ) → list_any (is_of bytes) (map window_of es) ≡ is_some (lookup (bytes_eq bytes) es)
any_is_lookup [] bytes = refl
any_is_lookup (e ∷ es) bytes = by (bytes_eq bytes e.0) (any_is_lookup es bytes)
  where
    by : (b : Bool) → list_any (is_of bytes) (map window_of es) ≡ is_some (lookup (bytes_eq bytes) es)
        → (b || list_any (is_of bytes) (map window_of es)) ≡ is_some (cond b (Some e.1) (lookup (bytes_eq bytes) es))
    by true rest = refl
    by false rest = rest

any_turned : (es : Entries) (bytes : List ℕ) → list_any (is_of bytes) (map window_of (reverse es)) ≡ list_any (is_of bytes) (map window_of es)
any_turned es bytes =
    ap (list_any (is_of bytes)) (map-reverse window_of es)
    ∙ sym (list_any-IsPermutation (is_of bytes) (map window_of es) (reverse (map window_of es)) (IsPermutation-reverse (map window_of es)))

none_in : (es : Entries) (bytes : List ℕ) → position (bytes_eq bytes) (keys_of es) ≡ None → list_any (is_of bytes) (map window_of es) ≡ false
none_in es bytes p = any_is_lookup es bytes ∙ sym (some_index (bytes_eq bytes) es) ∙ ap is_some p

none_in_older : (es : Entries) (bytes : List ℕ) → position (bytes_eq bytes) (keys_of es) ≡ None → list_any (is_of bytes) (map window_of (reverse es)) ≡ false
none_in_older es bytes p = any_turned es bytes ∙ none_in es bytes p

none_from_is_some : {A : Type 0} (o : Option A) → is_some o ≡ false → o ≡ None
none_from_is_some None e = refl
none_from_is_some (Some x) e = absurd (cc)

second_false : (a b : Bool) → (a || b) ≡ false → b ≡ false
second_false true b e = absurd (cc)
second_false false b e = e

-- bytes that no window has aren't in the map of the newer windows
pub absent : (older newer : Entries) (bytes : List ℕ) → list_any (is_of bytes) (windows_of older newer) ≡ false → lookup (bytes_eq bytes) newer ≡ None
absent older newer bytes none =
    let both = sym (list_any-append (is_of bytes) (map window_of (reverse older)) (map window_of newer)) ∙ none in
    none_from_is_some (lookup (bytes_eq bytes) newer) (sym (any_is_lookup newer bytes) ∙ second_false _ _ both)

first_found : (es : Entries) (i : ℕ) (bytes : List ℕ) → position_or_len (bytes_eq bytes) (keys_of es) ≡ i → i < length es → IsFirst bytes (map window_of es) i
first_found [] i bytes p lt = absurd (omega arith)
first_found (e ∷ es) zero bytes p lt = by (bytes_eq bytes e.0) p
  where
    by : (b : Bool) → cond (not b) (1 + position_or_len (bytes_eq bytes) (keys_of es)) 0 ≡ 0 → b ≡ true
    by true p = refl
    by false p = absurd (omega arith)
first_found (e ∷ es) (suc i) bytes p lt = by (bytes_eq bytes e.0) p (λ q. first_found es i bytes q (omega arith))
  where
    by : (b : Bool) → cond (not b) (1 + position_or_len (bytes_eq bytes) (keys_of es)) 0 ≡ suc i
        → (position_or_len (bytes_eq bytes) (keys_of es) ≡ i → IsFirst bytes (map window_of es) i) → (b ≡ false) × IsFirst bytes (map window_of es) i
    by true p rest = absurd (omega arith)
    by false p rest = (refl, rest (omega arith))

-- if the keys are distinct, none after the first has the bytes
none_behind : (bytes : List ℕ) (es : Entries) → AllByRecursion (λ y. bytes_eq bytes y ≡ false) (keys_of es) → list_any (is_of bytes) (map window_of es) ≡ false
none_behind bytes [] apart = refl
none_behind bytes (e ∷ es) apart = rw apart.0 (none_behind bytes es apart.1)

-- so it is also the first in the reversed map
first_turned : (es : Entries) (i j : ℕ) (bytes : List ℕ) → IsFirst bytes (map window_of es) i → IsDistinct bytes_eq (keys_of es) → suc (i + j) ≡ length es → IsFirst bytes (map window_of (reverse es)) j
first_turned [] i j bytes first distinct n = absurd first
first_turned (e ∷ es) zero j bytes first distinct n =
    let same : bytes ≡ e.0 = (bytes_eq-Decides bytes e.0).0 first in
    let behind = none_behind bytes es (subst (λ k. AllByRecursion (λ y. bytes_eq k y ≡ false) (keys_of es)) (sym same) (IsDistinct-head bytes_eq e.0 (keys_of es) distinct)) in
    let front = map window_of (reverse es) in
    let at' : length front + 0 ≡ j = omega (arith, length-turned es) in
    rw (turned e es) (subst (IsFirst bytes (front ++ window_of e ∷ [])) at' (first_right bytes front (window_of e ∷ []) 0 (any_turned es bytes ∙ behind) first))
first_turned (e ∷ es) (suc i) j bytes first distinct n =
    rw (turned e es) (first_left bytes (map window_of (reverse es)) (window_of e ∷ []) j (first_turned es i j bytes first.1 (IsDistinct-tail bytes_eq e.0 (keys_of es) distinct) (omega arith)))

pub found_older : (older newer : Entries) (i j : ℕ) (bytes : List ℕ) → position (bytes_eq bytes) (keys_of older) ≡ Some i → IsDistinct bytes_eq (keys_of older) → suc (i + j) ≡ length older
    → position (is_of bytes) (windows_of older newer) ≡ Some j
found_older older newer i j bytes p distinct n =
    let found = Found-position (bytes_eq bytes) older i p in
    let first = first_turned older i j bytes (first_found older i bytes found.or_len found.within) distinct n in
    position_first bytes (windows_of older newer) j (first_left bytes (map window_of (reverse older)) (map window_of newer) j first)

pub found_newer : (older newer : Entries) (i : ℕ) (bytes : List ℕ) → position (bytes_eq bytes) (keys_of older) ≡ None → position (bytes_eq bytes) (keys_of newer) ≡ Some i
    → position (is_of bytes) (windows_of older newer) ≡ Some (length older + i)
found_newer older newer i bytes none p =
    let found = Found-position (bytes_eq bytes) newer i p in
    let front = map window_of (reverse older) in
    let at' : length front + i ≡ length older + i = omega (arith, length-turned older) in
    let first = first_right bytes front (map window_of newer) i (none_in_older older bytes none) (first_found newer i bytes found.or_len found.within) in
    position_first bytes (windows_of older newer) (length older + i) (subst (IsFirst bytes (windows_of older newer)) at' first)

pub not_found : (older newer : Entries) (bytes : List ℕ) → position (bytes_eq bytes) (keys_of older) ≡ None → position (bytes_eq bytes) (keys_of newer) ≡ None
    → position (is_of bytes) (windows_of older newer) ≡ None
not_found older newer bytes none none' =
    let front = map window_of (reverse older) in
    position_none bytes (windows_of older newer)
    (list_any-append (is_of bytes) front (map window_of newer) ∙ ap (λ b. b || list_any (is_of bytes) (map window_of newer)) (none_in_older older bytes none) ∙ none_in newer bytes none')

-- what a window answers to a copy is what its copies answer

twice : {A B C : Type 0} (f : A → B) (h : B → C) (r : Result A Refusal) → result_map h (result_map f r) ≡ result_map (λ x. h (f x)) r
twice f h (Ok x) = refl
twice f h (Err e) = refl

same_map : {A B : Type 0} (f h : A → B) (r : Result A Refusal) → ((x : A) → f x ≡ h x) → result_map f r ≡ result_map h r
same_map f h (Ok x) same = ap Ok (same x)
same_map f h (Err e) same = refl

map_nothing : {A : Type 0} (r : Result A Refusal) → result_map (λ x. x) r ≡ r
map_nothing (Ok x) = refl
map_nothing (Err e) = refl

joined_left : (xs ys : List Window) (i : ℕ) (h : Hearing) → i < length xs → joined_at (xs ++ ys) i h ≡ result_map (λ rest. rest ++ ys) (joined_at xs i h)
joined_left [] ys i h lt = absurd (omega arith)
joined_left (x ∷ xs) ys zero h lt = sym (twice _ (λ rest. rest ++ ys) (with_hearing x.hearings h))
joined_left (x ∷ xs) ys (suc i) h lt =
    ap (result_map (λ rest. x ∷ rest)) (joined_left xs ys i h (omega arith))
    ∙ twice (λ rest. rest ++ ys) (λ rest. x ∷ rest) (joined_at xs i h) ∙ sym (twice (λ rest. x ∷ rest) (λ rest. rest ++ ys) (joined_at xs i h))

joined_right : (xs ys : List Window) (i : ℕ) (h : Hearing) → joined_at (xs ++ ys) (length xs + i) h ≡ result_map (λ rest. xs ++ rest) (joined_at ys i h)
joined_right [] ys i h = rw (zero-add i) (sym (map_nothing (joined_at ys i h)))
joined_right (x ∷ xs) ys i h =
    let at' : suc (length xs) + i ≡ suc (length xs + i) = omega arith in
    ap (λ n. joined_at (x ∷ xs ++ ys) n h) at' ∙ ap (result_map (λ rest. x ∷ rest)) (joined_right xs ys i h) ∙ twice (λ rest. xs ++ rest) (λ rest. x ∷ rest) (joined_at ys i h)

joined_there : (es : Entries) (i : ℕ) (g : Gathering) (h : Hearing) → slice_get (values_of es) i ≡ Some g
    → joined_at (map window_of es) i h ≡ result_map (λ hs. map window_of (set_value_at es i (with_copies g hs))) (with_hearing g.hearings h)
joined_there [] i g h at' = absurd (cc)
joined_there (e ∷ es) zero g h at' =
    let same : e.1 ≡ g = cc in
    subst (λ x. joined_at (map window_of (e ∷ es)) 0 h ≡ result_map (λ hs. map window_of ((e.0, with_copies x hs) ∷ es)) (with_hearing x.hearings h)) same refl
joined_there (e ∷ es) (suc i) g h at' =
    ap (result_map (λ rest. window_of e ∷ rest)) (joined_there es i g h at')
    ∙ twice (λ hs. map window_of (set_value_at es i (with_copies g hs))) (λ rest. window_of e ∷ rest) (with_hearing g.hearings h)

joined_turned : (es : Entries) (i j : ℕ) (g : Gathering) (h : Hearing) → slice_get (values_of es) i ≡ Some g → suc (i + j) ≡ length es
    → joined_at (map window_of (reverse es)) j h ≡ result_map (λ hs. map window_of (reverse (set_value_at es i (with_copies g hs)))) (with_hearing g.hearings h)
joined_turned [] i j g h at' n = absurd (cc)
joined_turned (e ∷ es) zero j g h at' n =
    let front = map window_of (reverse es) in
    let there : j ≡ length front + 0 = omega (arith, length-turned es) in
    (λ z. joined_at (turned e es z) (there z) h)
    ∙ joined_right front (window_of e ∷ []) 0 h
    ∙ ap (result_map (λ rest. front ++ rest)) (joined_there (e ∷ []) 0 g h at')
    ∙ twice _ (λ rest. front ++ rest) (with_hearing g.hearings h)
    ∙ same_map _ _ (with_hearing g.hearings h) (λ hs. sym (turned (e.0, with_copies g hs) es))
joined_turned (e ∷ es) (suc i) j g h at' n =
    let front = map window_of (reverse es) in
    ap (λ ws. joined_at ws j h) (turned e es)
    ∙ joined_left front (window_of e ∷ []) j h (omega (arith, length-turned es))
    ∙ ap (result_map (λ rest. rest ++ window_of e ∷ [])) (joined_turned es i j g h at' (omega arith))
    ∙ twice _ (λ rest. rest ++ window_of e ∷ []) (with_hearing g.hearings h)
    ∙ same_map _ _ (with_hearing g.hearings h) (λ hs. sym (turned e (set_value_at es i (with_copies g hs))))

pub joined_older : (older newer : Entries) (i j : ℕ) (g : Gathering) (h : Hearing) → slice_get (values_of older) i ≡ Some g → suc (i + j) ≡ length older
    → joined_at (windows_of older newer) j h ≡ result_map (λ hs. windows_of (set_value_at older i (with_copies g hs)) newer) (with_hearing g.hearings h)
joined_older older newer i j g h at' n =
    joined_left (map window_of (reverse older)) (map window_of newer) j h (omega (arith, length-turned older))
    ∙ ap (result_map (λ rest. rest ++ map window_of newer)) (joined_turned older i j g h at' n)
    ∙ twice _ (λ rest. rest ++ map window_of newer) (with_hearing g.hearings h)

pub joined_newer : (older newer : Entries) (i j : ℕ) (g : Gathering) (h : Hearing) → slice_get (values_of newer) i ≡ Some g → j ≡ length older + i
    → joined_at (windows_of older newer) j h ≡ result_map (λ hs. windows_of older (set_value_at newer i (with_copies g hs))) (with_hearing g.hearings h)
joined_newer older newer i j g h at' n =
    let front = map window_of (reverse older) in
    let there : j ≡ length front + i = omega (arith, length-turned older) in
    ap (λ k. joined_at (windows_of older newer) k h) there
    ∙ joined_right front (map window_of newer) i h
    ∙ ap (result_map (λ rest. front ++ rest)) (joined_there newer i g h at')
    ∙ twice _ (λ rest. front ++ rest) (with_hearing g.hearings h)

pub joined_answers : (after : List Hearing → List Window) (wanted : Result (List Window) Refusal) (hs : Result (List Hearing) Refusal) (now : List Hearing) (r : Result (Unit {0}) Refusal)
    → wanted ≡ result_map after hs → Answers hs (λ xs _. now ≡ xs) r → Answers wanted (λ ws _. after now ≡ ws) r
joined_answers after wanted hs now r is answers = rw is (by hs r answers)
  where
    by : (hs : Result (List Hearing) Refusal) (r : Result (Unit {0}) Refusal) → Answers hs (λ xs _. now ≡ xs) r → Answers (result_map after hs) (λ ws _. after now ≡ ws) r
    by (Ok hs) (Ok x) a = ap after a
    by (Ok hs) (Err e) a = a
    by (Err e) r a = a

unwritten : (es : Entries) (i : ℕ) (g : Gathering) → slice_get (values_of es) i ≡ Some g → set_value_at es i g ≡ es
unwritten [] i g at' = refl
unwritten (e ∷ es) zero g at' = let same : g ≡ e.1 = cc in ap (λ x. (e.0, x) ∷ es) same
unwritten (e ∷ es) (suc i) g at' = ap (λ xs. e ∷ xs) (unwritten es i g at')

pub same_after : (after : Entries → List Window) (es : Entries) (i : ℕ) (g : Gathering) (now : List Hearing) (r : Result (Unit {0}) Refusal) → slice_get (values_of es) i ≡ Some g
    → OnErr r (now ≡ g.hearings) → OnErr r (after (set_value_at es i (with_copies g now)) ≡ after es)
same_after after es i g now (Ok x) at' same = same
same_after after es i g now (Err e) at' same = ap (λ hs. after (set_value_at es i (with_copies g hs))) same ∙ ap after (unwritten es i g at')

-- one more window

pub pushed : (older newer : Entries) (e : Entry) → windows_of older (newer ++ e ∷ []) ≡ windows_of older newer ++ window_of e ∷ []
pushed older newer e =
    let front = map window_of (reverse older) in
    ap (λ ws. front ++ ws) (map-append window_of newer (e ∷ [])) ∙ sym (append_assoc front (map window_of newer) (window_of e ∷ []))

-- the oldest window

oldest : (rest newer : Entries) (e : Entry) → windows_of (rest ++ e ∷ []) newer ≡ window_of e ∷ windows_of rest newer
oldest rest newer e = ap (λ es. map window_of es ++ map window_of newer) (reverse-append rest (e ∷ []))

pub first_older : (older newer : Entries) (e : Entry) → slice_get older (length older - 1) ≡ Some e → 0 < length older → slice_get (windows_of older newer) 0 ≡ Some (window_of e)
first_older older newer e at' some =
    let front = slice_range older 0 (length older - 1) in
    ap (λ es. slice_get (windows_of es newer) 0) (split_last older e at' some) ∙ ap (λ ws. slice_get ws 0) (oldest front newer e)

pub no_entries : (es : Entries) → (IsSome {T = Entry} None ↔ (0 < length es)) → length es ≡ 0
no_entries [] found = refl
no_entries (e ∷ es) found = absurd (false≢true (found.1 (omega arith)))

pub first_newer : (older newer : Entries) (o : Option (Bor (List ℕ) × Bor Gathering)) → length older ≡ 0 → option_map deref_pair o ≡ slice_get newer 0
    → option_map (λ r. window_of (r.0.now, r.1.now)) o ≡ slice_get (windows_of older newer) 0
first_newer older newer o none is = seen o ∙ ap (option_map window_of) is ∙ of newer ∙ ap (λ es. slice_get (windows_of es newer) 0) (sym (empty_maps older none))
  where
    seen : (o : Option (Bor (List ℕ) × Bor Gathering)) → option_map (λ r. window_of (r.0.now, r.1.now)) o ≡ option_map window_of (option_map deref_pair o)
    seen None = refl
    seen (Some r) = refl

    of : (es : Entries) → option_map window_of (slice_get es 0) ≡ slice_get (map window_of es) 0
    of [] = refl
    of (e ∷ es) = refl

-- the newer windows, reversed, become the older ones
pub turned_round : (newer : Entries) → windows_of (reverse newer) [] ≡ windows_of [] newer
turned_round newer = append-nil (map window_of (reverse (reverse newer))) ∙ ap (map window_of) (reverse-reverse newer)

pub record Popped (older left newer : Entries) (o : Option Entry) : Type 0 where
  pub first : option_map window_of o ≡ slice_get (windows_of older newer) 0
  pub rest : windows_of left newer ≡ drop 1 (windows_of older newer)

-- if the older map is empty only when the newer one is, its last window is the oldest of all
pub popped : (older left newer : Entries) (o : Option Entry) → older ≡ left ++ option_to_list o → (IsSome o ↔ (0 < length older)) → (length older ≡ 0 → newer ≡ []) → Popped older left newer o
popped older left newer (Some e) split found none =
    let is : windows_of older newer ≡ window_of e ∷ windows_of left newer = ap (λ es. windows_of es newer) split ∙ oldest left newer e in
    record { first = sym (ap (λ ws. slice_get ws 0) is); rest = sym (ap (drop 1) is) }
popped [] left newer None split found none =
    let all : newer ≡ [] = none refl in
    let nothing : left ≡ [] = sym (append-nil left) ∙ sym split in
    record {
      first = sym (ap (λ es. slice_get (windows_of [] es) 0) all);
      rest = (λ z. windows_of (nothing z) (all z)) ∙ sym (ap (λ es. drop 1 (windows_of [] es)) all);
    }
popped (e ∷ es) left newer None split found none = absurd (false≢true (found.1 (omega arith)))
