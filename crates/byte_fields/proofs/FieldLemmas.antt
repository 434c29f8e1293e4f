-- A field that is read is the field that was written, and what was written is read again: lemmas
-- for codecs.
use Rattle.std.proofs.Common.{◌≡◌, ℕ, zero, suc, ◌<◌, ◌≤◌, ◌==◌, Bool, true, false, cond, ltb, List}
use Rattle.std.proofs.Common.{[], ◌∷◌, ◌++◌, length, take, drop, Option, Some, None, refl, sym, ap}
use Rattle.std.proofs.Common.{subst, ◌∙◌, append_assoc, arith, inl, inr, ◌⊎◌}
use Rattle.std.specs.Prelude.{IfSome}
use Rattle.std.proofs.lemmas.Bool.{cases_lt, eqb-true, ltb-false, le-ltb}
use Rattle.std.proofs.lemmas.List.{append-nil, nil_from_length, take_at, drop_at, take-append-drop}
use Rattle.std.proofs.lemmas.List.{length-append, length-take, get_or-take, get_or_past}
use Rattle.lw_types.specs.Hex.{IsBytes}
use Rattle.byte_fields.specs.Field.{IsField, AreBytes}
use Rattle.byte_fields.specs.Spelling.{flag, counted_bytes, optional}
use Rattle.byte_fields.specs.Reading.{Reader, ◌>>=◌, both, seen_as, that, whole, front_at, byte_at}
use Rattle.byte_fields.specs.Reading.{flag_at, counted_at, optional_at}

-- ---- tools

pub bind_some : {A B : Type 0} (o : Option A) (f : A → Option B) (y : B) → (o >>= f) ≡ Some y
    → (x : A) × (o ≡ Some x) × (f x ≡ Some y)
bind_some (Some x) f y e = (x, refl, e)
bind_some None f y e = absurd cc

abbrev found_some : {A : Type 0} → A → Option A
found_some x = Some x

pub some_is : {A : Type 0} (x y : A) → found_some x ≡ found_some y → x ≡ y
some_is x y e = cc

-- which way a test came out
pub chosen_some : {A : Type 0} (b : Bool) (x y z : A) → cond b x y ≡ z
    → ((b ≡ true) × (x ≡ z)) ⊎ ((b ≡ false) × (y ≡ z))
chosen_some true x y z e = inl (refl, e)
chosen_some false x y z e = inr (refl, e)

-- a test that has to pass, and one that has to fail
pub guard_some : {A : Type 0} (b : Bool) (x y : A) → cond b (Some x) None ≡ Some y
    → (b ≡ true) × (x ≡ y)
guard_some true x y e = (refl, some_is x y e)
guard_some false x y e = absurd cc

pub other_some : {A : Type 0} (b : Bool) (x y : A) → cond b None (Some x) ≡ Some y
    → (b ≡ false) × (x ≡ y)
other_some true x y e = absurd cc
other_some false x y e = (refl, some_is x y e)

pub IsBytes-after : (front rest : List ℕ) → IsBytes (front ++ rest) → IsBytes rest
IsBytes-after [] rest fits = fits
IsBytes-after (byte ∷ front) rest fits = IsBytes-after front rest (λ i. fits (suc i))

pub IsBytes-take : (n : ℕ) (bytes : List ℕ) → IsBytes bytes → IsBytes (take n bytes)
IsBytes-take n bytes fits i =
    elim (cases_lt i n) [
      | inl lt ↦ rw (get_or-take n bytes i 0 lt) (fits i)
      | inr le ↦ rw (get_or_past (take n bytes) i 0 (omega (arith, length-take n bytes)))
          (omega arith)
    ]

-- ---- fields made of fields

-- the same field, with its range stated in other words
pub same_field : {X : Type 0} (In Other : X → Type 0) (spelled : X → List ℕ) (read : Reader X)
    → IsField In spelled read
    → ((x : X) → In x → Other x) → ((x : X) → Other x → In x) → IsField Other spelled read
same_field In Other spelled read field to from = record {
  takes = λ bytes x rest fits e. let t = field.takes bytes x rest fits e in (to x t.0, t.1);
  again = λ x rest h. field.again x rest (from x h);
}

both_takes : {X Y : Type 0} (A : X → Type 0) (a : X → List ℕ) (first : Reader X) (B : Y → Type 0)
    (b : Y → List ℕ) (second : Reader Y) → IsField A a first → IsField B b second
    → (bytes : List ℕ) (p : X × Y) (rest : List ℕ) → IsBytes bytes
    → both first second bytes ≡ Some (p, rest)
    → (A p.0 × B p.1) × (bytes ≡ (a p.0 ++ b p.1) ++ rest)
both_takes {X} {Y} A a first B b second fa fb bytes p rest fits e =
    let s = bind_some (first bytes) (λ x. second x.1 >>= λ y. Some ((x.0, y.0), y.1)) (p, rest) e in
    let t = bind_some (second s.0.1) (λ y. Some ((s.0.0, y.0), y.1)) (p, rest) s.2 in
    let one = fa.takes bytes s.0.0 s.0.1 fits s.1 in
    let after : IsBytes s.0.1 = IsBytes-after (a s.0.0) s.0.1 (subst IsBytes one.1 fits) in
    let two = fb.takes s.0.1 t.0.0 t.0.1 after t.1 in
    let whole : bytes ≡ (a s.0.0 ++ b t.0.0) ++ t.0.1 =
    one.1 ∙ ap (λ (r : List ℕ). a s.0.0 ++ r) two.1
    ∙ sym (append_assoc (a s.0.0) (b t.0.0) t.0.1) in
    let made : (X × Y) × List ℕ = ((s.0.0, t.0.0), t.0.1) in
    subst (λ (q : (X × Y) × List ℕ). (A q.0.0 × B q.0.1) × (bytes ≡ (a q.0.0 ++ b q.0.1) ++ q.1))
    (some_is made (p, rest) t.2) ((one.0, two.0), whole)

pub both_field : {X Y : Type 0} (A : X → Type 0) (a : X → List ℕ) (first : Reader X)
    (B : Y → Type 0) (b : Y → List ℕ) (second : Reader Y) → IsField A a first → IsField B b second
    → IsField (λ (p : X × Y). A p.0 × B p.1) (λ p. a p.0 ++ b p.1) (both first second)
both_field {X} {Y} A a first B b second fa fb = record {
  takes = both_takes A a first B b second fa fb;
  again =
      λ p rest h. ap (both first second) (append_assoc (a p.0) (b p.1) rest)
      ∙ rw (fa.again p.0 (b p.1 ++ rest) h.0, fb.again p.1 rest h.1) refl;
}

-- a field seen as another value, if each value in range is seen so
pub seen_field : {X Y : Type 0} (In : X → Type 0) (spelled : X → List ℕ) (read : Reader X)
    → IsField In spelled read
    → (f : X → Y) (Seen : Y → Type 0) (other : Y → List ℕ)
    → ((x : X) → In x → Seen (f x) × (other (f x) ≡ spelled x))
    → ((y : Y) → Seen y → (x : X) × In x × (f x ≡ y) × (other y ≡ spelled x))
    → IsField Seen other (seen_as f read)
seen_field {X} {Y} In spelled read field f Seen other back forth = record {
  takes = λ bytes y rest fits e.
      let s = bind_some (read bytes) (λ x. Some (f x.0, x.1)) (y, rest) e in
      let t = field.takes bytes s.0.0 s.0.1 fits s.1 in
      let b = back s.0.0 t.0 in
      let made : Y × List ℕ = (f s.0.0, s.0.1) in
      let whole : bytes ≡ other (f s.0.0) ++ s.0.1 =
      t.1 ∙ ap (λ (w : List ℕ). w ++ s.0.1) (sym b.1) in
      subst (λ (q : Y × List ℕ). Seen q.0 × (bytes ≡ other q.0 ++ q.1)) (some_is made (y, rest) s.2)
      (b.0, whole);
  again = λ y rest h.
      let x = forth y h in
      ap (λ (w : List ℕ). seen_as f read (w ++ rest)) x.3
      ∙ rw (field.again x.0 rest x.1) (ap (λ (v : Y). Some (v, rest)) x.2);
}

-- a field that passes a test
pub that_field : {X : Type 0} (In : X → Type 0) (spelled : X → List ℕ) (read : Reader X)
    → IsField In spelled read
    → (test : X → Bool) → IsField (λ x. In x × (test x ≡ true)) spelled (that test read)
that_field {X} In spelled read field test = record {
  takes = λ bytes y rest fits e.
      let s = bind_some (read bytes) (λ x. cond (test x.0) (Some x) None) (y, rest) e in
      let g = guard_some (test s.0.0) s.0 (y, rest) s.2 in
      let t = field.takes bytes s.0.0 s.0.1 fits s.1 in
      subst (λ (q : X × List ℕ). (In q.0 × (test q.0 ≡ true)) × (bytes ≡ spelled q.0 ++ q.1)) g.1
      ((t.0, g.0), t.1);
  again = λ x rest h. rw (field.again x rest h.0, h.1) refl;
}

-- a field that is all of the bytes
pub whole_takes : {X : Type 0} (In : X → Type 0) (spelled : X → List ℕ) (read : Reader X)
    → IsField In spelled read
    → (bytes : List ℕ) (x : X) → IsBytes bytes → whole read bytes ≡ Some x
    → In x × (bytes ≡ spelled x)
whole_takes {X} In spelled read field bytes x fits e =
    let s = bind_some (read bytes) (λ y. cond (length y.1 == 0) (Some y.0) None) x e in
    let g = guard_some (length s.0.1 == 0) s.0.0 x s.2 in
    let t = field.takes bytes s.0.0 s.0.1 fits s.1 in
    let nothing : s.0.1 ≡ [] = nil_from_length s.0.1 (eqb-true (length s.0.1) 0 g.0) in
    let all : bytes ≡ spelled s.0.0 =
    t.1 ∙ ap (λ (r : List ℕ). spelled s.0.0 ++ r) nothing ∙ append-nil (spelled s.0.0) in
    subst (λ (y : X). In y × (bytes ≡ spelled y)) g.1 (t.0, all)

pub whole_again : {X : Type 0} (In : X → Type 0) (spelled : X → List ℕ) (read : Reader X)
    → IsField In spelled read
    → (x : X) → In x → whole read (spelled x) ≡ Some x
whole_again {X} In spelled read field x h =
    let again : read (spelled x) ≡ Some (x, []) =
    ap read (sym (append-nil (spelled x))) ∙ field.again x [] h in
    rw again refl

-- ---- the first fields

pub front_field : (n : ℕ) → IsField (AreBytes n) (λ bytes. bytes) (front_at n)
front_field n = record {
  takes = λ bytes x rest fits e.
      let g = other_some (ltb (length bytes) n) (take n bytes, drop n bytes) (x, rest) e in
      let long : n ≤ length bytes = ltb-false _ _ g.0 in
      let len : length (take n bytes) ≡ n = omega (arith, length-take n bytes) in
      subst (λ (q : List ℕ × List ℕ). AreBytes n q.0 × (bytes ≡ q.0 ++ q.1)) g.1
      ((IsBytes-take n bytes fits, len), sym (take-append-drop n bytes));
  again = λ x rest h.
      let len = h.1 in
      let long : ltb (length (x ++ rest)) n ≡ false =
      le-ltb _ _ (omega (arith, length-append x rest)) in
      rw (long, take_at x rest n len, drop_at x rest n len) refl;
}

byte_takes : (bytes : List ℕ) (byte : ℕ) (rest : List ℕ) → IsBytes bytes
    → byte_at bytes ≡ Some (byte, rest) → (byte < 256) × (bytes ≡ byte ∷ rest)
byte_takes [] byte rest fits e = absurd cc
byte_takes (first ∷ others) byte rest fits e =
    subst (λ (q : ℕ × List ℕ). (q.0 < 256) × (first ∷ others ≡ q.0 ∷ q.1))
    (some_is (first, others) (byte, rest) e) (fits 0, refl)

pub byte_field : IsField (λ byte. byte < 256) (λ byte. byte ∷ []) byte_at
byte_field = record {
  takes = byte_takes;
  again = λ byte rest h. refl;
}

flag_takes : (bytes : List ℕ) (f : Bool) (rest : List ℕ) → IsBytes bytes
    → flag_at bytes ≡ Some (f, rest) → Unit {0} × (bytes ≡ flag f ++ rest)
flag_takes [] f rest fits e = absurd cc
flag_takes (zero ∷ others) f rest fits e =
    subst (λ (q : Bool × List ℕ). Unit {0} × (0 ∷ others ≡ flag q.0 ++ q.1))
    (some_is (false, others) (f, rest) e) (tt, refl)
flag_takes (suc zero ∷ others) f rest fits e =
    subst (λ (q : Bool × List ℕ). Unit {0} × (1 ∷ others ≡ flag q.0 ++ q.1))
    (some_is (true, others) (f, rest) e) (tt, refl)
flag_takes (suc (suc byte) ∷ others) f rest fits e = absurd cc

flag_again : (f : Bool) (rest : List ℕ) → Unit {0} → flag_at (flag f ++ rest) ≡ Some (f, rest)
flag_again true rest h = refl
flag_again false rest h = refl

pub flag_field : IsField (λ (f : Bool). Unit {0}) flag flag_at
flag_field = record {
  takes = flag_takes;
  again = flag_again;
}

-- a byte that gives a length, and this number of bytes
pub counted_field : IsField (λ bytes. IsBytes bytes × (length bytes < 256)) counted_bytes counted_at
unfolding counted_at
counted_field = record {
  takes = λ bytes x rest fits e.
      let s = bind_some (byte_at bytes) (λ n. front_at n.0 n.1) (x, rest) e in
      let one = byte_field.takes bytes s.0.0 s.0.1 fits s.1 in
      let after : IsBytes s.0.1 = IsBytes-after (s.0.0 ∷ []) s.0.1 (subst IsBytes one.1 fits) in
      let two = (front_field s.0.0).takes s.0.1 x rest after s.2 in
      let len : s.0.0 ≡ length x = sym two.0.1 in
      let small : length x < 256 = subst (λ (n : ℕ). n < 256) len one.0 in (
        (two.0.0, small),
        one.1 ∙ ap (λ (r : List ℕ). s.0.0 ∷ r) two.1
            ∙ ap (λ (n : ℕ). n ∷ (x ++ rest)) len,
      );
  again = λ x rest h. (front_field (length x)).again x rest (h.0, refl);
}

optional_takes : {X : Type 0} (In : X → Type 0) (spelled : X → List ℕ) (read : Reader X)
    → IsField In spelled read
    → (bytes : List ℕ) (o : Option X) (rest : List ℕ) → IsBytes bytes
    → optional_at read bytes ≡ Some (o, rest) → IfSome o In × (bytes ≡ optional spelled o ++ rest)
optional_takes In spelled read field [] o rest fits e = absurd cc
optional_takes {X} In spelled read field (zero ∷ others) o rest fits e =
    subst (λ (q : Option X × List ℕ). IfSome q.0 In × (0 ∷ others ≡ optional spelled q.0 ++ q.1))
    (some_is (None, others) (o, rest) e) (tt, refl)
optional_takes {X} In spelled read field (suc zero ∷ others) o rest fits e =
    let s = bind_some (read others) (λ x. Some (Some x.0, x.1)) (o, rest) e in
    let t = field.takes others s.0.0 s.0.1 (λ i. fits (suc i)) s.1 in
    let made : Option X × List ℕ = (Some s.0.0, s.0.1) in
    subst (λ (q : Option X × List ℕ). IfSome q.0 In × (1 ∷ others ≡ optional spelled q.0 ++ q.1))
    (some_is made (o, rest) s.2) (t.0, ap (λ (r : List ℕ). 1 ∷ r) t.1)
optional_takes In spelled read field (suc (suc byte) ∷ others) o rest fits e = absurd cc

optional_again : {X : Type 0} (In : X → Type 0) (spelled : X → List ℕ) (read : Reader X)
    → IsField In spelled read
    → (o : Option X) (rest : List ℕ) → IfSome o In
    → optional_at read (optional spelled o ++ rest) ≡ Some (o, rest)
optional_again In spelled read field None rest h = refl
optional_again In spelled read field (Some x) rest h = rw (field.again x rest h) refl

-- a flag and, after a 1, the field
pub optional_field : {X : Type 0} (In : X → Type 0) (spelled : X → List ℕ) (read : Reader X)
    → IsField In spelled read
    → IsField (λ o. IfSome o In) (optional spelled) (optional_at read)
optional_field In spelled read field = record {
  takes = optional_takes In spelled read field;
  again = optional_again In spelled read field;
}
