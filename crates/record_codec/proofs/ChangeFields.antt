-- Each group of a change is read as it is written, and so is the change.
use Rattle.std.proofs.Common.{◌≡◌, ℕ, zero, suc, ◌+◌, ◌*◌, ◌/◌, ◌%◌, ◌^◌, ◌<◌, ◌==◌, Bool, true, false, List, [], ◌∷◌, ◌++◌, Option, Some, None, refl, sym, ap, subst, ◌∙◌, arith, nat_le}
use Rattle.std.specs.Prelude.{IfSome}
use Rattle.std.specs.Int.{w16, w32, w64, to_be_bytes}
use Rattle.std.proofs.lemmas.List.{append-nil}
use Rattle.lw_types.specs.Hex.{IsBytes}
use Rattle.byte_fields.specs.Field.{IsField}
use Rattle.byte_fields.specs.Reading.{Reader, seen_as, that, be_at, byte_at, optional_at}
use Rattle.byte_fields.specs.Spelling.{counted_bytes, optional}
use Rattle.byte_fields.proofs.FieldLemmas.{IsBytes-after, bind_some, both_field, byte_field, optional_field, same_field, seen_field, some_is, whole_again, whole_takes}
use Rattle.byte_fields.proofs.NumberLemmas.{Below, u32_be_field}
use Rattle.devices.specs.declared.Tag.{Tag}
use Rattle.devices.specs.declared.activation.Session.{Session}
use Rattle.devices.specs.declared.activation.CurrentSession.{CurrentSession}
use Rattle.devices.specs.declared.queue.Item.{Item}
use Rattle.record_codec.specs.DeviceRecord.{awaited_bytes, dev_nonce, granted_bytes, item, optional_current, optional_session, IsCurrentSession, IsItem, IsJoinNonce, IsSession}
use Rattle.record_codec.specs.declared.version.RecordVersion.{RecordVersion}
use Rattle.record_codec.specs.declared.version.RecordVersion.TheVariants.{V1, V2}
use Rattle.record_codec.specs.Change.{Added, Groups, ItemChange, Leaves, AreCounters, AreInRange, AreNonces, IsItemChange, MayGrow, growth, change_bytes, counters_bytes, group_bytes, item_change_bytes, mask, nonces_bytes, there}
use Rattle.record_codec.specs.Reading.{awaited_at, current_at, flagged_at, item_at, mac_queue_at, optional_by, session_at}
use Rattle.record_codec.specs.ChangeReading.{GroupFields, change_at, groups_of, change_read, counters_at, granted_at, group_at, groups_at, is_odd, item_change_at, item_change_of, last_bit_at, next_group_at, nonces_at}
use Rattle.record_codec.proofs.RecordFields.{IsNextDown, awaited_field, dev_nonce_field, granted_field, next_down_field, optional_current_field, optional_session_field, respelled_field}
use Rattle.record_codec.proofs.RecordLaws.{IsQueue, item_field, mac_queue_field}

-- ---- a mask, bit by bit

is_bit : (t : ℕ) → t < 2 → t ≡ growth (t == 1)
is_bit zero lt = refl
is_bit (suc zero) lt = refl
is_bit (suc (suc t)) lt = absurd (omega arith)

lowest_bit : (t n : ℕ) → t < 2 → n % 2 ≡ t → t ≡ growth (is_odd n)
lowest_bit t n lt e = is_bit t lt ∙ sym (ap (λ (k : ℕ). growth (k == 1)) e)

-- the lowest bit and those above it, put together and taken apart
joined : (t b n : ℕ) → t ≡ growth (is_odd n) → b ≡ n / 2 → t + 2 * b ≡ n
joined t b n low high =
    let lt : n % 2 < 2 = omega arith in
    let last : n % 2 ≡ growth (is_odd n) = lowest_bit (n % 2) n lt refl in
    let same : t ≡ n % 2 = low ∙ sym last in
    omega arith

parted : (t b n : ℕ) → t < 2 → t + 2 * b ≡ n → (t ≡ growth (is_odd n)) × (b ≡ n / 2)
parted t b n lt e =
    let last : n % 2 ≡ t = omega arith in
    let rest : b ≡ n / 2 = omega arith in
    (lowest_bit t n lt last, rest)

few_there : {X : Type 0} (o : Option X) → there o < 2
few_there None = omega arith
few_there (Some x) = omega arith

-- ---- a group by its bit

is_there : {X : Type 0} (In : X → Type 0) (spelled : X → List ℕ) (o : Option X) → IfSome o In × (there o ≡ 1) → (x : X) × In x × (Some x ≡ o) × (group_bytes spelled o ≡ spelled x)
is_there In spelled None h = absurd (let e : 0 ≡ 1 = h.1 in omega arith)
is_there In spelled (Some x) h = (x, h.0, refl, refl)

absent_again : {X : Type 0} (In : X → Type 0) (spelled : X → List ℕ) (field : Reader X) (o : Option X) (rest : List ℕ) → IfSome o In × (there o ≡ 0) → group_at field false (group_bytes spelled o ++ rest) ≡ Some (o, rest)
absent_again In spelled field None rest h = refl
absent_again In spelled field (Some x) rest h = absurd (let e : 1 ≡ 0 = h.1 in omega arith)

group_field : {X : Type 0} (In : X → Type 0) (spelled : X → List ℕ) (field : Reader X) → IsField In spelled field → (f : Bool)
    → IsField (λ o. IfSome o In × (there o ≡ growth f)) (group_bytes spelled) (group_at field f)
group_field In spelled field h true = seen_field In spelled field h Some (λ o. IfSome o In × (there o ≡ 1)) (group_bytes spelled) (λ x k. ((k, refl), refl)) (is_there In spelled)
group_field {X} In spelled field h false = record {
  takes = λ bytes o rest fits e.
      let made : Option X × List ℕ = (None, bytes) in
      subst (λ (q : Option X × List ℕ). (IfSome q.0 In × (there q.0 ≡ 0)) × (bytes ≡ group_bytes spelled q.0 ++ q.1)) (some_is made (o, rest) e) ((tt, refl), refl);
  again = absent_again In spelled field;
}

-- the group of the lowest bit, and the others
next_group_field : {X Y : Type 0} (In : X → Type 0) (spelled : X → List ℕ) (field : Reader X) (Others : Y → Type 0) (bits : Y → ℕ) (others_spelled : Y → List ℕ) (others : ℕ → Reader Y)
    → IsField In spelled field → ((n : ℕ) → IsField (λ y. Others y × (bits y ≡ n)) others_spelled (others n)) → (n : ℕ)
    → IsField (λ (p : Option X × Y). (IfSome p.0 In × Others p.1) × (there p.0 + 2 * bits p.1 ≡ n)) (λ p. group_bytes spelled p.0 ++ others_spelled p.1) (next_group_at field others n)
next_group_field {X} {Y} In spelled field Others bits others_spelled others first more n =
    same_field (λ (p : Option X × Y). (IfSome p.0 In × (there p.0 ≡ growth (is_odd n))) × (Others p.1 × (bits p.1 ≡ n / 2))) (λ p. (IfSome p.0 In × Others p.1) × (there p.0 + 2 * bits p.1 ≡ n))
    (λ p. group_bytes spelled p.0 ++ others_spelled p.1) (next_group_at field others n)
    (both_field (λ o. IfSome o In × (there o ≡ growth (is_odd n))) (group_bytes spelled) (group_at field (is_odd n)) (λ y. Others y × (bits y ≡ n / 2)) others_spelled (others (n / 2)) (group_field In spelled field first (is_odd n)) (more (n / 2)))
    (λ p h. ((h.0.0, h.1.0), joined (there p.0) (bits p.1) n h.0.1 h.1.1))
    (λ p h. let t = parted (there p.0) (bits p.1) n (few_there p.0) h.1 in ((h.0.0, t.0), (h.0.1, t.1)))

-- the bit that is left after the last group
last_bit_takes : (v : RecordVersion) (n : ℕ) (bytes : List ℕ) (grew : Bool) (rest : List ℕ) → last_bit_at v n bytes ≡ Some (grew, rest) → (MayGrow v grew × (growth grew ≡ n)) × (bytes ≡ rest)
last_bit_takes V1 zero bytes grew rest e = subst (λ (q : Bool × List ℕ). ((q.0 ≡ false) × (growth q.0 ≡ 0)) × (bytes ≡ q.1)) (some_is (false, bytes) (grew, rest) e) ((refl, refl), refl)
last_bit_takes V1 (suc n) bytes grew rest e = absurd cc
last_bit_takes V2 zero bytes grew rest e = subst (λ (q : Bool × List ℕ). (Unit {0} × (growth q.0 ≡ 0)) × (bytes ≡ q.1)) (some_is (false, bytes) (grew, rest) e) ((tt, refl), refl)
last_bit_takes V2 (suc zero) bytes grew rest e = subst (λ (q : Bool × List ℕ). (Unit {0} × (growth q.0 ≡ 1)) × (bytes ≡ q.1)) (some_is (true, bytes) (grew, rest) e) ((tt, refl), refl)
last_bit_takes V2 (suc (suc n)) bytes grew rest e = absurd cc

last_bit_again : (v : RecordVersion) (grew : Bool) (rest : List ℕ) → MayGrow v grew → last_bit_at v (growth grew) rest ≡ Some (grew, rest)
last_bit_again V1 false rest h = refl
last_bit_again V1 true rest h = absurd cc
last_bit_again V2 false rest h = refl
last_bit_again V2 true rest h = refl

last_bit_field : (v : RecordVersion) (n : ℕ) → IsField (λ grew. MayGrow v grew × (growth grew ≡ n)) (λ grew. []) (last_bit_at v n)
last_bit_field v n = record {
  takes = λ bytes grew rest fits e. last_bit_takes v n bytes grew rest e;
  again = λ grew rest h. subst (λ (k : ℕ). last_bit_at v k rest ≡ Some (grew, rest)) h.1 (last_bit_again v grew rest h.0);
}

-- the last group, and the bit after it
last_field : {X : Type 0} (In : X → Type 0) (spelled : X → List ℕ) (field : Reader X) → IsField In spelled field → (v : RecordVersion) (n : ℕ)
    → IsField (λ (p : Option X × Bool). (IfSome p.0 In × MayGrow v p.1) × (there p.0 + 2 * growth p.1 ≡ n)) (λ p. group_bytes spelled p.0) (next_group_at field (last_bit_at v) n)
last_field {X} In spelled field first v n =
    respelled_field (λ (p : Option X × Bool). (IfSome p.0 In × MayGrow v p.1) × (there p.0 + 2 * growth p.1 ≡ n)) (λ p. group_bytes spelled p.0 ++ []) (λ p. group_bytes spelled p.0) (next_group_at field (last_bit_at v) n)
    (next_group_field In spelled field (MayGrow v) growth (λ grew. []) (last_bit_at v) first (last_bit_field v) n)
    (λ p. sym (append-nil (group_bytes spelled p.0)))

-- ---- the groups

nonces_field : IsField AreNonces nonces_bytes nonces_at
nonces_field = both_field (λ o. IfSome o (Below (2 ^ 16))) dev_nonce (flagged_at w16) (λ o. IfSome o IsJoinNonce) granted_bytes granted_at dev_nonce_field granted_field

counters_field : IsField AreCounters counters_bytes counters_at
counters_field = both_field (Below (2 ^ 32)) (to_be_bytes w32) (be_at w32) IsNextDown (to_be_bytes w64) (that (λ n. nat_le n (2 ^ 32)) (be_at w64)) u32_be_field next_down_field

item_back : (o : Option Item) → IfSome o IsItem → IsItemChange (item_change_of o) × (item_change_bytes (item_change_of o) ≡ optional item o)
item_back None h = (tt, refl)
item_back (Some i) h = (h, refl)

item_forth : (c : ItemChange) → IsItemChange c → (o : Option Item) × IfSome o IsItem × (item_change_of o ≡ c) × (item_change_bytes c ≡ optional item o)
item_forth Leaves h = (None, tt, refl, refl)
item_forth (Added i) h = (Some i, h, refl, refl)

item_change_field : IsField IsItemChange item_change_bytes item_change_at
unfolding item_change_at
item_change_field = seen_field (λ o. IfSome o IsItem) (optional item) (optional_at item_at) (optional_field IsItem item item_at item_field) item_change_of IsItemChange item_change_bytes item_back item_forth

abbrev IsCurrent : Option CurrentSession → Type 0
IsCurrent o = IfSome o IsCurrentSession

abbrev IsPending : Option Session → Type 0
IsPending o = IfSome o IsSession

abbrev IsTag : Option Tag → Type 0
IsTag o = IfSome o (λ tag. tag.0 < 2 ^ 32)

-- from a group on
abbrev pub From6 : Type 0
From6 = Option ItemChange × Bool

abbrev pub From5 : Type 0
From5 = Option (List ℕ) × From6

abbrev pub From4 : Type 0
From4 = Option (Option Tag) × From5

abbrev pub From3 : Type 0
From3 = Option (Option Session) × From4

abbrev pub From2 : Type 0
From2 = Option (ℕ × ℕ) × From3

abbrev pub From1 : Type 0
From1 = Option (Option CurrentSession) × From2

abbrev In6 : RecordVersion → From6 → Type 0
In6 v p = IfSome p.0 IsItemChange × MayGrow v p.1

abbrev In5 : RecordVersion → From5 → Type 0
In5 v p = IfSome p.0 (IsQueue v) × In6 v p.1

abbrev In4 : RecordVersion → From4 → Type 0
In4 v p = IfSome p.0 IsTag × In5 v p.1

abbrev In3 : RecordVersion → From3 → Type 0
In3 v p = IfSome p.0 IsPending × In4 v p.1

abbrev In2 : RecordVersion → From2 → Type 0
In2 v p = IfSome p.0 AreCounters × In3 v p.1

abbrev In1 : RecordVersion → From1 → Type 0
In1 v p = IfSome p.0 IsCurrent × In2 v p.1

abbrev In0 : RecordVersion → GroupFields → Type 0
In0 v p = IfSome p.0 AreNonces × In1 v p.1

abbrev bits6 : From6 → ℕ
bits6 p = there p.0 + 2 * growth p.1

abbrev bits5 : From5 → ℕ
bits5 p = there p.0 + 2 * bits6 p.1

abbrev bits4 : From4 → ℕ
bits4 p = there p.0 + 2 * bits5 p.1

abbrev bits3 : From3 → ℕ
bits3 p = there p.0 + 2 * bits4 p.1

abbrev bits2 : From2 → ℕ
bits2 p = there p.0 + 2 * bits3 p.1

abbrev bits1 : From1 → ℕ
bits1 p = there p.0 + 2 * bits2 p.1

abbrev bits0 : GroupFields → ℕ
bits0 p = there p.0 + 2 * bits1 p.1

abbrev text6 : From6 → List ℕ
text6 p = group_bytes item_change_bytes p.0

abbrev text5 : From5 → List ℕ
text5 p = group_bytes counted_bytes p.0 ++ text6 p.1

abbrev text4 : From4 → List ℕ
text4 p = group_bytes awaited_bytes p.0 ++ text5 p.1

abbrev text3 : From3 → List ℕ
text3 p = group_bytes optional_session p.0 ++ text4 p.1

abbrev text2 : From2 → List ℕ
text2 p = group_bytes counters_bytes p.0 ++ text3 p.1

abbrev text1 : From1 → List ℕ
text1 p = group_bytes optional_current p.0 ++ text2 p.1

abbrev text0 : GroupFields → List ℕ
text0 p = group_bytes nonces_bytes p.0 ++ text1 p.1

abbrev pub read6 : RecordVersion → ℕ → Reader From6
read6 v = next_group_at item_change_at (last_bit_at v)

abbrev pub read5 : RecordVersion → ℕ → Reader From5
read5 v = next_group_at (mac_queue_at v) (read6 v)

abbrev pub read4 : RecordVersion → ℕ → Reader From4
read4 v = next_group_at awaited_at (read5 v)

abbrev pub read3 : RecordVersion → ℕ → Reader From3
read3 v = next_group_at (optional_by session_at) (read4 v)

abbrev pub read2 : RecordVersion → ℕ → Reader From2
read2 v = next_group_at counters_at (read3 v)

abbrev pub read1 : RecordVersion → ℕ → Reader From1
read1 v = next_group_at (optional_by current_at) (read2 v)

abbrev pub read0 : RecordVersion → ℕ → Reader GroupFields
read0 v = next_group_at nonces_at (read1 v)

field6 : (v : RecordVersion) (n : ℕ) → IsField (λ p. In6 v p × (bits6 p ≡ n)) text6 (read6 v n)
field6 v = last_field IsItemChange item_change_bytes item_change_at item_change_field v

field5 : (v : RecordVersion) (n : ℕ) → IsField (λ p. In5 v p × (bits5 p ≡ n)) text5 (read5 v n)
field5 v = next_group_field (IsQueue v) counted_bytes (mac_queue_at v) (In6 v) bits6 text6 (read6 v) (mac_queue_field v) (field6 v)

field4 : (v : RecordVersion) (n : ℕ) → IsField (λ p. In4 v p × (bits4 p ≡ n)) text4 (read4 v n)
field4 v = next_group_field IsTag awaited_bytes awaited_at (In5 v) bits5 text5 (read5 v) awaited_field (field5 v)

field3 : (v : RecordVersion) (n : ℕ) → IsField (λ p. In3 v p × (bits3 p ≡ n)) text3 (read3 v n)
field3 v = next_group_field IsPending optional_session (optional_by session_at) (In4 v) bits4 text4 (read4 v) optional_session_field (field4 v)

field2 : (v : RecordVersion) (n : ℕ) → IsField (λ p. In2 v p × (bits2 p ≡ n)) text2 (read2 v n)
field2 v = next_group_field AreCounters counters_bytes counters_at (In3 v) bits3 text3 (read3 v) counters_field (field3 v)

field1 : (v : RecordVersion) (n : ℕ) → IsField (λ p. In1 v p × (bits1 p ≡ n)) text1 (read1 v n)
field1 v = next_group_field IsCurrent optional_current (optional_by current_at) (In2 v) bits2 text2 (read2 v) optional_current_field (field2 v)

groups_field : (v : RecordVersion) (n : ℕ) → IsField (λ p. In0 v p × (bits0 p ≡ n)) text0 (groups_at v n)
groups_field v = next_group_field AreNonces nonces_bytes nonces_at (In1 v) bits1 text1 (read1 v) nonces_field (field1 v)

-- ---- the change

abbrev pub group_text : Groups → List ℕ
group_text c =
    group_bytes nonces_bytes c.nonces
    ++ (group_bytes optional_current c.current
    ++ (group_bytes counters_bytes c.counters
    ++ (group_bytes optional_session c.pending
    ++ (group_bytes awaited_bytes c.awaited
    ++ (group_bytes counted_bytes c.mac_queue
    ++ group_bytes item_change_bytes c.items)))))

groups_seen : (v : RecordVersion) (n : ℕ) → IsField (λ c. AreInRange v c × (mask c ≡ n)) group_text (seen_as groups_of (groups_at v n))
groups_seen v n =
    seen_field (λ p. In0 v p × (bits0 p ≡ n)) text0 (groups_at v n) (groups_field v n) groups_of (λ c. AreInRange v c × (mask c ≡ n)) group_text
    (λ x h. (
      (
        record {
          nonces = h.0.0;
          current = h.0.1.0;
          counters = h.0.1.1.0;
          pending = h.0.1.1.1.0;
          awaited = h.0.1.1.1.1.0;
          mac_queue = h.0.1.1.1.1.1.0;
          items = h.0.1.1.1.1.1.1.0;
          grew = h.0.1.1.1.1.1.1.1;
        },
        h.1,
      ),
      refl,
    ))
    (λ c h.
    let x : GroupFields = (c.nonces, (c.current, (c.counters, (c.pending, (c.awaited, (c.mac_queue, (c.items, c.grew))))))) in (
      x,
      ((h.0.nonces, (h.0.current, (h.0.counters, (h.0.pending, (h.0.awaited, (h.0.mac_queue, (h.0.items, h.0.grew))))))), h.1),
      refl,
      refl,
    ))

pub change_field : (v : RecordVersion) → IsField (AreInRange v) change_bytes (change_at v)
unfolding change_at change_bytes
change_field v = record {
  takes = λ bytes c rest fits e.
      let s = bind_some (byte_at bytes) (λ bits. seen_as groups_of (groups_at v bits.0) bits.1) (c, rest) e in
      let one = byte_field.takes bytes s.0.0 s.0.1 fits s.1 in
      let after : IsBytes s.0.1 = IsBytes-after (s.0.0 ∷ []) s.0.1 (subst IsBytes one.1 fits) in
      let t = (groups_seen v s.0.0).takes s.0.1 c rest after s.2 in
      (t.0.0, one.1 ∙ ap (λ (r : List ℕ). s.0.0 ∷ r) t.1 ∙ ap (λ (n : ℕ). n ∷ (group_text c ++ rest)) (sym t.0.1));
  again = λ c rest h. (groups_seen v (mask c)).again c rest (h, refl);
}

pub change_takes : (v : RecordVersion) (bytes : List ℕ) (c : Groups) → IsBytes bytes → change_read v bytes ≡ Some c → AreInRange v c × (bytes ≡ change_bytes c)
unfolding change_read
change_takes v bytes c fits e = whole_takes (AreInRange v) change_bytes (change_at v) (change_field v) bytes c fits e

pub change_again : (v : RecordVersion) (c : Groups) → AreInRange v c → change_read v (change_bytes c) ≡ Some c
unfolding change_read
change_again v c h = whole_again (AreInRange v) change_bytes (change_at v) (change_field v) c h

-- no two changes share their bytes
pub one_change : (v : RecordVersion) (a b : Groups) → AreInRange v a → AreInRange v b → change_bytes a ≡ change_bytes b → a ≡ b
one_change v a b ha hb e = some_is a b (sym (change_again v a ha) ∙ ap (change_read v) e ∙ change_again v b hb)
