-- Reading one group after another.
use Rattle.std.proofs.Common.{◌≡◌, ℕ, ◌/◌, Bool, List, Option, Some, None, refl, sym, ap, ◌∙◌}
use Rattle.byte_fields.specs.Reading.{Reader, ◌>>=◌, byte_at}
use Rattle.devices.specs.declared.activation.CurrentSession.{CurrentSession}
use Rattle.record_codec.specs.Reading.{current_at, optional_by}
use Rattle.record_codec.specs.Change.{Groups}
use Rattle.record_codec.specs.ChangeReading.{GroupFields, change_at, counters_at, group_at, groups_at, groups_of, is_odd, next_group_at, nonces_at}
use Rattle.record_codec.specs.declared.version.RecordVersion.{RecordVersion}
use Rattle.record_codec.proofs.ChangeFields.{From3, read1, read2, read3}

-- what is read with a group in front
abbrev pub with_group : {X Y : Type 0} → X → Option (Y × List ℕ) → Option ((X × Y) × List ℕ)
with_group o read = read >>= λ y. Some ((o, y.0), y.1)

-- what is read, as a change
abbrev pub as_change : Option (GroupFields × List ℕ) → Option (Groups × List ℕ)
as_change read = read >>= λ x. Some (groups_of x.0, x.1)

-- after the mask
pub behind_mask : (v : RecordVersion) (bytes : List ℕ) (bits : ℕ) (rest : List ℕ) (read : Option (GroupFields × List ℕ)) → byte_at bytes ≡ Some (bits, rest) → groups_at v bits rest ≡ read
    → change_at v bytes ≡ as_change read
unfolding change_at
behind_mask v bytes bits rest read mask others = rw (mask, others) refl

-- after a group
pub behind_group : {X Y : Type 0} (field : Reader X) (others : ℕ → Reader Y) (bits more : ℕ) (is_there : Bool) (bytes : List ℕ) (o : Option X) (rest : List ℕ) (read : Option (Y × List ℕ))
    → is_there ≡ is_odd bits → more ≡ bits / 2 → group_at field is_there bytes ≡ Some (o, rest) → others more rest ≡ read → next_group_at field others bits bytes ≡ with_group o read
behind_group field others bits more is_there bytes o rest read value half here then =
    let first : group_at field (is_odd bits) bytes ≡ Some (o, rest) = ap (λ (f : Bool). group_at field f bytes) (sym value) ∙ here in
    let second : others (bits / 2) rest ≡ read = ap (λ (n : ℕ). others n rest) (sym half) ∙ then in
    rw (first, second) refl

-- no such group
pub no_group : {X Y : Type 0} (field : Reader X) (others : ℕ → Reader Y) (bits : ℕ) (is_there : Bool) (bytes : List ℕ) → is_there ≡ is_odd bits → group_at field is_there bytes ≡ None
    → next_group_at field others bits bytes ≡ None
no_group field others bits is_there bytes value none =
    let first : group_at field (is_odd bits) bytes ≡ None = ap (λ (f : Bool). group_at field f bytes) (sym value) ∙ none in
    rw first refl

abbrev pub change_with : Option (Option ℕ × Option ℕ) → Option (Option CurrentSession) → Option (ℕ × ℕ) → Option (From3 × List ℕ) → Option (Groups × List ℕ)
change_with nonces current counters read = read >>= λ y. Some (groups_of (nonces, (current, (counters, y.0))), y.1)

three : (nonces : Option (Option ℕ × Option ℕ)) (current : Option (Option CurrentSession)) (counters : Option (ℕ × ℕ)) (read : Option (From3 × List ℕ))
    → as_change (with_group nonces (with_group current (with_group counters read))) ≡ change_with nonces current counters read
three n current counters None = refl
three n current counters (Some y) = refl

-- after the mask and the first three groups
pub behind_three : (v : RecordVersion) (bytes r0 r1 r2 r3 : List ℕ) (b0 b1 b2 b3 : ℕ) (t0 t1 t2 : Bool) (nonces : Option (Option ℕ × Option ℕ)) (current : Option (Option CurrentSession)) (counters : Option (ℕ × ℕ)) (read : Option (From3 × List ℕ))
    → byte_at bytes ≡ Some (b0, r0)
    → t0 ≡ is_odd b0 → b1 ≡ b0 / 2 → group_at nonces_at t0 r0 ≡ Some (nonces, r1)
    → t1 ≡ is_odd b1 → b2 ≡ b1 / 2 → group_at (optional_by current_at) t1 r1 ≡ Some (current, r2)
    → t2 ≡ is_odd b2 → b3 ≡ b2 / 2 → group_at counters_at t2 r2 ≡ Some (counters, r3)
    → read3 v b3 r3 ≡ read → change_at v bytes ≡ change_with nonces current counters read
behind_three v bytes r0 r1 r2 r3 b0 b1 b2 b3 t0 t1 t2 nonces current counters read mask v0 h0 g0 v1 h1 g1 v2 h2 g2 then =
    let at2 = behind_group counters_at (read3 v) b2 b3 t2 r2 counters r3 read v2 h2 g2 then in
    let at1 = behind_group (optional_by current_at) (read2 v) b1 b2 t1 r1 current r2 _ v1 h1 g1 at2 in
    let at0 = behind_group nonces_at (read1 v) b0 b1 t0 r0 nonces r1 _ v0 h0 g0 at1 in
    behind_mask v bytes b0 r0 _ mask at0 ∙ three nonces current counters read
