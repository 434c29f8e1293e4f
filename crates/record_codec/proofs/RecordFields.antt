-- Each field of a record is read as it is written.
use Rattle.std.proofs.Common.{◌≡◌, ℕ, zero, suc, ◌^◌, ◌<◌, ◌≤◌, ◌&&◌, Bool, true, false, List, [], ◌∷◌, ◌++◌, Option, Some, None, refl, sym, ap, subst, ◌∙◌, arith, inl, inr, nat_le, ltb}
use Rattle.std.specs.Prelude.{IfSome, option_map, unwrap_or}
use Rattle.std.specs.Option.{option_map_or}
use Rattle.std.specs.Int.{Width, w16, w32, w64, to_be_bytes}
use Rattle.std.proofs.lemmas.Bool.{and_from, and_parts, both_ways, cases_Bool, cond-true, cond-false, eqb-true, le-leb, leb-true, lt-ltb, ltb-true}
use Rattle.lw_types.specs.declared.key.Key.{Key}
use Rattle.lw_types.specs.Hex.{IsBytes}
use Rattle.byte_fields.specs.Field.{IsField}
use Rattle.byte_fields.specs.Reading.{Reader, both, seen_as, that, be_at, flag_at, key_at, three_be_bytes_at}
use Rattle.byte_fields.specs.Spelling.{flag}
use Rattle.byte_fields.proofs.FieldLemmas.{bind_some, same_field, both_field, seen_field, some_is, that_field, flag_field}
use Rattle.byte_fields.proofs.NumberLemmas.{Below, key_field, three_be_bytes_field, u16_be_field, u32_be_field, u64_be_field}
use Rattle.devices.specs.declared.Tag.{Tag}
use Rattle.devices.specs.declared.activation.Session.{Session}
use Rattle.devices.specs.declared.activation.CurrentSession.{CurrentSession}
use Rattle.devices.specs.declared.channels.Channels.{Channels}
use Rattle.devices.specs.declared.channels.Channels.TheVariants.{Three, Eight}
use Rattle.devices.specs.Activation.{Grants, AreInOrder, current_nonce}
use Rattle.lw_types.specs.Values.{IsKey}
use Rattle.record_codec.specs.DeviceRecord.{nonce, flagged_number, dev_nonce, awaited_bytes, granted_bytes, session, current_session, channels_byte, optional_current, optional_session, activation, IsJoinNonce, IsSession, IsCurrentSession, AreGrants}
use Rattle.record_codec.specs.Reading.{flagged_value, is_plain, flagged_at, awaited_at, is_join_nonce, nonce_from, channels_at, optional_by, session_from, session_at, current_from, current_at, grants_from, are_in_order, activation_at}

-- the same field in other bytes that are the same
pub respelled_field : {X : Type 0} (In : X → Type 0) (spelled other : X → List ℕ) (read : Reader X) → IsField In spelled read → ((x : X) → other x ≡ spelled x) → IsField In other read
respelled_field In spelled other read field same = record {
  takes = λ bytes x rest fits e. let t = field.takes bytes x rest fits e in (t.0, t.1 ∙ ap (λ (w : List ℕ). w ++ rest) (sym (same x)));
  again = λ x rest h. ap (λ (w : List ℕ). read (w ++ rest)) (same x) ∙ field.again x rest h;
}

-- ---- a number after a flag

-- the flag and the number that were read
abbrev IsFlagged : ℕ → Bool × ℕ → Type 0
IsFlagged limit x = (Unit {0} × Below limit x.1) × (is_plain x ≡ true)

flagged_back : (w : Width) (limit : ℕ) (x : Bool × ℕ) → IsFlagged limit x → IfSome (flagged_value x) (Below limit) × (flagged_number w (flagged_value x) ≡ flag x.0 ++ to_be_bytes w x.1)
flagged_back w limit (true, n) h = (h.0.1, refl)
flagged_back w limit (false, n) h = let none : 0 ≡ n = sym (eqb-true n 0 h.1) in (tt, ap (λ (k : ℕ). 0 ∷ to_be_bytes w k) none)

flagged_forth : (w : Width) (limit : ℕ) → 0 < limit → (o : Option ℕ) → IfSome o (Below limit) → (x : Bool × ℕ) × IsFlagged limit x × (flagged_value x ≡ o) × (flagged_number w o ≡ flag x.0 ++ to_be_bytes w x.1)
flagged_forth w limit some None h = ((false, 0), ((tt, some), refl), refl, refl)
flagged_forth w limit some (Some n) h = ((true, n), ((tt, h), refl), refl, refl)

flagged_field : (w : Width) (limit : ℕ) → 0 < limit → IsField (Below limit) (to_be_bytes w) (be_at w) → IsField (λ o. IfSome o (Below limit)) (flagged_number w) (flagged_at w)
unfolding flagged_at
flagged_field w limit some field =
    seen_field (IsFlagged limit) (λ x. flag x.0 ++ to_be_bytes w x.1) (that is_plain (both flag_at (be_at w)))
    (that_field (λ (x : Bool × ℕ). Unit {0} × Below limit x.1) (λ x. flag x.0 ++ to_be_bytes w x.1) (both flag_at (be_at w))
    (both_field (λ (f : Bool). Unit {0}) flag flag_at (Below limit) (to_be_bytes w) (be_at w) flag_field field) is_plain)
    flagged_value (λ o. IfSome o (Below limit)) (flagged_number w) (flagged_back w limit) (flagged_forth w limit some)

pub dev_nonce_field : IsField (λ o. IfSome o (Below (2 ^ 16))) dev_nonce (flagged_at w16)
dev_nonce_field = flagged_field w16 (2 ^ 16) (omega arith) u16_be_field

abbrev IsTag : Option Tag → Type 0
IsTag o = IfSome o (λ tag. tag.0 < 2 ^ 32)

tag_back : (o : Option ℕ) → IfSome o (Below (2 ^ 32)) → IsTag (option_map (λ n. record { 0 = n }) o) × (awaited_bytes (option_map (λ n. record { 0 = n }) o) ≡ flagged_number w32 o)
tag_back None h = (tt, refl)
tag_back (Some n) h = (h, refl)

tag_forth : (o : Option Tag) → IsTag o → (n : Option ℕ) × IfSome n (Below (2 ^ 32)) × (option_map (λ k. record { 0 = k }) n ≡ o) × (awaited_bytes o ≡ flagged_number w32 n)
tag_forth None h = (None, tt, refl, refl)
tag_forth (Some tag) h = (Some tag.0, h, refl, refl)

pub awaited_field : IsField (λ o. IfSome o (λ tag. tag.0 < 2 ^ 32)) awaited_bytes awaited_at
awaited_field =
    seen_field (λ o. IfSome o (Below (2 ^ 32))) (flagged_number w32) (flagged_at w32) (flagged_field w32 (2 ^ 32) (omega arith) u32_be_field) (option_map (λ n. record { 0 = n })) IsTag awaited_bytes tag_back tag_forth

-- ---- sessions

nonce_test : (n : ℕ) → IsJoinNonce n → is_join_nonce n ≡ true
nonce_test n h = and_from (ltb 0 n) (ltb n (2 ^ 24)) (lt-ltb 0 n h.0) (lt-ltb n (2 ^ 24) h.1)

nonce_fact : (n : ℕ) → is_join_nonce n ≡ true → IsJoinNonce n
nonce_fact n h = let p = and_parts (ltb 0 n) (ltb n (2 ^ 24)) h in (ltb-true 0 n p.0, ltb-true n (2 ^ 24) p.1)

join_nonce_field : IsField IsJoinNonce nonce (that is_join_nonce three_be_bytes_at)
join_nonce_field =
    same_field (λ n. Below (2 ^ 24) n × (is_join_nonce n ≡ true)) IsJoinNonce nonce (that is_join_nonce three_be_bytes_at)
    (that_field (Below (2 ^ 24)) nonce three_be_bytes_at three_be_bytes_field is_join_nonce)
    (λ n h. nonce_fact n h.1)
    (λ n h. (h.1, nonce_test n h))

no_nonce : (n : ℕ) → n < 2 ^ 24 → is_join_nonce n ≡ false → 0 ≡ n
no_nonce zero lt other = refl
no_nonce (suc n) lt other = absurd (both_ways (is_join_nonce (suc n)) other (nonce_test (suc n) (omega arith, lt)))

granted_back : (n : ℕ) → n < 2 ^ 24 → IfSome (nonce_from n) IsJoinNonce × (granted_bytes (nonce_from n) ≡ nonce n)
granted_back n lt =
    elim (cases_Bool (is_join_nonce n)) [
      | inl is ↦ rw (cond-true (is_join_nonce n) (Some n) None is) (nonce_fact n is, refl)
      | inr other ↦
          let none : nonce_from n ≡ None = cond-false (is_join_nonce n) (Some n) None other in
          let zero-is : 0 ≡ n = no_nonce n lt other in
          rw none (tt, ap nonce zero-is)
    ]

granted_forth : (o : Option ℕ) → IfSome o IsJoinNonce → (n : ℕ) × Below (2 ^ 24) n × (nonce_from n ≡ o) × (granted_bytes o ≡ nonce n)
granted_forth None h = (0, omega arith, refl, refl)
granted_forth (Some n) h = (n, h.1, cond-true (is_join_nonce n) (Some n) None (nonce_test n h), refl)

pub granted_field : IsField (λ o. IfSome o IsJoinNonce) granted_bytes (seen_as nonce_from three_be_bytes_at)
granted_field = seen_field (Below (2 ^ 24)) nonce three_be_bytes_at three_be_bytes_field nonce_from (λ o. IfSome o IsJoinNonce) granted_bytes granted_back granted_forth

-- a session with these channels
abbrev IsSessionOn : Channels → Session → Type 0
IsSessionOn channels s = IsSession s × (s.channels ≡ channels)

session_field : (channels : Channels) → IsField (IsSessionOn channels) session (session_at channels)
unfolding session_at
session_field channels =
    seen_field (λ (x : ℕ × (Key × Key)). IsJoinNonce x.0 × (IsKey x.1.0 × IsKey x.1.1)) (λ x. nonce x.0 ++ (x.1.0.0 ++ x.1.1.0)) (both (that is_join_nonce three_be_bytes_at) (both key_at key_at))
    (both_field IsJoinNonce nonce (that is_join_nonce three_be_bytes_at) (λ (k : Key × Key). IsKey k.0 × IsKey k.1) (λ k. k.0.0 ++ k.1.0) (both key_at key_at) join_nonce_field
    (both_field IsKey (λ k. k.0) key_at IsKey (λ k. k.0) key_at key_field key_field))
    (session_from channels) (IsSessionOn channels) session
    (λ x h. ((record { join_nonce = h.0; nwk_skey = h.1.0; app_skey = h.1.1 }, refl), refl))
    (λ s h. (
      (s.join_nonce, (s.nwk_skey, s.app_skey)),
      (h.0.join_nonce, (h.0.nwk_skey, h.0.app_skey)),
      ap (λ (given : Channels). record s { channels = given }) (sym h.1),
      refl,
    ))

abbrev pub IsAtMost : ℕ → ℕ → Type 0
IsAtMost most n = n ≤ most

-- a number of eight bytes that has a maximum
pub at_most_field : (most : ℕ) → most < 2 ^ 64 → IsField (IsAtMost most) (to_be_bytes w64) (that (λ n. nat_le n most) (be_at w64))
at_most_field most small =
    same_field (λ n. Below (2 ^ 64) n × (nat_le n most ≡ true)) (IsAtMost most) (to_be_bytes w64) (that (λ n. nat_le n most) (be_at w64))
    (that_field (Below (2 ^ 64)) (to_be_bytes w64) (be_at w64) u64_be_field (λ n. nat_le n most))
    (λ n h. leb-true n most h.1)
    (λ n h. (omega arith, le-leb n most h))

abbrev pub IsNextDown : ℕ → Type 0
IsNextDown n = n ≤ 2 ^ 32

pub next_down_field : IsField IsNextDown (to_be_bytes w64) (that (λ n. nat_le n (2 ^ 32)) (be_at w64))
next_down_field = at_most_field (2 ^ 32) (omega arith)

-- a session in use with these channels
abbrev IsCurrentOn : Channels → CurrentSession → Type 0
IsCurrentOn channels c = IsCurrentSession c × (c.session.channels ≡ channels)

current_field : (channels : Channels) → IsField (IsCurrentOn channels) current_session (current_at channels)
unfolding current_at
current_field channels =
    seen_field (λ (x : Session × (ℕ × ℕ)). IsSessionOn channels x.0 × (Below (2 ^ 32) x.1.0 × IsNextDown x.1.1)) (λ x. session x.0 ++ (to_be_bytes w32 x.1.0 ++ to_be_bytes w64 x.1.1))
    (both (session_at channels) (both (be_at w32) (that (λ n. nat_le n (2 ^ 32)) (be_at w64))))
    (both_field (IsSessionOn channels) session (session_at channels) (λ (x : ℕ × ℕ). Below (2 ^ 32) x.0 × IsNextDown x.1) (λ x. to_be_bytes w32 x.0 ++ to_be_bytes w64 x.1) (both (be_at w32) (that (λ n. nat_le n (2 ^ 32)) (be_at w64))) (session_field channels)
    (both_field (Below (2 ^ 32)) (to_be_bytes w32) (be_at w32) IsNextDown (to_be_bytes w64) (that (λ n. nat_le n (2 ^ 32)) (be_at w64)) u32_be_field next_down_field))
    current_from (IsCurrentOn channels) current_session
    (λ x h. ((record { session = h.0.0; last_up = h.1.0; next_down = h.1.1 }, h.0.1), refl))
    (λ c h. ((c.session, (c.last_up, c.next_down)), ((h.0.session, h.1), (h.0.last_up, h.0.next_down)), refl, refl))

-- ---- the channels, and after them a session

-- 00, or the channels of what exists and its bytes
abbrev spelled_by : {X : Type 0} → (X → Channels) → (X → List ℕ) → Option X → List ℕ
spelled_by channels spelled None = 0 ∷ []
spelled_by channels spelled (Some x) = channels_byte (channels x) ∷ spelled x

-- what exists is read by its channels
abbrev AreFields : {X : Type 0} → (X → Type 0) → (X → Channels) → (X → List ℕ) → (Channels → Reader X) → Type 0
AreFields In channels spelled read = (given : Channels) → IsField (λ x. In x × (channels x ≡ given)) spelled (read given)

by_takes : {X : Type 0} (In : X → Type 0) (channels : X → Channels) (spelled : X → List ℕ) (read : Channels → Reader X) → AreFields In channels spelled read
    → (given : Channels) (others : List ℕ) (o : Option X) (rest : List ℕ) → IsBytes others → seen_as Some (read given) others ≡ Some (o, rest)
    → IfSome o In × (channels_byte given ∷ others ≡ spelled_by channels spelled o ++ rest)
by_takes {X} In channels spelled read fields given others o rest fits e =
    let s = bind_some (read given others) (λ x. Some (Some x.0, x.1)) (o, rest) e in
    let t = (fields given).takes others s.0.0 s.0.1 fits s.1 in
    let made : Option X × List ℕ = (Some s.0.0, s.0.1) in
    let whole : channels_byte given ∷ others ≡ channels_byte (channels s.0.0) ∷ (spelled s.0.0 ++ s.0.1) =
    ap (λ (c : Channels). channels_byte c ∷ others) (sym t.0.1) ∙ ap (λ (r : List ℕ). channels_byte (channels s.0.0) ∷ r) t.1 in
    subst (λ (q : Option X × List ℕ). IfSome q.0 In × (channels_byte given ∷ others ≡ spelled_by channels spelled q.0 ++ q.1)) (some_is made (o, rest) s.2) (t.0.0, whole)

optional_by_takes : {X : Type 0} (In : X → Type 0) (channels : X → Channels) (spelled : X → List ℕ) (read : Channels → Reader X) → AreFields In channels spelled read
    → (bytes : List ℕ) (o : Option X) (rest : List ℕ) → IsBytes bytes → optional_by read bytes ≡ Some (o, rest) → IfSome o In × (bytes ≡ spelled_by channels spelled o ++ rest)
optional_by_takes In channels spelled read fields [] o rest fits e = absurd cc
optional_by_takes {X} In channels spelled read fields (zero ∷ others) o rest fits e =
    subst (λ (q : Option X × List ℕ). IfSome q.0 In × (0 ∷ others ≡ spelled_by channels spelled q.0 ++ q.1)) (some_is (None, others) (o, rest) e) (tt, refl)
optional_by_takes In channels spelled read fields (suc zero ∷ others) o rest fits e = by_takes In channels spelled read fields Three others o rest (λ i. fits (suc i)) e
optional_by_takes In channels spelled read fields (suc (suc zero) ∷ others) o rest fits e = by_takes In channels spelled read fields Eight others o rest (λ i. fits (suc i)) e
optional_by_takes In channels spelled read fields (suc (suc (suc byte)) ∷ others) o rest fits e = absurd cc

channels_again : (given : Channels) (bytes : List ℕ) → channels_at (channels_byte given ∷ bytes) ≡ Some (Some given, bytes)
channels_again Three bytes = refl
channels_again Eight bytes = refl

optional_by_again : {X : Type 0} (In : X → Type 0) (channels : X → Channels) (spelled : X → List ℕ) (read : Channels → Reader X) → AreFields In channels spelled read
    → (o : Option X) (rest : List ℕ) → IfSome o In → optional_by read (spelled_by channels spelled o ++ rest) ≡ Some (o, rest)
optional_by_again In channels spelled read fields None rest h = refl
optional_by_again In channels spelled read fields (Some x) rest h =
    rw (channels_again (channels x) (spelled x ++ rest), (fields (channels x)).again x rest (h, refl)) refl

optional_by_field : {X : Type 0} (In : X → Type 0) (channels : X → Channels) (spelled : X → List ℕ) (read : Channels → Reader X) → AreFields In channels spelled read
    → IsField (λ o. IfSome o In) (spelled_by channels spelled) (optional_by read)
optional_by_field In channels spelled read fields = record {
  takes = optional_by_takes In channels spelled read fields;
  again = optional_by_again In channels spelled read fields;
}

spelled_current : (o : Option CurrentSession) → optional_current o ≡ spelled_by (λ c. c.session.channels) current_session o
spelled_current None = refl
spelled_current (Some c) = refl

spelled_session : (o : Option Session) → optional_session o ≡ spelled_by (λ s. s.channels) session o
spelled_session None = refl
spelled_session (Some s) = refl

pub optional_current_field : IsField (λ o. IfSome o IsCurrentSession) optional_current (optional_by current_at)
optional_current_field =
    respelled_field (λ o. IfSome o IsCurrentSession) (spelled_by (λ c. c.session.channels) current_session) optional_current (optional_by current_at)
    (optional_by_field IsCurrentSession (λ c. c.session.channels) current_session current_at current_field) spelled_current

pub optional_session_field : IsField (λ o. IfSome o IsSession) optional_session (optional_by session_at)
optional_session_field =
    respelled_field (λ o. IfSome o IsSession) (spelled_by (λ s. s.channels) session) optional_session (optional_by session_at)
    (optional_by_field IsSession (λ s. s.channels) session session_at session_field) spelled_session

abbrev pending_passed : Grants → Option Session → Bool
pending_passed g pending = option_map_or (λ s. nat_le s.join_nonce (unwrap_or g.granted 0) && ltb (current_nonce g.current) s.join_nonce) pending true

abbrev pending_test : Grants → Bool
pending_test g = pending_passed g g.pending

pending_fact : (g : Grants) (pending : Option Session) → pending_passed g pending ≡ true → IfSome pending (λ s. s.join_nonce ≤ unwrap_or g.granted 0) × IfSome pending (λ s. current_nonce g.current < s.join_nonce)
pending_fact g None h = (tt, tt)
pending_fact g (Some s) h =
    let p = and_parts (nat_le s.join_nonce (unwrap_or g.granted 0)) (ltb (current_nonce g.current) s.join_nonce) h in
    (leb-true _ _ p.0, ltb-true _ _ p.1)

pending_passes : (g : Grants) (pending : Option Session) → IfSome pending (λ s. s.join_nonce ≤ unwrap_or g.granted 0) → IfSome pending (λ s. current_nonce g.current < s.join_nonce) → pending_passed g pending ≡ true
pending_passes g None low high = refl
pending_passes g (Some s) low high = and_from (nat_le s.join_nonce (unwrap_or g.granted 0)) (ltb (current_nonce g.current) s.join_nonce) (le-leb _ _ low) (lt-ltb _ _ high)

order_fact : (g : Grants) → are_in_order g ≡ true → AreInOrder g
order_fact g h =
    let p = and_parts (nat_le (current_nonce g.current) (unwrap_or g.granted 0)) (pending_test g) h in
    let q = pending_fact g g.pending p.1 in
    record { current = leb-true _ _ p.0; pending = q.0; later = q.1 }

order_test : (g : Grants) → AreInOrder g → are_in_order g ≡ true
order_test g h =
    and_from (nat_le (current_nonce g.current) (unwrap_or g.granted 0)) (pending_test g) (le-leb _ _ h.current) (pending_passes g g.pending h.pending h.later)

abbrev AreParts : Option ℕ × (Option CurrentSession × Option Session) → Type 0
AreParts x = IfSome x.0 IsJoinNonce × (IfSome x.1.0 IsCurrentSession × IfSome x.1.1 IsSession)

abbrev part_text : Option ℕ × (Option CurrentSession × Option Session) → List ℕ
part_text x = granted_bytes x.0 ++ (optional_current x.1.0 ++ optional_session x.1.1)

abbrev ArePartsOf : Grants → Type 0
ArePartsOf g = AreParts (g.granted, (g.current, g.pending))

pub activation_field : IsField AreGrants activation activation_at
unfolding activation_at
activation_field =
    same_field (λ g. ArePartsOf g × (are_in_order g ≡ true)) AreGrants activation (that are_in_order (seen_as grants_from (both (seen_as nonce_from three_be_bytes_at) (both (optional_by current_at) (optional_by session_at)))))
    (that_field ArePartsOf activation (seen_as grants_from (both (seen_as nonce_from three_be_bytes_at) (both (optional_by current_at) (optional_by session_at))))
    (seen_field AreParts part_text (both (seen_as nonce_from three_be_bytes_at) (both (optional_by current_at) (optional_by session_at)))
    (both_field (λ o. IfSome o IsJoinNonce) granted_bytes (seen_as nonce_from three_be_bytes_at) (λ (x : Option CurrentSession × Option Session). IfSome x.0 IsCurrentSession × IfSome x.1 IsSession) (λ x. optional_current x.0 ++ optional_session x.1) (both (optional_by current_at) (optional_by session_at)) granted_field
    (both_field (λ o. IfSome o IsCurrentSession) optional_current (optional_by current_at) (λ o. IfSome o IsSession) optional_session (optional_by session_at)
    optional_current_field optional_session_field))
    grants_from ArePartsOf activation
    (λ x h. (h, refl))
    (λ g h. ((g.granted, (g.current, g.pending)), h, refl, refl)))
    are_in_order)
    (λ g h. record { granted = h.0.0; current = h.0.1.0; pending = h.0.1.1; in_order = order_fact g h.1 })
    (λ g h. ((h.granted, (h.current, h.pending)), order_test g h.in_order))
