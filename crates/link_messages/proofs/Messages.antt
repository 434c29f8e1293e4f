-- A message is read exactly as it is laid out.
use Rattle.std.proofs.Common.{◌≡◌, ℕ, ℤ, suc, ◌<◌, ◌≤◌, ◌==◌, ◌^◌, ◌&&◌, Bool, true, false, cond, List, [], ◌∷◌, ◌++◌, length, Option, Some, None, refl, sym, ap, subst, arith, inl, inr, FitsSigned, nat_le}
use Rattle.std.specs.Int.{w16, w32, w64, to_be_bytes, cast_signed, cast_unsigned}
use Rattle.std.specs.List.{list_all}
use Rattle.std.proofs.lemmas.Bool.{and_parts, and_from, eqb-true, eq-eqb, leb-true, le-leb}
use Rattle.std.proofs.lemmas.Int.{of_z-to_z, to_z-of_z}
use borrow.Author.Gap.{read_sfits}
use mir.ValLaws.{of_z_fits}
use Rattle.lw_types.specs.Hex.{IsBytes}
use Rattle.lw_types.specs.FrameCopy.{frame_copy}
use Rattle.lw_types.specs.declared.identifiers.Eui.{Eui}
use Rattle.lw_types.specs.declared.frame_copy.Reception.{Reception}
use Rattle.lw_types.specs.declared.frame_copy.FrameCopy.{FrameCopy}
use Rattle.byte_fields.specs.Field.{IsField}
use Rattle.byte_fields.proofs.FieldLemmas.{bind_some, some_is, chosen_some, guard_some, both_field, seen_field, whole_takes, whole_again, byte_field, IsBytes-after}
use Rattle.byte_fields.proofs.NumberLemmas.{Below, Between, IsEui, u16_be_field, u32_be_field, be_eui_field, ranged_field}
use Rattle.byte_fields.specs.Reading.{◌>>=◌, both, be_at, be_eui_at, byte_at, ranged_at, whole}
use Rattle.link_messages.specs.declared.message.Peer.{Peer}
use Rattle.link_messages.specs.declared.message.Peer.TheVariants.{Gateway, Application}
use Rattle.link_messages.specs.declared.message.Message.{Message}
use Rattle.link_messages.specs.declared.message.Message.TheVariants.{Greeting, Copy, Line}
use Rattle.link_messages.specs.declared.message.TheConstants.{GATEWAY_GREETING, UPLINK_COPY, APPLICATION_GREETING, REQUEST}
use Rattle.link_messages.specs.Message.{IsMessage, IsReception, IsSaying, MaySay, content_of}
use Rattle.link_messages.specs.MessageReading.{application_at, copy_at, copy_from, gateway_at, greeting_at, reception_at, reception_from, is_line_byte, line_at, message_at, signed_at}
use Rattle.link_messages.proofs.Lines.{line_takes, line_again}

guarded : {A : Type 0} (b : Bool) (x : Option A) (y : A) → cond b x None ≡ Some y → (b ≡ true) × (x ≡ Some y)
guarded true x y e = (refl, e)
guarded false x y e = absurd cc

abbrev eui_of : ℕ → Eui
eui_of n = record { 0 = n }

abbrev signed_bytes : ℤ → List ℕ
signed_bytes z = to_be_bytes w16 (cast_unsigned w16 z)

signed_field : IsField (FitsSigned w16) signed_bytes signed_at
signed_field = seen_field (Below (2 ^ 16)) (to_be_bytes w16) (be_at w16) u16_be_field (cast_signed w16) (FitsSigned w16) signed_bytes
    (λ n h. (read_sfits w16 n, ap (to_be_bytes w16) (of_z-to_z w16 n h)))
    (λ z h. (cast_unsigned w16 z, (of_z_fits w16 z h).fits, to_z-of_z w16 z h, refl))

abbrev Numbers : Type 0
Numbers = Eui × (ℕ × (ℕ × (ℤ × (ℤ × ℕ))))

abbrev AreNumbers : Numbers → Type 0
AreNumbers x =
    IsEui x.0 × (Below (2 ^ 32) x.1.0 × ((x.1.1.0 < 256) × (FitsSigned w16 x.1.1.1.0 × (FitsSigned w16 x.1.1.1.1.0 × Below (2 ^ 32) x.1.1.1.1.1))))

abbrev number_bytes : Numbers → List ℕ
number_bytes x =
    to_be_bytes w64 x.0.0 ++ (to_be_bytes w32 x.1.0 ++ ((x.1.1.0 ∷ []) ++ (signed_bytes x.1.1.1.0 ++ (signed_bytes x.1.1.1.1.0 ++ to_be_bytes w32 x.1.1.1.1.1))))

numbers_field : IsField AreNumbers number_bytes (both be_eui_at (both (be_at w32) (both byte_at (both signed_at (both signed_at (be_at w32))))))
numbers_field =
    both_field _ _ _ _ _ _ be_eui_field (both_field _ _ _ _ _ _ u32_be_field (both_field _ _ _ _ _ _ byte_field
    (both_field _ _ _ _ _ _ signed_field (both_field _ _ _ _ _ _ signed_field u32_be_field))))

abbrev IsHeard : Reception × ℕ → Type 0
IsHeard x = IsReception x.0 × (x.1 < 2 ^ 32)

abbrev heard_bytes : Reception × ℕ → List ℕ
heard_bytes x =
    to_be_bytes w64 x.0.gateway.0 ++ (to_be_bytes w32 x.0.frequency ++ (x.0.data_rate ∷ (signed_bytes x.0.snr ++ (signed_bytes x.0.rssi ++ to_be_bytes w32 x.1))))

heard_field : IsField IsHeard heard_bytes reception_at
unfolding reception_at
heard_field = seen_field AreNumbers number_bytes _ numbers_field reception_from IsHeard heard_bytes
    (λ x h. (((h.0, h.1.0, h.1.1.0, h.1.1.1.0, h.1.1.1.1.0), h.1.1.1.1.1), refl))
    (λ y h. ((y.0.gateway, (y.0.frequency, (y.0.data_rate, (y.0.snr, (y.0.rssi, y.1))))), (h.0.0, (h.0.1, (h.0.2, (h.0.3, (h.0.4, h.1))))), refl, refl))

-- ---- greetings

gateway_takes : (fields : List ℕ) (m : Message) → IsBytes fields → gateway_at fields ≡ Some m → IsSaying None (GATEWAY_GREETING ∷ fields) m
gateway_takes fields m fits e =
    let s = bind_some (whole be_eui_at fields) (λ eui. Some (Greeting (Gateway eui))) m e in
    let t = whole_takes IsEui (λ eui. to_be_bytes w64 eui.0) be_eui_at be_eui_field fields s.0 fits s.1 in
    subst (IsSaying None (GATEWAY_GREETING ∷ fields)) (some_is (Greeting (Gateway s.0)) m s.2) (t.0, tt, ap (λ (bytes : List ℕ). GATEWAY_GREETING ∷ bytes) t.1)

application_takes : (fields : List ℕ) (m : Message) → IsBytes fields → application_at fields ≡ Some m → IsSaying None (APPLICATION_GREETING ∷ fields) m
application_takes fields m fits e =
    let s = bind_some (whole (ranged_at 0 15) fields) (λ n. Some (Greeting (Application n))) m e in
    let t = whole_takes (Between 0 15) (λ n. n ∷ []) (ranged_at 0 15) (ranged_field 0 15 (omega arith)) fields s.0 fits s.1 in
    subst (IsSaying None (APPLICATION_GREETING ∷ fields)) (some_is (Greeting (Application s.0)) m s.2) (t.0.1, tt, ap (λ (bytes : List ℕ). APPLICATION_GREETING ∷ bytes) t.1)

greeting_takes : (kind : ℕ) (fields : List ℕ) (m : Message) → IsBytes fields → greeting_at kind fields ≡ Some m → IsSaying None (kind ∷ fields) m
greeting_takes kind fields m fits e =
    elim (chosen_some (kind == GATEWAY_GREETING) (gateway_at fields) (cond (kind == APPLICATION_GREETING) (application_at fields) None) (Some m) e) [
      | inl h ↦ subst (λ (k : ℕ). IsSaying None (k ∷ fields) m) (sym (eqb-true kind GATEWAY_GREETING h.0)) (gateway_takes fields m fits h.1)
      | inr h ↦ let g = guarded (kind == APPLICATION_GREETING) (application_at fields) m h.1 in
          subst (λ (k : ℕ). IsSaying None (k ∷ fields) m) (sym (eqb-true kind APPLICATION_GREETING g.0)) (application_takes fields m fits g.1)
    ]

-- ---- copies and lines

copy_takes : (gateway : Eui) (fields : List ℕ) (m : Message) → IsBytes fields → copy_at gateway fields ≡ Some m → IsSaying (Some (Gateway gateway)) (UPLINK_COPY ∷ fields) m
copy_takes gateway fields m fits e =
    let s = bind_some (reception_at fields) (copy_from gateway) m e in
    let t = heard_field.takes fields s.0.0 s.0.1 fits s.1 in
    let reception = s.0.0.0 in
    let g = guard_some (reception.gateway.0 == gateway.0 && nat_le (length s.0.1) 255) (Copy (frame_copy reception s.0.0.1 s.0.1)) m s.2 in
    let tests = and_parts (reception.gateway.0 == gateway.0) (nat_le (length s.0.1) 255) g.0 in
    let same : reception.gateway ≡ gateway = ap (λ (n : ℕ). eui_of n) (eqb-true _ _ tests.0) in
    let phy : IsBytes s.0.1 = IsBytes-after (heard_bytes s.0.0) s.0.1 (subst IsBytes t.1 fits) in
    subst (IsSaying (Some (Gateway gateway)) (UPLINK_COPY ∷ fields)) g.1
    ((t.0.0, t.0.1, phy, leb-true (length s.0.1) 255 tests.1), same, ap (λ (bytes : List ℕ). UPLINK_COPY ∷ bytes) t.1)

line_at_takes : (application : ℕ) (fields : List ℕ) (m : Message) → line_at fields ≡ Some m → IsSaying (Some (Application application)) (REQUEST ∷ fields) m
line_at_takes application fields m e =
    let g = guard_some (list_all is_line_byte fields) (Line fields) m e in
    subst (IsSaying (Some (Application application)) (REQUEST ∷ fields)) g.1 (line_takes fields g.0, tt, refl)

IsBytes-tail : (byte : ℕ) (bytes : List ℕ) → IsBytes (byte ∷ bytes) → IsBytes bytes
IsBytes-tail byte bytes fits = λ i. fits (suc i)

-- ---- the law

pub message_takes : (peer : Option Peer) (content : List ℕ) (m : Message) → IsBytes content → message_at peer content ≡ Some m → IsSaying peer content m
unfolding message_at
message_takes None [] m fits e = absurd cc
message_takes (Some peer) [] m fits e = absurd cc
message_takes None (kind ∷ fields) m fits e = greeting_takes kind fields m (IsBytes-tail kind fields fits) e
message_takes (Some (Gateway gateway)) (kind ∷ fields) m fits e =
    let g = guarded (kind == UPLINK_COPY) (copy_at gateway fields) m e in
    subst (λ (k : ℕ). IsSaying (Some (Gateway gateway)) (k ∷ fields) m) (sym (eqb-true kind UPLINK_COPY g.0)) (copy_takes gateway fields m (IsBytes-tail kind fields fits) g.1)
message_takes (Some (Application application)) (kind ∷ fields) m fits e =
    let g = guarded (kind == REQUEST) (line_at fields) m e in
    subst (λ (k : ℕ). IsSaying (Some (Application application)) (k ∷ fields) m) (sym (eqb-true kind REQUEST g.0)) (line_at_takes application fields m g.1)

gateway_again : (gateway : Eui) → IsEui gateway → gateway_at (to_be_bytes w64 gateway.0) ≡ Some (Greeting (Gateway gateway))
gateway_again gateway h =
    ap (λ (o : Option Eui). o >>= λ eui. Some (Greeting (Gateway eui))) (whole_again IsEui (λ eui. to_be_bytes w64 eui.0) be_eui_at be_eui_field gateway h)

application_again : (n : ℕ) → n ≤ 15 → application_at (n ∷ []) ≡ Some (Greeting (Application n))
application_again n h = rw (whole_again (Between 0 15) (λ n. n ∷ []) (ranged_at 0 15) (ranged_field 0 15 (omega arith)) n (omega arith, h)) refl

copy_again : (gateway : Eui) (copy : FrameCopy) → IsMessage (Copy copy) → copy.reception.gateway ≡ gateway
    → copy_at gateway (heard_bytes (copy.reception, copy.stamp) ++ copy.phy_payload) ≡ Some (Copy copy)
copy_again gateway copy h same =
    let again = heard_field.again (copy.reception, copy.stamp) copy.phy_payload (h.0, h.1) in
    let tests : (copy.reception.gateway.0 == gateway.0 && nat_le (length copy.phy_payload) 255) ≡ true =
    and_from _ _ (eq-eqb _ _ (ap (λ (e : Eui). e.0) same)) (le-leb _ _ h.3) in
    rw (again, tests) refl

pub message_again : (peer : Option Peer) (m : Message) → IsMessage m → MaySay peer m → message_at peer (content_of m) ≡ Some m
unfolding message_at
message_again None (Greeting (Gateway gateway)) h may = gateway_again gateway h
message_again None (Greeting (Application n)) h may = application_again n h
message_again None (Copy copy) h may = absurd may
message_again None (Line line) h may = absurd may
message_again (Some (Gateway gateway)) (Greeting peer) h may = absurd may
message_again (Some (Gateway gateway)) (Copy copy) h may = copy_again gateway copy h may
message_again (Some (Gateway gateway)) (Line line) h may = absurd may
message_again (Some (Application a)) (Greeting peer) h may = absurd may
message_again (Some (Application a)) (Copy copy) h may = absurd may
message_again (Some (Application a)) (Line line) h may = rw (line_again line h) refl
