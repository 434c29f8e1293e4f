-- A record that is read is the record that was written, and what was written is read again.
use Rattle.std.proofs.Common.{◌≡◌, ℕ, zero, suc, ◌^◌, ◌<◌, ◌≤◌, Bool, true, List, [], ◌∷◌, ◌++◌, length, Option, Some, Result, Ok, Err, refl, sym, ap, subst, ◌∙◌, append_assoc, arith, inl, inr, nat_le}
use Rattle.std.specs.Prelude.{IfErr, IfOk, IfSome, MatchResult, ◌⊎◌}
use Rattle.std.specs.Int.{w16, w32, w64, to_be_bytes}
use Rattle.std.specs.List.{flat_map, AllByRecursion}
use Rattle.std.proofs.lemmas.Bool.{le-leb, leb-true}
use Rattle.std.proofs.lemmas.List.Concat.{flat_map-cons}
use Rattle.lw_types.specs.Hex.{IsBytes}
use Rattle.lw_types.specs.declared.payload.TheConstants.{LONGEST_PAYLOAD}
use Rattle.lw_types.specs.declared.refusal.Refusal.{Refusal}
use Rattle.lw_types.specs.declared.refusal.Refusal.TheVariants.{OutOfMemory, Damaged}
use Rattle.byte_fields.specs.Field.{IsField}
use Rattle.byte_fields.specs.Reading.{◌>>=◌, both, be_at, be_eui_at, counted_at, flag_at, key_at, ranged_at}
use Rattle.byte_fields.specs.Spelling.{flag, counted_bytes}
use Rattle.byte_fields.proofs.FieldLemmas.{IsBytes-after, bind_some, both_field, counted_field, flag_field, same_field, seen_field, some_is, that_field, whole_again, whole_takes}
use Rattle.byte_fields.proofs.NumberLemmas.{Below, Between, IsEui, be_eui_field, key_field, ranged_field, u32_be_field}
use Rattle.mac_commands.specs.Queueable.{AreQueueable}
use Rattle.devices.specs.declared.Tag.{Tag}
use Rattle.devices.specs.declared.device.Device.{Device}
use Rattle.devices.specs.declared.queue.Item.{Item}
use Rattle.devices.specs.declared.TheConstants.{LAST_HEARD}
use Rattle.devices.specs.declared.queue.TheConstants.ItemQueue.{MOST as MOST_ITEMS}
use Rattle.lw_types.specs.Values.{IsKey}
use Rattle.record_codec.specs.Answers.{ReadsRecord}
use Rattle.record_codec.specs.DeviceRecord.{activation, awaited_bytes, dev_nonce, heard_bytes, item, item_queue, spelling, AreGrants, HeadIsInRange, IsDevice, IsHeardIn, IsItem}
use Rattle.record_codec.specs.Reading.{activation_at, awaited_at, device_at, device_from, flagged_at, head_at, heard_at, item_at, item_from, item_queue_at, items_at, mac_queue_at, payload_at, record_at, Fields, Head, IsNoRecord}
use Rattle.record_codec.specs.Version.{longest_mac_queue}
use Rattle.record_codec.specs.declared.version.RecordVersion.{RecordVersion}
use Rattle.record_codec.specs.declared.version.RecordVersion.TheVariants.{V1, V2}
use Rattle.record_codec.proofs.RecordFields.{activation_field, at_most_field, awaited_field, dev_nonce_field}

-- ---- queues

abbrev IsPayload : List ℕ → Type 0
IsPayload bytes = IsBytes bytes × (length bytes ≤ LONGEST_PAYLOAD)

abbrev pub IsCounted : List ℕ → Type 0
IsCounted bytes = IsBytes bytes × (length bytes < 256)

payload_field : IsField IsPayload counted_bytes payload_at
payload_field =
    same_field (λ bytes. IsCounted bytes × (nat_le (length bytes) LONGEST_PAYLOAD ≡ true)) IsPayload counted_bytes payload_at
    (that_field IsCounted counted_bytes counted_at counted_field (λ bytes. nat_le (length bytes) LONGEST_PAYLOAD))
    (λ bytes h. (h.0.0, leb-true (length bytes) LONGEST_PAYLOAD h.1))
    (λ bytes h. let le = h.1 in ((h.0, omega arith), le-leb (length bytes) LONGEST_PAYLOAD h.1))

-- the bytes of a queue, with any values
abbrev pub IsQueue : RecordVersion → List ℕ → Type 0
IsQueue v bytes = IsBytes bytes × (length bytes ≤ longest_mac_queue v)

short_queue : (v : RecordVersion) → longest_mac_queue v < 256
short_queue V1 = omega arith
short_queue V2 = omega arith

pub mac_queue_field : (v : RecordVersion) → IsField (IsQueue v) counted_bytes (mac_queue_at v)
mac_queue_field v =
    let most : longest_mac_queue v < 256 = short_queue v in
    same_field (λ bytes. IsCounted bytes × (nat_le (length bytes) (longest_mac_queue v) ≡ true)) (IsQueue v) counted_bytes (mac_queue_at v)
    (that_field IsCounted counted_bytes counted_at counted_field (λ bytes. nat_le (length bytes) (longest_mac_queue v)))
    (λ bytes h. (h.0.0, leb-true (length bytes) (longest_mac_queue v) h.1))
    (λ bytes h. let le = h.1 in ((h.0, omega arith), le-leb (length bytes) (longest_mac_queue v) h.1))

abbrev IsItemParts : ℕ × (ℕ × (Bool × List ℕ)) → Type 0
IsItemParts x = Below (2 ^ 32) x.0 × (Between 1 223 x.1.0 × (Unit {0} × IsPayload x.1.1.1))

abbrev item_text : ℕ × (ℕ × (Bool × List ℕ)) → List ℕ
item_text x = to_be_bytes w32 x.0 ++ (x.1.0 ∷ [] ++ (flag x.1.1.0 ++ counted_bytes x.1.1.1))

item_parts_field : IsField IsItemParts item_text (both (be_at w32) (both (ranged_at 1 223) (both flag_at payload_at)))
item_parts_field =
    both_field (Below (2 ^ 32)) (to_be_bytes w32) (be_at w32) (λ (x : ℕ × (Bool × List ℕ)). Between 1 223 x.0 × (Unit {0} × IsPayload x.1.1)) (λ x. x.0 ∷ [] ++ (flag x.1.0 ++ counted_bytes x.1.1)) (both (ranged_at 1 223) (both flag_at payload_at)) u32_be_field
    (both_field (Between 1 223) (λ n. n ∷ []) (ranged_at 1 223) (λ (x : Bool × List ℕ). Unit {0} × IsPayload x.1) (λ x. flag x.0 ++ counted_bytes x.1) (both flag_at payload_at) (ranged_field 1 223 (omega arith))
    (both_field (λ (f : Bool). Unit {0}) flag flag_at IsPayload counted_bytes payload_at flag_field payload_field))

pub item_field : IsField IsItem item item_at
unfolding item_at
item_field =
    seen_field IsItemParts item_text (both (be_at w32) (both (ranged_at 1 223) (both flag_at payload_at))) item_parts_field
    item_from IsItem item
    (λ x h. (record { tag = h.0; port = h.1.0; payload = h.1.1.1 }, refl))
    (λ i h. ((i.tag.0, (i.port, (i.confirmed, i.payload))), (h.tag, (h.port, (tt, h.payload))), refl, refl))

items_take : (n : ℕ) (bytes : List ℕ) (items : List Item) (rest : List ℕ) → IsBytes bytes → items_at n bytes ≡ Some (items, rest)
    → (length items ≡ n) × AllByRecursion IsItem items × (bytes ≡ flat_map item items ++ rest)
unfolding items_at
items_take zero bytes items rest fits e =
    subst (λ (q : List Item × List ℕ). (length q.0 ≡ 0) × AllByRecursion IsItem q.0 × (bytes ≡ flat_map item q.0 ++ q.1)) (some_is ([], bytes) (items, rest) e) (refl, tt, refl)
items_take (suc n) bytes items rest fits e =
    let s = bind_some (item_at bytes) (λ first. items_at n first.1 >>= λ others. Some (first.0 ∷ others.0, others.1)) (items, rest) e in
    let t = bind_some (items_at n s.0.1) (λ others. Some (s.0.0 ∷ others.0, others.1)) (items, rest) s.2 in
    let one = item_field.takes bytes s.0.0 s.0.1 fits s.1 in
    let after : IsBytes s.0.1 = IsBytes-after (item s.0.0) s.0.1 (subst IsBytes one.1 fits) in
    let more = items_take n s.0.1 t.0.0 t.0.1 after t.1 in
    let made : List Item × List ℕ = (s.0.0 ∷ t.0.0, t.0.1) in
    let whole : bytes ≡ flat_map item (s.0.0 ∷ t.0.0) ++ t.0.1 =
    one.1 ∙ ap (λ (r : List ℕ). item s.0.0 ++ r) more.2 ∙ sym (append_assoc (item s.0.0) (flat_map item t.0.0) t.0.1)
    ∙ ap (λ (w : List ℕ). w ++ t.0.1) (sym (flat_map-cons item s.0.0 t.0.0)) in
    subst (λ (q : List Item × List ℕ). (length q.0 ≡ suc n) × AllByRecursion IsItem q.0 × (bytes ≡ flat_map item q.0 ++ q.1)) (some_is made (items, rest) t.2) (ap suc more.0, (one.0, more.1), whole)

items_again : (items : List Item) (rest : List ℕ) → AllByRecursion IsItem items → items_at (length items) (flat_map item items ++ rest) ≡ Some (items, rest)
unfolding items_at
items_again [] rest h = refl
items_again (i ∷ items) rest h =
    let regrouped : flat_map item (i ∷ items) ++ rest ≡ item i ++ (flat_map item items ++ rest) =
    ap (λ (w : List ℕ). w ++ rest) (flat_map-cons item i items) ∙ append_assoc (item i) (flat_map item items) rest in
    ap (items_at (suc (length items))) regrouped ∙ rw (item_field.again i (flat_map item items ++ rest) h.0, items_again items rest h.1) refl

abbrev AreItems : List Item → Type 0
AreItems items = (length items ≤ MOST_ITEMS) × AllByRecursion IsItem items

item_queue_field : IsField AreItems item_queue item_queue_at
unfolding item_queue_at
item_queue_field = record {
  takes = λ bytes items rest fits e.
      let s = bind_some (ranged_at 0 MOST_ITEMS bytes) (λ n. items_at n.0 n.1) (items, rest) e in
      let one = (ranged_field 0 MOST_ITEMS (omega arith)).takes bytes s.0.0 s.0.1 fits s.1 in
      let after : IsBytes s.0.1 = IsBytes-after (s.0.0 ∷ []) s.0.1 (subst IsBytes one.1 fits) in
      let more = items_take s.0.0 s.0.1 items rest after s.2 in
      let few : length items ≤ MOST_ITEMS = subst (λ (n : ℕ). n ≤ MOST_ITEMS) (sym more.0) one.0.1 in
      ((few, more.1), one.1 ∙ ap (λ (r : List ℕ). s.0.0 ∷ r) more.2 ∙ ap (λ (n : ℕ). n ∷ (flat_map item items ++ rest)) (sym more.0));
  again = λ items rest h.
      let read = (ranged_field 0 MOST_ITEMS (omega arith)).again (length items) (flat_map item items ++ rest) (omega arith, h.0) in
      ap (λ (o : Option (ℕ × List ℕ)). o >>= λ n. items_at n.0 n.1) read ∙ items_again items rest h.1;
}

-- ---- the count of uplinks

heard_field : (v : RecordVersion) → IsField (IsHeardIn v) (heard_bytes v) (heard_at v)
heard_field V1 = record {
  takes = λ bytes n rest fits e. subst (λ (q : ℕ × List ℕ). (q.0 ≡ 0) × (bytes ≡ [] ++ q.1)) (some_is (0, bytes) (n, rest) e) (refl, refl);
  again = λ n rest none. ap (λ (k : ℕ). Some (k, rest)) (sym none);
}
heard_field V2 = at_most_field LAST_HEARD (omega arith)

-- ---- the record

abbrev IsHead : Head → Type 0
IsHead x = IsEui x.0 × (IsEui x.1.0 × (IsKey x.1.1.0 × (Between 0 15 x.1.1.1.0 × (Between 0 5 x.1.1.1.1.0 × Between 1 15 x.1.1.1.1.1))))

abbrev head_text : Head → List ℕ
head_text x = to_be_bytes w64 x.0.0 ++ (to_be_bytes w64 x.1.0.0 ++ (x.1.1.0.0 ++ (x.1.1.1.0 ∷ x.1.1.1.1.0 ∷ x.1.1.1.1.1 ∷ [])))

head_field : IsField IsHead head_text head_at
unfolding head_at
head_field =
    both_field IsEui (λ eui. to_be_bytes w64 eui.0) be_eui_at _ _ _ be_eui_field
    (both_field IsEui (λ eui. to_be_bytes w64 eui.0) be_eui_at _ _ _ be_eui_field
    (both_field IsKey (λ key. key.0) key_at _ _ _ key_field
    (both_field (Between 0 15) (λ n. n ∷ []) (ranged_at 0 15) _ _ _ (ranged_field 0 15 (omega arith))
    (both_field (Between 0 5) (λ n. n ∷ []) (ranged_at 0 5) (Between 1 15) (λ n. n ∷ []) (ranged_at 1 15) (ranged_field 0 5 (omega arith)) (ranged_field 1 15 (omega arith))))))

abbrev IsNonce : Option ℕ → Type 0
IsNonce o = IfSome o (Below (2 ^ 16))

abbrev IsTag : Option Tag → Type 0
IsTag o = IfSome o (λ tag. tag.0 < 2 ^ 32)

abbrev AreFields : RecordVersion → Fields → Type 0
AreFields v x = IsHead x.0 × (IsNonce x.1.0 × (AreGrants x.1.1.0 × (IsTag x.1.1.1.0 × (IsQueue v x.1.1.1.1.0 × (AreItems x.1.1.1.1.1.0 × IsHeardIn v x.1.1.1.1.1.1)))))

abbrev fields_text : RecordVersion → Fields → List ℕ
fields_text v x = head_text x.0 ++ (dev_nonce x.1.0 ++ (activation x.1.1.0 ++ (awaited_bytes x.1.1.1.0 ++ (counted_bytes x.1.1.1.1.0 ++ (item_queue x.1.1.1.1.1.0 ++ heard_bytes v x.1.1.1.1.1.1)))))

fields_field : (v : RecordVersion) → IsField (AreFields v) (fields_text v) (both head_at (both (flagged_at w16) (both activation_at (both awaited_at (both (mac_queue_at v) (both item_queue_at (heard_at v)))))))
fields_field v =
    both_field IsHead head_text head_at _ _ _ head_field
    (both_field IsNonce dev_nonce (flagged_at w16) _ _ _ dev_nonce_field
    (both_field AreGrants activation activation_at _ _ _ activation_field
    (both_field IsTag awaited_bytes awaited_at _ _ _ awaited_field
    (both_field (IsQueue v) counted_bytes (mac_queue_at v) _ _ _ (mac_queue_field v)
    (both_field AreItems item_queue item_queue_at (IsHeardIn v) (heard_bytes v) (heard_at v) item_queue_field (heard_field v))))))

-- a device, whatever commands wait for it
pub record IsInRange (v : RecordVersion) (d : Device) : Type 0 where
  pub head : HeadIsInRange d
  pub last_dev_nonce : IsNonce d.last_dev_nonce
  pub activation : AreGrants d.activation
  pub awaited : IsTag d.awaited
  pub mac_queue : IsQueue v d.mac_queue
  pub items : AreItems d.items
  pub heard : IsHeardIn v d.heard

pub device_field : (v : RecordVersion) → IsField (IsInRange v) (spelling v) (device_at v)
unfolding device_at spelling
device_field v =
    seen_field (AreFields v) (fields_text v) (both head_at (both (flagged_at w16) (both activation_at (both awaited_at (both (mac_queue_at v) (both item_queue_at (heard_at v))))))) (fields_field v)
    device_from (IsInRange v) (spelling v)
    (λ x h. (
      record {
        head = record {
          dev_eui = h.0.0;
          join_eui = h.0.1.0;
          app_key = h.0.1.1.0;
          application = h.0.1.1.1.0.1;
          rx1_offset = h.0.1.1.1.1.0.1;
          rx_delay = h.0.1.1.1.1.1;
        };
        last_dev_nonce = h.1.0;
        activation = h.1.1.0;
        awaited = h.1.1.1.0;
        mac_queue = h.1.1.1.1.0;
        items = h.1.1.1.1.1.0;
        heard = h.1.1.1.1.1.1;
      },
      refl,
    ))
    (λ d h. (
      ((d.dev_eui, (d.join_eui, (d.app_key, (d.application, (d.rx1_offset, d.rx_delay))))), (d.last_dev_nonce, (d.activation, (d.awaited, (d.mac_queue, (d.items, d.heard)))))),
      ((h.head.dev_eui, (h.head.join_eui, (h.head.app_key, ((omega arith, h.head.application), ((omega arith, h.head.rx1_offset), h.head.rx_delay))))), (h.last_dev_nonce, (h.activation, (h.awaited, (h.mac_queue, (h.items, h.heard)))))),
      refl,
      refl,
    ))

record_takes : (v : RecordVersion) (bytes : List ℕ) (d : Device) → IsBytes bytes → record_at v bytes ≡ Some d → IsInRange v d × (bytes ≡ spelling v d)
unfolding record_at
record_takes v bytes d fits e = whole_takes (IsInRange v) (spelling v) (device_at v) (device_field v) bytes d fits e

record_again : (v : RecordVersion) (d : Device) → IsInRange v d → record_at v (spelling v d) ≡ Some d
unfolding record_at
record_again v d h = whole_again (IsInRange v) (spelling v) (device_at v) (device_field v) d h

-- ---- what reading returns

in_range : (v : RecordVersion) (d : Device) → IsDevice v d → IsInRange v d
in_range v d h = record { head = h.head; last_dev_nonce = h.last_dev_nonce; activation = h.activation; awaited = h.awaited; mac_queue = (h.mac_queue.0, h.mac_queue.1); items = h.items; heard = h.heard }

is_device : (v : RecordVersion) (bytes : List ℕ) (d : Device) → IsBytes bytes → record_at v bytes ≡ Some d → AreQueueable d.mac_queue → IsDevice v d × (bytes ≡ spelling v d)
is_device v bytes d fits e whole =
    let t = record_takes v bytes d fits e in
    let h = t.0 in
    (record { head = h.head; last_dev_nonce = h.last_dev_nonce; activation = h.activation; awaited = h.awaited; mac_queue = (h.mac_queue.0, h.mac_queue.1, whole); items = h.items; heard = h.heard }, t.1)

-- the device that was read, unless memory ran out
abbrev Makes : Device → Result Device Refusal → Type 0
Makes d r = MatchResult r (λ made. made ≡ d) (λ e. e ≡ OutOfMemory)

is_found : (v : RecordVersion) (bytes : List ℕ) (d : Device) (r : Result Device Refusal) → IsDevice v d × (bytes ≡ spelling v d) → Makes d r → IfOk r (λ made. IsDevice v made × (bytes ≡ spelling v made))
is_found v bytes d (Ok made) h is = subst (λ (x : Device). IsDevice v x × (bytes ≡ spelling v x)) (sym is) h
is_found v bytes d (Err x) h is = tt

is_only : (v : RecordVersion) (bytes : List ℕ) (d : Device) (r : Result Device Refusal) (other : Device) → record_at v bytes ≡ Some d → Makes d r → IsDevice v other → bytes ≡ spelling v other → MatchResult r (λ made. made ≡ other) (λ e. e ≡ OutOfMemory)
is_only v bytes d (Ok made) other e is h spelled = is ∙ some_is d other (sym e ∙ ap (record_at v) spelled ∙ record_again v other (in_range v other h))
is_only v bytes d (Err x) other e is h spelled = is

is_refused : (d : Device) (r : Result Device Refusal) → Makes d r → IfErr r (λ e. (e ≡ OutOfMemory) ⊎ (e ≡ Damaged))
is_refused d (Ok made) is = tt
is_refused d (Err x) is = inl is

-- what is read from the bytes of a record
pub reads_record : (v : RecordVersion) (bytes : List ℕ) (d : Device) (r : Result Device Refusal) → IsBytes bytes → record_at v bytes ≡ Some d → AreQueueable d.mac_queue → Makes d r → ReadsRecord v bytes r
reads_record v bytes d r fits e whole is =
    let t = is_device v bytes d fits e whole in
    record {
      found = is_found v bytes d r t is;
      only = λ other h spelled. is_only v bytes d r other e is h spelled;
      refused = is_refused d r is;
      memory = λ out. (d, t.0, t.1);
    }

-- no record is read from other bytes
pub reads_none : (v : RecordVersion) (bytes : List ℕ) → IsNoRecord v bytes → ReadsRecord v bytes (Err Damaged)
reads_none v bytes none = record {
  found = tt;
  only = λ d h e. absurd (none d (ap (record_at v) e ∙ record_again v d (in_range v d h)) h.mac_queue.2);
  refused = inr refl;
  memory = λ out. absurd cc;
}

-- no two devices share a record
pub spelling_injective : (v : RecordVersion) (a b : Device) → IsDevice v a → IsDevice v b → spelling v a ≡ spelling v b → a ≡ b
spelling_injective v a b fits_a fits_b e = some_is a b (sym (record_again v a (in_range v a fits_a)) ∙ ap (record_at v) e ∙ record_again v b (in_range v b fits_b))
