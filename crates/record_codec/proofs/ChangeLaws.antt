-- From one record to another there is one change, and a change of a record leads to one record.
use Rattle.std.proofs.Common.{◌≡◌, ◌≢◌, ℕ, suc, ◌≤◌, Bool, true, false, List, [], ◌∷◌, ◌++◌, length, drop, Option, Some, None, Result, Ok, Err, refl, sym, ap, subst, ◌∙◌, arith, inl, inr}
use Rattle.std.specs.Prelude.{IfErr, IfOk, IfSome, MatchResult, ◌⊎◌, option_map, unwrap_or}
use Rattle.std.proofs.lemmas.List.{length-append}
use Rattle.lw_types.specs.Hex.{IsBytes}
use Rattle.lw_types.specs.declared.refusal.Refusal.{Refusal}
use Rattle.lw_types.specs.declared.refusal.Refusal.TheVariants.{OutOfMemory, Damaged}
use Rattle.byte_fields.proofs.FieldLemmas.{some_is}
use Rattle.mac_commands.specs.Queueable.{AreQueueable}
use Rattle.devices.specs.declared.activation.Session.{Session}
use Rattle.devices.specs.declared.activation.CurrentSession.{CurrentSession}
use Rattle.devices.specs.declared.queue.Item.{Item}
use Rattle.devices.specs.declared.device.Device.{Device}
use Rattle.devices.specs.declared.queue.TheConstants.ItemQueue.{MOST as MOST_ITEMS}
use Rattle.devices.specs.Activation.{Grants, AreInOrder}
use Rattle.devices.specs.Parts.{nonces_of}
use Rattle.record_codec.specs.declared.version.RecordVersion.{RecordVersion}
use Rattle.record_codec.specs.Answers.{ReadsChange}
use Rattle.record_codec.specs.Change.{Added, Groups, ItemChange, Leaves, IsChange, IsChangeOf, IsCurrentGroup, IsGroup, IsGrown, IsItemGroup, change_bytes}
use Rattle.record_codec.specs.ChangeReading.{HasRoomToGrow, IsNew, IsNewCurrent, IsNewItems, IsNewTo, IsNoChange, change_read, changed_device, changed_current, changed_heard, changed_items}
use Rattle.record_codec.proofs.ChangeFields.{change_again, change_takes, one_change}

-- ---- what a change makes of a record

group_gives : {A : Type 0} (o : Option A) (b a : A) → IsGroup o b a → unwrap_or o b ≡ a
group_gives None b a h = sym h
group_gives (Some x) b a h = h.1

abbrev session_in : Option CurrentSession → Option Session
session_in o = option_map (λ c. c.session) o

abbrev counters_in : Option CurrentSession → Option (ℕ × ℕ)
counters_in o = option_map (λ c. (c.last_up, c.next_down)) o

abbrev with_counters : ℕ × ℕ → Option CurrentSession → Option CurrentSession
with_counters n o = option_map (λ c. record { session = c.session; last_up = n.0; next_down = n.1 }) o

counted : (n : ℕ × ℕ) (b a : Option CurrentSession) → session_in a ≡ session_in b → counters_in a ≡ Some n → with_counters n b ≡ a
counted n None None s e = refl
counted n None (Some a) s e = absurd (let k : Some a.session ≡ None = s in cc)
counted n (Some b) None s e = absurd (let k : None ≡ Some b.session = s in cc)
counted n (Some b) (Some a) s e =
    let same : a.session ≡ b.session = some_is a.session b.session s in
    let numbers : (a.last_up, a.next_down) ≡ n = some_is (a.last_up, a.next_down) n e in
    λ i. Some (record { session = sym same i; last_up = (sym numbers i).0; next_down = (sym numbers i).1 })

current_gives : (o : Option (Option CurrentSession)) (n : Option (ℕ × ℕ)) (b a : Grants) → IsCurrentGroup o n b a → changed_current o n b.current ≡ a.current
current_gives (Some x) n b a h = h.1
current_gives None (Some n) b a h = counted n b.current a.current h.0 h.2
current_gives None None b a h = sym h

items_give : (o : Option ItemChange) (b a : List Item) → IsItemGroup o b a → changed_items o b ≡ a
items_give None b a h = sym h
items_give (Some Leaves) b a h = ap (drop 1) h.1
items_give (Some (Added i)) b a h = sym h

heard_gives : (grew : Bool) (b a : ℕ) → IsGrown grew b a → changed_heard grew b ≡ a
heard_gives false b a h = sym h
heard_gives true b a h = sym h.1

pub device_after_is : (b a : Device) (c : Groups) → IsChange b a c → changed_device c b ≡ a
device_after_is b a c h =
    let p = h.provisioned in
    let nonces = group_gives c.nonces (nonces_of b) (nonces_of a) h.nonces in
    let current = current_gives c.current c.counters b.activation a.activation h.current in
    let pending = group_gives c.pending b.activation.pending a.activation.pending h.pending in
    let awaited = group_gives c.awaited b.awaited a.awaited h.awaited in
    let mac_queue = group_gives c.mac_queue b.mac_queue a.mac_queue h.mac_queue in
    let items = items_give c.items b.items a.items h.items in
    let heard = heard_gives c.grew b.heard a.heard h.heard in
    λ i. record {
      dev_eui = sym p.dev_eui i;
      join_eui = sym p.join_eui i;
      app_key = sym p.app_key i;
      application = sym p.application i;
      rx1_offset = sym p.rx1_offset i;
      rx_delay = sym p.rx_delay i;
      last_dev_nonce = (nonces i).0;
      activation = record { granted = (nonces i).1; current = current i; pending = pending i };
      awaited = awaited i;
      mac_queue = mac_queue i;
      items = items i;
      heard = heard i;
    }

pub one_record : (version : RecordVersion) (before a b : Device) (bytes : List ℕ) → IsChangeOf version before a bytes → IsChangeOf version before b bytes → a ≡ b
one_record version before a b bytes h k =
    let same : h.0 ≡ k.0 = one_change version h.0 k.0 h.1 k.1 (sym h.3 ∙ k.3) in
    sym (device_after_is before a h.0 h.2) ∙ ap (λ (c : Groups). changed_device c before) same ∙ device_after_is before b k.0 k.2

-- ---- one change of two records

same_group : {A : Type 0} (o p : Option A) (b a : A) → IsGroup o b a → IsGroup p b a → o ≡ p
same_group None None b a h k = refl
same_group None (Some y) b a h k = absurd (k.0 h)
same_group (Some x) None b a h k = absurd (h.0 k)
same_group (Some x) (Some y) b a h k = ap Some (h.1 ∙ sym k.1)

same_current : (o p : Option (Option CurrentSession)) (m n : Option (ℕ × ℕ)) (b a : Grants) → IsCurrentGroup o m b a → IsCurrentGroup p n b a → (o ≡ p) × (m ≡ n)
same_current (Some x) (Some y) m n b a h k = (ap Some (h.1 ∙ sym k.1), h.2 ∙ sym k.2)
same_current (Some x) None m (Some n) b a h k = absurd (h.0 k.0)
same_current (Some x) None m None b a h k = absurd (h.0 (ap session_in k))
same_current None (Some y) (Some m) n b a h k = absurd (k.0 h.0)
same_current None (Some y) None n b a h k = absurd (k.0 (ap session_in h))
same_current None None (Some m) (Some n) b a h k = (refl, sym h.2 ∙ k.2)
same_current None None (Some m) None b a h k = absurd (h.1 (ap counters_in k))
same_current None None None (Some n) b a h k = absurd (k.1 (ap counters_in h))
same_current None None None None b a h k = (refl, refl)

same_end : (b : List Item) (i j : Item) → b ++ i ∷ [] ≡ b ++ j ∷ [] → i ≡ j
same_end [] i j e = cc
same_end (x ∷ b) i j e = same_end b i j (ap (drop 1) e)

no_leaving : (b a : List Item) (first : Item) → a ≡ b → b ≡ first ∷ a → ⊥
no_leaving b a first h k =
    let one : length a ≡ length b = ap length h in
    let two : length b ≡ suc (length a) = ap length k in
    omega arith

no_adding : (b a : List Item) (i : Item) → a ≡ b → a ≡ b ++ i ∷ [] → ⊥
no_adding b a i h k =
    let one : length a ≡ length b = ap length h in
    let two : length a ≡ length (b ++ i ∷ []) = ap length k in
    let long = length-append b (i ∷ []) in
    omega arith

not_both : (b a : List Item) (first i : Item) → b ≡ first ∷ a → a ≡ b ++ i ∷ [] → ⊥
not_both b a first i h k =
    let one : length b ≡ suc (length a) = ap length h in
    let two : length a ≡ length (b ++ i ∷ []) = ap length k in
    let long = length-append b (i ∷ []) in
    omega arith

same_items : (o p : Option ItemChange) (b a : List Item) → IsItemGroup o b a → IsItemGroup p b a → o ≡ p
same_items None None b a h k = refl
same_items None (Some Leaves) b a h k = absurd (no_leaving b a k.0 h k.1)
same_items None (Some (Added j)) b a h k = absurd (no_adding b a j h k)
same_items (Some Leaves) None b a h k = absurd (no_leaving b a h.0 k h.1)
same_items (Some Leaves) (Some Leaves) b a h k = refl
same_items (Some Leaves) (Some (Added j)) b a h k = absurd (not_both b a h.0 j h.1 k)
same_items (Some (Added i)) None b a h k = absurd (no_adding b a i k h)
same_items (Some (Added i)) (Some Leaves) b a h k = absurd (not_both b a k.0 i k.1 h)
same_items (Some (Added i)) (Some (Added j)) b a h k = ap (λ (x : Item). Some (Added x)) (same_end b i j (sym h ∙ k))

same_count : (o p : Bool) (b a : ℕ) → IsGrown o b a → IsGrown p b a → o ≡ p
same_count false false b a h k = refl
same_count false true b a h k = absurd (let one = h in let two = k.1 in omega arith)
same_count true false b a h k = absurd (let one = h.1 in let two = k in omega arith)
same_count true true b a h k = refl

same_change : (b a : Device) (c d : Groups) → IsChange b a c → IsChange b a d → c ≡ d
same_change b a c d h k =
    let nonces = same_group c.nonces d.nonces (nonces_of b) (nonces_of a) h.nonces k.nonces in
    let current = same_current c.current d.current c.counters d.counters b.activation a.activation h.current k.current in
    let pending = same_group c.pending d.pending b.activation.pending a.activation.pending h.pending k.pending in
    let awaited = same_group c.awaited d.awaited b.awaited a.awaited h.awaited k.awaited in
    let mac_queue = same_group c.mac_queue d.mac_queue b.mac_queue a.mac_queue h.mac_queue k.mac_queue in
    let items = same_items c.items d.items b.items a.items h.items k.items in
    let grew = same_count c.grew d.grew b.heard a.heard h.heard k.heard in
    λ i. record {
      nonces = nonces i;
      current = current.0 i;
      counters = current.1 i;
      pending = pending i;
      awaited = awaited i;
      mac_queue = mac_queue i;
      items = items i;
      grew = grew i;
    }

pub one_spelling : (version : RecordVersion) (before after : Device) (a b : List ℕ) → IsChangeOf version before after a → IsChangeOf version before after b → a ≡ b
one_spelling version before after a b h k = h.3 ∙ ap change_bytes (same_change before after h.0 k.0 h.2 k.2) ∙ sym k.3

-- ---- a change that is new to a record

group_made : {A : Type 0} (o : Option A) (b : A) → IsNew o b → IsGroup o b (unwrap_or o b)
group_made None b h = refl
group_made (Some x) b h = (h, refl)

counters_made : (n : ℕ × ℕ) (b : Option CurrentSession) → b ≢ None → Some n ≢ counters_in b
    → (session_in (with_counters n b) ≡ session_in b) × (counters_in (with_counters n b) ≢ counters_in b) × (counters_in (with_counters n b) ≡ Some n)
counters_made n None some new = absurd (some refl)
counters_made n (Some c) some new = (refl, new, refl)

current_made : (o : Option (Option CurrentSession)) (n : Option (ℕ × ℕ)) (b : Grants) (granted : Option ℕ) (pending : Option Session) → IsNewCurrent o n b
    → IsCurrentGroup o n b (record { granted = granted; current = changed_current o n b.current; pending = pending })
current_made (Some x) (Some n) b granted pending h = absurd h
current_made (Some x) None b granted pending h = (h, refl, refl)
current_made None (Some n) b granted pending h = counters_made n b.current h.0 h.1
current_made None None b granted pending h = refl

items_made : (o : Option ItemChange) (b : List Item) → IsNewItems o b → IsItemGroup o b (changed_items o b)
items_made None b h = refl
items_made (Some Leaves) [] h = absurd (h refl)
items_made (Some Leaves) (x ∷ b) h = (x, refl)
items_made (Some (Added i)) b h = refl

few_made : (o : Option ItemChange) (b : List Item) → IsNewItems o b → length b ≤ MOST_ITEMS → length (changed_items o b) ≤ MOST_ITEMS
few_made None b h few = few
few_made (Some Leaves) [] h few = absurd (h refl)
few_made (Some Leaves) (x ∷ b) h few = omega arith
few_made (Some (Added i)) b h few = omega (arith, length-append b (i ∷ []))

whole_made : (o : Option (List ℕ)) (b : List ℕ) → IfSome o AreQueueable → AreQueueable b → AreQueueable (unwrap_or o b)
whole_made None b h whole = whole
whole_made (Some q) b h whole = h

heard_made : (grew : Bool) (b : ℕ) → HasRoomToGrow grew b → IsGrown grew b (changed_heard grew b)
heard_made false b h = refl
heard_made true b h = (h, refl)

pub new_change : (b : Device) (c : Groups) → length b.items ≤ MOST_ITEMS → AreQueueable b.mac_queue → IsNewTo b c → IsChange b (changed_device c b) c
new_change b c few whole h =
    record {
      provisioned = record {
        dev_eui = refl;
        join_eui = refl;
        app_key = refl;
        application = refl;
        rx1_offset = refl;
        rx_delay = refl;
      };
      nonces = group_made c.nonces (nonces_of b) h.nonces;
      current = current_made c.current c.counters b.activation (unwrap_or c.nonces (nonces_of b)).1 (unwrap_or c.pending b.activation.pending) h.current;
      pending = group_made c.pending b.activation.pending h.pending;
      awaited = group_made c.awaited b.awaited h.awaited;
      mac_queue = group_made c.mac_queue b.mac_queue h.mac_queue;
      items = items_made c.items b.items h.items;
      heard = heard_made c.grew b.heard h.heard;
      in_order = h.in_order;
      whole = whole_made c.mac_queue b.mac_queue h.whole whole;
      few = few_made c.items b.items h.items few;
    }

group_new : {A : Type 0} (o : Option A) (b a : A) → IsGroup o b a → IsNew o b
group_new None b a h = tt
group_new (Some x) b a h = λ e. h.0 (sym h.1 ∙ e)

some_current : (n : ℕ × ℕ) (b a : Option CurrentSession) → session_in a ≡ session_in b → counters_in a ≡ Some n → b ≢ None
some_current n None None s e = λ none. absurd (let k : None ≡ Some n = e in cc)
some_current n None (Some a) s e = λ none. absurd (let k : Some a.session ≡ None = s in cc)
some_current n (Some b) a s e = λ none. absurd (let k : Some b ≡ None = none in cc)

current_new : (o : Option (Option CurrentSession)) (n : Option (ℕ × ℕ)) (b a : Grants) → IsCurrentGroup o n b a → IsNewCurrent o n b
current_new (Some x) (Some n) b a h = absurd (let k : Some n ≡ None = h.2 in cc)
current_new (Some x) None b a h = λ e. h.0 (ap session_in (sym h.1) ∙ e)
current_new None (Some n) b a h = (some_current n b.current a.current h.0 h.2, λ e. h.1 (h.2 ∙ e))
current_new None None b a h = tt

items_new : (o : Option ItemChange) (b a : List Item) → length a ≤ MOST_ITEMS → IsItemGroup o b a → IsNewItems o b
items_new None b a few h = tt
items_new (Some Leaves) b a few h = λ e. absurd (let k : [] ≡ h.0 ∷ a = sym e ∙ h.1 in cc)
items_new (Some (Added i)) b a few h =
    let long : length a ≡ length (b ++ i ∷ []) = ap length h in
    omega (arith, length-append b (i ∷ []))

whole_new : (o : Option (List ℕ)) (b a : List ℕ) → IsGroup o b a → AreQueueable a → IfSome o AreQueueable
whole_new None b a h whole = tt
whole_new (Some q) b a h whole = subst AreQueueable (sym h.1) whole

heard_new : (grew : Bool) (b a : ℕ) → IsGrown grew b a → HasRoomToGrow grew b
heard_new false b a h = tt
heard_new true b a h = h.0

pub change_new : (b a : Device) (c : Groups) → IsChange b a c → IsNewTo b c
change_new b a c h =
    record {
      nonces = group_new c.nonces (nonces_of b) (nonces_of a) h.nonces;
      current = current_new c.current c.counters b.activation a.activation h.current;
      pending = group_new c.pending b.activation.pending a.activation.pending h.pending;
      awaited = group_new c.awaited b.awaited a.awaited h.awaited;
      mac_queue = group_new c.mac_queue b.mac_queue a.mac_queue h.mac_queue;
      whole = whole_new c.mac_queue b.mac_queue a.mac_queue h.mac_queue h.whole;
      items = items_new c.items b.items a.items h.few h.items;
      heard = heard_new c.grew b.heard a.heard h.heard;
      in_order = subst (λ (d : Device). AreInOrder d.activation) (sym (device_after_is b a c h)) h.in_order;
    }

-- ---- what reading returns

is_change : (v : RecordVersion) (before : Device) (bytes : List ℕ) (c : Groups) → IsBytes bytes → change_read v bytes ≡ Some c → length before.items ≤ MOST_ITEMS → AreQueueable before.mac_queue → IsNewTo before c
    → IsChangeOf v before (changed_device c before) bytes
is_change v before bytes c fits e few whole new = let t = change_takes v bytes c fits e in (c, t.0, new_change before c few whole new, t.1)

-- the record that was made, unless memory ran out
abbrev pub Makes : Device → Result Device Refusal → Type 0
Makes d r = MatchResult r (λ made. made ≡ d) (λ e. e ≡ OutOfMemory)

is_made : (v : RecordVersion) (before after : Device) (bytes : List ℕ) (r : Result Device Refusal) → IsChangeOf v before after bytes → Makes after r → IfOk r (λ made. IsChangeOf v before made bytes)
is_made v before after bytes (Ok made) h is = subst (λ (d : Device). IsChangeOf v before d bytes) (sym is) h
is_made v before after bytes (Err e) h is = tt

is_alone : (v : RecordVersion) (before after other : Device) (bytes : List ℕ) (r : Result Device Refusal) → IsChangeOf v before after bytes → IsChangeOf v before other bytes → Makes after r
    → MatchResult r (λ made. made ≡ other) (λ e. e ≡ OutOfMemory)
is_alone v before after other bytes (Ok made) h k is = is ∙ one_record v before after other bytes h k
is_alone v before after other bytes (Err e) h k is = is

is_refused : (after : Device) (r : Result Device Refusal) → Makes after r → IfErr r (λ e. (e ≡ OutOfMemory) ⊎ (e ≡ Damaged))
is_refused after (Ok made) is = tt
is_refused after (Err e) is = inl is

-- what is read from the bytes of a change
pub reads_change : (v : RecordVersion) (before : Device) (bytes : List ℕ) (c : Groups) (r : Result Device Refusal) → IsBytes bytes → change_read v bytes ≡ Some c → length before.items ≤ MOST_ITEMS → AreQueueable before.mac_queue
    → IsNewTo before c → Makes (changed_device c before) r → ReadsChange v before bytes r
reads_change v before bytes c r fits e few whole new is =
    let after : Device = changed_device c before in
    let h : IsChangeOf v before after bytes = is_change v before bytes c fits e few whole new in
    record {
      found = is_made v before after bytes r h is;
      only = λ other k. is_alone v before after other bytes r h k is;
      refused = is_refused after r is;
      memory = λ out. (after, h);
    }

-- no change is read from other bytes
pub reads_none : (v : RecordVersion) (before : Device) (bytes : List ℕ) → IsNoChange v before bytes → ReadsChange v before bytes (Err Damaged)
reads_none v before bytes none = record {
  found = tt;
  only = λ after h. absurd (none h.0 (ap (change_read v) h.3 ∙ change_again v h.0 h.1) (change_new before after h.0 h.2));
  refused = inr refl;
  memory = λ out. absurd cc;
}
