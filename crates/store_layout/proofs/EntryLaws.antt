-- Entries one after another: the next begins at the end of the one before.
use Rattle.std.proofs.Common.{◌*◌, ◌/◌, ◌%◌, ◌-◌, get_or, ◌≡◌, ◌<◌, ◌≤◌, ◌+◌, ◌^◌, ◌∙◌, ℕ, List, [], ◌∷◌, ◌++◌, length, take, drop, suc, sym, ap, subst, refl, arith}
use Rattle.std.specs.Int.{to_be_bytes, from_be_bytes, w16}
use Rattle.std.proofs.lemmas.List.{append_assoc, append-nil, length_push, length-append, take_rest, take_at}
use Rattle.std.proofs.lemmas.Option.{same_Some}
use Rattle.std.proofs.lemmas.Nat.{from_be_bytes-to_be_bytes_2}
use Rattle.devices.specs.declared.device.Device.{Device}
use Rattle.record_codec.specs.DeviceRecord.{spelling, IsDevice}
use Rattle.sessions.specs.Table.{CanPut, TableState, with_record}
use Rattle.record_codec.specs.declared.version.RecordVersion.{RecordVersion}
use Rattle.record_codec.specs.declared.device_record.TheConstants.{LONGEST_RECORD}
use Rattle.record_codec.specs.Change.{IsChangeOf}
use Rattle.store_layout.specs.Entries.{EntryValue, kind_of, body_in, entry, entries, IsEntry, AreEntries, Replay, LeavesRecord, Puts, EntriesLead, NoEntry, ReplayGoesOn, slot_in}
use Rattle.store_layout.specs.Entries.EntryValue.{Changed, Whole}

-- the parts of two lists that begin alike
parts : (a b x y : List ℕ) → length a ≡ length b → a ++ x ≡ b ++ y → (a ≡ b) × (x ≡ y)
parts [] [] x y long e = (refl, e)
parts [] (b ∷ bs) x y long e = cc
parts (a ∷ as') [] x y long e = cc
parts (a ∷ as') (b ∷ bs) x y long e =
    let rest : as' ++ x ≡ bs ++ y = cc in
    let shorter : length as' ≡ length bs = cc in
    let first : a ≡ b = cc in
    let p = parts as' bs x y shorter rest in
    ((λ i. first i ∷ p.0 i), p.1)

-- one number has one spelling of two bytes
number_same : (m n : ℕ) → m < 2 ^ 16 → n < 2 ^ 16 → to_be_bytes w16 m ≡ to_be_bytes w16 n → m ≡ n
number_same m n hm hn e = sym (from_be_bytes-to_be_bytes_2 m hm) ∙ (ap (from_be_bytes w16) e ∙ from_be_bytes-to_be_bytes_2 n hn)

-- the laws of records and changes that this file uses
pub record RecordLaws (v : RecordVersion) : Type 0 where
  pub one : (a b : Device) → IsDevice v a → IsDevice v b → spelling v a ≡ spelling v b → a ≡ b
  pub short : (a : Device) → IsDevice v a → length (spelling v a) ≤ 4300
  pub one_change : (before a b : Device) (bytes : List ℕ) → IsChangeOf v before a bytes → IsChangeOf v before b bytes → a ≡ b

-- what `each_record_is_of_one_device` says
abbrev pub RecordLaw : Type 0
RecordLaw = (version : RecordVersion) (a b : Device) → IsDevice version a → IsDevice version b → spelling version a ≡ spelling version b → a ≡ b

-- what `records_are_short` says
abbrev pub LengthLaw : Type 0
LengthLaw = (version : RecordVersion) (a : Device) → IsDevice version a → length (spelling version a) ≤ LONGEST_RECORD

-- a record is no longer than the room that is reserved for it
pub short_in : LengthLaw → (v : RecordVersion) (a : Device) → IsDevice v a → length (spelling v a) ≤ 4300
short_in short v a is = let most = short v a is in omega arith

-- what `each_change_is_of_one_record` says
abbrev pub ChangeLaw : Type 0
ChangeLaw = (version : RecordVersion) (before a b : Device) (bytes : List ℕ) → IsChangeOf version before a bytes → IsChangeOf version before b bytes → a ≡ b

pub record_laws : RecordLaw → LengthLaw → ChangeLaw → (v : RecordVersion) → RecordLaws v
record_laws one short change v = record { one = one v; short = short_in short v; one_change = change v }

-- the body of an entry isn't longer either
pub short_body : (v : RecordVersion) → ((a : Device) → IsDevice v a → length (spelling v a) ≤ 4300) → (e : EntryValue) → IsEntry v e → length (body_in v e) ≤ 4300
short_body v short (Whole slot device) is = short device is.1
short_body v short (Changed slot change) is = is.1

-- entries with the same kind, slot and body are the same
one_entry : {v : RecordVersion} → RecordLaws v → (a b : EntryValue) → IsEntry v a → IsEntry v b → kind_of a ≡ kind_of b → slot_in a ≡ slot_in b → body_in v a ≡ body_in v b → a ≡ b
one_entry laws (Whole s a) (Whole t b) ha hb kind slot body = λ i. Whole (slot i) (laws.one a b ha.1 hb.1 body i)
one_entry laws (Whole s a) (Changed t b) ha hb kind slot body = absurd (omega arith)
one_entry laws (Changed s a) (Whole t b) ha hb kind slot body = absurd (omega arith)
one_entry laws (Changed s a) (Changed t b) ha hb kind slot body = λ i. Changed (slot i) (body i)

-- no entry begins another
pub entry-one : {v : RecordVersion} → RecordLaws v → (a b : EntryValue) (x y : List ℕ) → IsEntry v a → IsEntry v b → entry v a ++ x ≡ entry v b ++ y → (a ≡ b) × (x ≡ y)
entry-one {v} laws a b x y ha hb e =
    let la = length (body_in v a) in
    let lb = length (body_in v b) in
    let kind : kind_of a ≡ kind_of b = ap (λ (bs : List ℕ). get_or bs 0 0) e in
    let tail : to_be_bytes w16 (slot_in a) ++ (to_be_bytes w16 la ++ (body_in v a ++ x)) ≡ to_be_bytes w16 (slot_in b) ++ (to_be_bytes w16 lb ++ (body_in v b ++ y)) =
    ap (drop 1) e in
    let first = parts (to_be_bytes w16 (slot_in a)) (to_be_bytes w16 (slot_in b)) _ _ refl tail in
    let second = parts (to_be_bytes w16 la) (to_be_bytes w16 lb) _ _ refl first.1 in
    let slot = number_same (slot_in a) (slot_in b) ha.0 hb.0 first.0 in
    let sa = short_body v laws.short a ha in
    let sb = short_body v laws.short b hb in
    let long = number_same la lb (omega arith) (omega arith) second.0 in
    let third = parts (body_in v a) (body_in v b) x y long second.1 in
    (one_entry laws a b ha hb kind slot third.0, third.1)

-- the first five bytes are a kind, a slot and a length
pub framed : (bytes body behind : List ℕ) (slot len : ℕ) → 5 ≤ length bytes → ((i : ℕ) → get_or bytes i 0 < 256) → slot ≡ get_or bytes 1 0 * 256 + get_or bytes 2 0
    → len ≡ get_or bytes 3 0 * 256 + get_or bytes 4 0 → length body ≡ len → drop 5 bytes ≡ body ++ behind
    → bytes ≡ get_or bytes 0 0 ∷ (to_be_bytes w16 slot ++ (to_be_bytes w16 (length body) ++ (body ++ behind)))
framed [] body behind slot len long small slot_is len_is body_is rest_is = absurd (omega arith)
framed (a ∷ []) body behind slot len long small slot_is len_is body_is rest_is = absurd (omega arith)
framed (a ∷ b ∷ []) body behind slot len long small slot_is len_is body_is rest_is = absurd (omega arith)
framed (a ∷ b ∷ c ∷ []) body behind slot len long small slot_is len_is body_is rest_is = absurd (omega arith)
framed (a ∷ b ∷ c ∷ d ∷ []) body behind slot len long small slot_is len_is body_is rest_is = absurd (omega arith)
framed (a ∷ b ∷ c ∷ d ∷ e ∷ rest) body behind slot len long small slot_is len_is body_is rest_is =
    let small_b : b < 256 = small 1 in
    let small_c : c < 256 = small 2 in
    let small_d : d < 256 = small 3 in
    let small_e : e < 256 = small 4 in
    let is_slot : slot ≡ b * 256 + c = slot_is in
    let is_len : length body ≡ d * 256 + e = body_is ∙ len_is in
    let slot_high : b ≡ slot / 256 % 256 = omega arith in
    let slot_low : c ≡ slot % 256 = omega arith in
    let len_high : d ≡ length body / 256 % 256 = omega arith in
    let len_low : e ≡ length body % 256 = omega arith in
    λ i. a ∷ slot_high i ∷ slot_low i ∷ len_high i ∷ len_low i ∷ rest_is i

-- the length at the front of an entry gives its body
pub body_cut : (v : RecordVersion) (bytes rest : List ℕ) (e : EntryValue) (cut : List ℕ) (len : ℕ) → length (body_in v e) ≤ 4300
    → bytes ≡ entry v e ++ rest
    → cut ≡ take len (take (length bytes - 5) (drop 5 bytes)) → len ≡ get_or bytes 3 0 * 256 + get_or bytes 4 0 → cut ≡ body_in v e
body_cut v bytes rest e cut len short is cut_is len_is =
    let high : get_or bytes 3 0 ≡ length (body_in v e) / 256 % 256 = ap (λ bs. get_or bs 3 0) is in
    let low : get_or bytes 4 0 ≡ length (body_in v e) % 256 = ap (λ bs. get_or bs 4 0) is in
    let long : length (body_in v e) ≡ len = omega arith in
    cut_is ∙ (ap (take len) (take_rest bytes 5 ∙ ap (drop 5) is) ∙ take_at (body_in v e) rest len long)

-- no entry stands at the front of bytes whose length gives no body of their kind
pub no_body : (v : RecordVersion) (bytes cut : List ℕ) (len : ℕ) → ((a : Device) → IsDevice v a → length (spelling v a) ≤ 4300)
    → ((e : EntryValue) → IsEntry v e → get_or bytes 0 0 ≡ kind_of e → cut ≡ body_in v e → ⊥)
    → cut ≡ take len (take (length bytes - 5) (drop 5 bytes)) → len ≡ get_or bytes 3 0 * 256 + get_or bytes 4 0 → NoEntry v bytes
no_body v bytes cut len short none cut_is len_is e rest is_entry is =
    none e is_entry (ap (λ (bs : List ℕ). get_or bs 0 0) is) (body_cut v bytes rest e cut len (short_body v short e is_entry) is cut_is len_is)

-- ---- entries on a table

-- an entry leaves one record, and leads from a table to one other table
one_left : {v : RecordVersion} → RecordLaws v → (t : TableState) (e : EntryValue) (a b : Device) → LeavesRecord v t e a → LeavesRecord v t e b → a ≡ b
one_left laws t (Whole slot device) a b p q = p ∙ sym q
one_left {v} laws t (Changed slot change) a b p q =
    let same : p.0 ≡ q.0 = same_Some p.0 q.0 (sym p.1 ∙ q.1) in
    laws.one_change q.0 a b change (subst (λ (d : Device). IsChangeOf v d a change) same p.2) q.2

one_put : {v : RecordVersion} → RecordLaws v → (t : TableState) (e : EntryValue) (u w : TableState) → Puts v t e u → Puts v t e w → u ≡ w
one_put laws t e u w p q = p.is ∙ (ap (with_record t (slot_in e)) (one_left laws t e p.after q.after p.leaves q.leaves) ∙ sym q.is)

-- the record that an entry leaves was put at its slot, or may not be put there
pub put_at : (v : RecordVersion) (t : TableState) (e : EntryValue) (u : TableState) (slot : ℕ) (device : Device) → slot ≡ slot_in e → LeavesRecord v t e device
    → CanPut t slot device → u ≡ with_record t slot device → Puts v t e u
put_at v t e u slot device at leaves can is = record {
  after = device;
  leaves = leaves;
  can = subst (λ n. CanPut t n device) at can;
  is = is ∙ ap (λ n. with_record t n device) at;
}

pub not_put : {v : RecordVersion} → RecordLaws v → (t : TableState) (e : EntryValue) (slot : ℕ) (device : Device) → slot ≡ slot_in e → LeavesRecord v t e device
    → (CanPut t slot device → ⊥) → (w : TableState) → Puts v t e w → ⊥
not_put laws t e slot device at leaves cannot w p =
    cannot (subst (λ n. CanPut t n device) (sym at) (subst (CanPut t (slot_in e)) (one_left laws t e p.after device p.leaves leaves) p.can))

pub one_lead : {v : RecordVersion} → RecordLaws v → (t : TableState) (es : List EntryValue) (u w : TableState) → EntriesLead v t es u → EntriesLead v t es w → u ≡ w
one_lead laws t [] u w p q = p ∙ sym q
one_lead {v} laws t (e ∷ es) u w p q =
    one_lead laws q.0 es u w (subst (λ (x : TableState). EntriesLead v x es u) (one_put laws t e p.0 q.0 p.1 q.1) p.2) q.2

-- one more entry
leads_push : (v : RecordVersion) (t : TableState) (es : List EntryValue) (x : TableState) (e : EntryValue) (u : TableState) → EntriesLead v t es x → Puts v x e u → EntriesLead v t (es ++ e ∷ []) u
leads_push v t [] x e u lead put = (u, subst (λ (y : TableState). Puts v y e u) lead put, refl)
leads_push v t (f ∷ es) x e u lead put = (lead.0, lead.1, leads_push v lead.0 es x e u lead.2 put)

-- what the first entries lead to, and the others from there
leads_apart : (v : RecordVersion) (t : TableState) (front es : List EntryValue) (u : TableState) → EntriesLead v t (front ++ es) u → (x : TableState) × EntriesLead v t front x × EntriesLead v x es u
leads_apart v t [] es u lead = (t, refl, lead)
leads_apart v t (f ∷ front) es u lead =
    let rest = leads_apart v lead.0 front es u lead.2 in
    (rest.0, (lead.0, lead.1, rest.1), rest.2)

-- an entry leaves the network and the number of slots
put_keeps : (v : RecordVersion) (t : TableState) (e : EntryValue) (u : TableState) → Puts v t e u → (u.net_id ≡ t.net_id) × (u.slots ≡ t.slots)
put_keeps v t e u p = (ap (λ (x : TableState). x.net_id) p.is, ap (λ (x : TableState). x.slots) p.is)

pub leads_keep : (v : RecordVersion) (t u : TableState) (es : List EntryValue) → EntriesLead v t es u → (u.net_id ≡ t.net_id) × (u.slots ≡ t.slots)
leads_keep v t u [] same = (ap (λ (x : TableState). x.net_id) same, ap (λ (x : TableState). x.slots) same)
leads_keep v t u (e ∷ es) lead =
    let one = put_keeps v t e lead.0 lead.1 in
    let rest = leads_keep v lead.0 u es lead.2 in
    (rest.0 ∙ one.0, rest.1 ∙ one.1)

-- ---- entries read so far

pub record ReadSo (v : RecordVersion) (t : TableState) (bytes : List ℕ) (n : ℕ) (now_table : TableState) (rest : List ℕ) : Type 0 where
  pub front : List EntryValue
  pub spelled : bytes ≡ entries v front ++ rest
  pub number : length front ≡ n
  pub each : AreEntries v front
  pub leads : EntriesLead v t front now_table

pub read_none : (v : RecordVersion) (t : TableState) (bytes : List ℕ) → ReadSo v t bytes 0 t bytes
read_none v t bytes = record { front = []; spelled = refl; number = refl; each = tt; leads = refl }

AreEntries-push : (v : RecordVersion) (front : List EntryValue) (e : EntryValue) → AreEntries v front → IsEntry v e → AreEntries v (front ++ e ∷ [])
AreEntries-push v [] e each is = (is, tt)
AreEntries-push v (f ∷ front) e each is = (each.0, AreEntries-push v front e each.1 is)

entries-push : (v : RecordVersion) (front : List EntryValue) (e : EntryValue) (rest : List ℕ) → entries v (front ++ e ∷ []) ++ rest ≡ entries v front ++ (entry v e ++ rest)
entries-push v [] e rest = append_assoc (entry v e) [] rest
entries-push v (f ∷ front) e rest =
    append_assoc (entry v f) (entries v (front ++ e ∷ [])) rest
    ∙ (ap (λ b. entry v f ++ b) (entries-push v front e rest) ∙ sym (append_assoc (entry v f) (entries v front) (entry v e ++ rest)))

pub read_more : (v : RecordVersion) (t : TableState) (bytes : List ℕ) (n : ℕ) (now_table : TableState) (rest : List ℕ) (e : EntryValue) (behind : List ℕ) (next_table : TableState)
    → ReadSo v t bytes n now_table rest → rest ≡ entry v e ++ behind → IsEntry v e → Puts v now_table e next_table
    → ReadSo v t bytes (n + 1) next_table behind
read_more v t bytes n now_table rest e behind next_table so is is_entry put =
    record {
      front = so.front ++ e ∷ [];
      spelled = so.spelled ∙ (ap (λ b. entries v so.front ++ b) is ∙ sym (entries-push v so.front e behind));
      number = length_push so.front e ∙ ap (λ k. k + 1) so.number;
      each = AreEntries-push v so.front e so.each is_entry;
      leads = leads_push v t so.front now_table e next_table so.leads put;
    }

-- one more that leaves a record stands after them
pub goes_on_at : (v : RecordVersion) (t : TableState) (bytes : List ℕ) (n count : ℕ) (here : TableState) (rest : List ℕ) (e : EntryValue) (behind : List ℕ)
    → ReadSo v t bytes n here rest → n < count → rest ≡ entry v e ++ behind → IsEntry v e → (after : Device) → LeavesRecord v here e after
    → ReplayGoesOn v t bytes count
goes_on_at v t bytes n count here rest e behind so less is is_entry after leaves = record {
  front = so.front;
  next = e;
  behind = behind;
  spelled = so.spelled ∙ ap (λ b. entries v so.front ++ b) is;
  fewer = subst (λ k. k < count) (sym so.number) less;
  each = so.each;
  one_more = is_entry;
  here = here;
  leads = so.leads;
  after = after;
  leaves = leaves;
}

-- what spells the bytes goes on after what was read
goes_on : {v : RecordVersion} → RecordLaws v → (front es : List EntryValue) (rest : List ℕ) → AreEntries v front → AreEntries v es → length front ≤ length es
    → entries v front ++ rest ≡ entries v es → (more : List EntryValue) × (es ≡ front ++ more) × (rest ≡ entries v more)
goes_on laws [] es rest hf he long is = (es, refl, is)
goes_on laws (f ∷ front) [] rest hf he long is = absurd (omega arith)
goes_on {v} laws (f ∷ front) (e ∷ es) rest hf he long is =
    let one = entry-one laws f e (entries v front ++ rest) (entries v es) hf.0 he.0 (sym (append_assoc (entry v f) (entries v front) rest) ∙ is) in
    let later = goes_on laws front es rest hf.1 he.1 (omega arith) one.1 in
    (later.0, (λ i. ((sym one.0) i ∷ later.1 i)), later.2)

longer : (front more : List EntryValue) (n : ℕ) → length (front ++ more) ≡ n → length front < n → more ≡ [] → ⊥
longer front more n sum less none =
    let e : length (front ++ []) ≡ length front = ap length (append-nil front) in
    let s : length (front ++ []) ≡ n = ap (λ m. length (front ++ m)) (sym none) ∙ sum in
    omega arith

-- the next entry, if there is to be one
next_entry : {v : RecordVersion} → RecordLaws v → (t : TableState) (bytes : List ℕ) (n count : ℕ) (now_table : TableState) (rest : List ℕ) (es : List EntryValue) (u : TableState)
    → ReadSo v t bytes n now_table rest → n < count → Replay v t bytes count es u
    → (e : EntryValue) × (behind : List ℕ) × IsEntry v e × (rest ≡ entry v e ++ behind) × (w : TableState) × Puts v now_table e w
next_entry {v} laws t bytes n count now_table rest es u so less r =
    let g = goes_on laws so.front es rest so.each r.each (let a = so.number in let b = r.number in omega arith) (sym so.spelled ∙ r.spelled) in
    at g.0 g.1 g.2
  where
    at : (more : List EntryValue) → es ≡ so.front ++ more → rest ≡ entries v more → (e : EntryValue) × (behind : List ℕ) × IsEntry v e × (rest ≡ entry v e ++ behind) × (w : TableState) × Puts v now_table e w
    at [] es_is rest_is = absurd (longer so.front [] count (ap length (sym es_is) ∙ r.number) (let a = so.number in omega arith) refl)
    at (e ∷ more) es_is rest_is =
        let parts = leads_apart v t so.front (e ∷ more) u (subst (λ (l : List EntryValue). EntriesLead v t l u) es_is r.leads) in
        let here = subst (λ (x : TableState). EntriesLead v x (e ∷ more) u) (one_lead laws t so.front parts.0 now_table parts.1 so.leads) parts.2 in
        (e, entries v more, entry_at so.front e more (subst (AreEntries v) es_is r.each), rest_is, here.0, here.1)
      where
        entry_at : (front : List EntryValue) (e : EntryValue) (more : List EntryValue) → AreEntries v (front ++ e ∷ more) → IsEntry v e
        entry_at [] e more each = each.0
        entry_at (f ∷ front) e more each = entry_at front e more each.1

-- if no entry stands there, or that entry may not be put, nothing replays
pub no_entry : {v : RecordVersion} → RecordLaws v → (t : TableState) (bytes : List ℕ) (n count : ℕ) (now_table : TableState) (rest : List ℕ)
    → ReadSo v t bytes n now_table rest → n < count → NoEntry v rest → (es : List EntryValue) (u : TableState) → Replay v t bytes count es u → ⊥
no_entry laws t bytes n count now_table rest so less lacks es u r =
    let e = next_entry laws t bytes n count now_table rest es u so less r in
    lacks e.0 e.1 e.2 e.3

pub no_place : {v : RecordVersion} → RecordLaws v → (t : TableState) (bytes : List ℕ) (n count : ℕ) (now_table : TableState) (rest : List ℕ) (e : EntryValue) (behind : List ℕ)
    → ReadSo v t bytes n now_table rest → n < count → rest ≡ entry v e ++ behind → IsEntry v e → ((w : TableState) → Puts v now_table e w → ⊥)
    → (es : List EntryValue) (u : TableState) → Replay v t bytes count es u → ⊥
no_place {v} laws t bytes n count now_table rest e behind so less is is_entry cannot es u r =
    let x = next_entry laws t bytes n count now_table rest es u so less r in
    let same = (entry-one laws x.0 e x.1 behind x.2 is_entry (sym x.3 ∙ is)).0 in
    cannot x.4 (subst (λ (f : EntryValue). Puts v now_table f x.4) same x.5)

-- bytes after the last entry are too many
pub no_rest : {v : RecordVersion} → RecordLaws v → (t : TableState) (bytes : List ℕ) (n count : ℕ) (now_table : TableState) (rest : List ℕ)
    → ReadSo v t bytes n now_table rest → n ≡ count → (rest ≡ [] → ⊥) → (es : List EntryValue) (u : TableState) → Replay v t bytes count es u → ⊥
no_rest {v} laws t bytes n count now_table rest so done some es u r =
    let g = goes_on laws so.front es rest so.each r.each (let a = so.number in let b = r.number in omega arith) (sym so.spelled ∙ r.spelled) in
    at g.0 g.1 g.2
  where
    at : (more : List EntryValue) → es ≡ so.front ++ more → rest ≡ entries v more → ⊥
    at [] es_is rest_is = some rest_is
    at (e ∷ more) es_is rest_is =
        let sum : length so.front + suc (length more) ≡ length es = sym (length-append so.front (e ∷ more)) ∙ ap length (sym es_is) in
        let a = so.number in
        let b = r.number in
        omega arith

-- all of it is read
pub read_all : {v : RecordVersion} → (t : TableState) (bytes : List ℕ) (n count : ℕ) (now_table : TableState) (rest : List ℕ)
    → ReadSo v t bytes n now_table rest → n ≡ count → rest ≡ [] → (es : List EntryValue) × Replay v t bytes count es now_table
read_all {v} t bytes n count now_table rest so done none = (
  so.front,
  record { spelled = so.spelled ∙ (ap (λ b. entries v so.front ++ b) none ∙ append-nil (entries v so.front)); number = so.number ∙ done; each = so.each; leads = so.leads },
)
