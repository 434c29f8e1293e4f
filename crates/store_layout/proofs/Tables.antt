-- A table's entries lead to it.
use Rattle.std.proofs.Common.{◌≡◌, ◌≤◌, ◌<◌, ◌+◌, ◌∙◌, ◌==◌, ℕ, Bool, true, false, cond, List, [], ◌∷◌, ◌++◌, length, get_or, drop, suc, Option, Some, None, sym, ap, refl, subst, arith}
use Rattle.std.proofs.lemmas.List.{append-nil, append_assoc, length-append, drop_more, take_all, drop_all}
use Rattle.std.proofs.lemmas.Option.{same_Some}
use Rattle.std.specs.List.{position_from}
use Rattle.std.specs.Option.{MatchOption}
use Rattle.std.specs.Prelude.{slice_get}
use Rattle.devices.specs.declared.device.Device.{Device}
use Rattle.sessions.specs.Index.{HaveOwnSlots}
use Rattle.sessions.specs.Table.{CanPut, TableState, empty_table, slot_of, with_device}
use Rattle.record_codec.specs.declared.version.RecordVersion.{RecordVersion}
use Rattle.store_layout.specs.Entries.{AreEntries, IsEntry, EntriesLead, Replay, entries, entries_from, entries_of_table, entry}
use Rattle.store_layout.specs.Entries.EntryValue.{Whole}

pub length-entries_from : (slot : ℕ) (devices : List Device) → length (entries_from slot devices) ≡ length devices
length-entries_from slot [] = refl
length-entries_from slot (d ∷ devices) = ap suc (length-entries_from (suc slot) devices)

-- what is found in a front is found in the whole
found_in_front : (test : Device → Bool) (i j : ℕ) (xs ys : List Device) → position_from test i xs ≡ Some j → position_from test i (xs ++ ys) ≡ Some j
found_in_front test i j [] ys is = cc
found_in_front test i j (x ∷ xs) ys is = at (test x) (found_in_front test (i + 1) j xs ys) is
  where
    at : (b : Bool) → (position_from test (i + 1) xs ≡ Some j → position_from test (i + 1) (xs ++ ys) ≡ Some j) → cond b (Some i) (position_from test (i + 1) xs) ≡ Some j → cond b (Some i) (position_from test (i + 1) (xs ++ ys)) ≡ Some j
    at true further found = found
    at false further found = further found

get_at : (xs : List Device) (d : Device) (ys : List Device) → slice_get (xs ++ d ∷ ys) (length xs) ≡ Some d
get_at [] d ys = refl
get_at (x ∷ xs) d ys = get_at xs d ys

-- the next device may be put after those before it
next_fits : (net_id slots : ℕ) (done rest : List Device) (d : Device) → HaveOwnSlots (done ++ d ∷ rest) → length done < slots → CanPut (record { net_id = net_id; slots = slots; devices = done }) (length done) d
next_fits net_id slots done rest d own room = (omega arith, room, at (slot_of d.dev_eui.0 done) refl)
  where
    at : (found : Option ℕ) → slot_of d.dev_eui.0 done ≡ found → MatchOption found (Unit {0}) (λ own. own ≡ length done)
    at None is = tt
    at (Some j) is = same_Some j (length done) (sym (found_in_front (λ e. e.dev_eui.0 == d.dev_eui.0) 0 j done (d ∷ rest) is) ∙ own (length done) d (get_at done d rest))

behind : (done : List Device) (d : Device) → with_device (length done) d done ≡ done ++ d ∷ []
behind done d = λ i. take_all (length done) done (omega arith) i ++ d ∷ drop_all (suc (length done)) done (omega arith) i

put_rest : (version : RecordVersion) (net_id slots : ℕ) (done rest : List Device) → HaveOwnSlots (done ++ rest) → length (done ++ rest) ≤ slots
    → EntriesLead version (record { net_id = net_id; slots = slots; devices = done }) (entries_from (length done) rest) (record { net_id = net_id; slots = slots; devices = done ++ rest })
put_rest version net_id slots done [] own few = ap (λ (l : List Device). record { net_id = net_id; slots = slots; devices = l }) (append-nil done)
put_rest version net_id slots done (d ∷ rest) own few =
    let with_devices : List Device → TableState = λ l. record { net_id = net_id; slots = slots; devices = l } in
    let whole : (done ++ d ∷ []) ++ rest ≡ done ++ d ∷ rest = append_assoc done (d ∷ []) rest in
    let room : length done < slots = omega (arith, few, length-append done (d ∷ rest)) in
    let next : length (done ++ d ∷ []) ≡ suc (length done) = omega (arith, length-append done (d ∷ [])) in
    let others = put_rest version net_id slots (done ++ d ∷ []) rest (subst HaveOwnSlots (sym whole) own) (omega (arith, few, ap length whole)) in (
      with_devices (done ++ d ∷ []),
      record { after = d; leaves = refl; can = next_fits net_id slots done rest d own room; is = ap with_devices (sym (behind done d)) },
      subst (λ (l : List Device). EntriesLead version (with_devices (done ++ d ∷ [])) (entries_from (suc (length done)) rest) (with_devices l)) whole
          (subst (λ (n : ℕ). EntriesLead version (with_devices (done ++ d ∷ [])) (entries_from n rest) (with_devices ((done ++ d ∷ []) ++ rest))) next others),
    )

pub table_replays : (version : RecordVersion) (t : TableState) → HaveOwnSlots t.devices → length t.devices ≤ t.slots → AreEntries version (entries_of_table t)
    → Replay version (empty_table t.net_id t.slots) (entries version (entries_of_table t)) (length t.devices) (entries_of_table t) t
table_replays version t own few are = record {
  spelled = refl;
  number = length-entries_from 0 t.devices;
  each = are;
  leads = put_rest version t.net_id t.slots [] t.devices own few;
}

-- the entry of one more device was appended
pub put_more : (version : RecordVersion) (slot i : ℕ) (before out more : List ℕ) (devices : List Device) (d : Device) → i < length devices → d ≡ get_or devices i d
    → out ++ entries version (entries_from slot (drop i devices)) ≡ before → more ≡ out ++ entry version (Whole slot d)
    → more ++ entries version (entries_from (suc slot) (drop (i + 1) devices)) ≡ before
put_more version slot i before out more devices d within is written appended =
    let rest = entries version (entries_from (suc slot) (drop (i + 1) devices)) in
    let next : drop i devices ≡ d ∷ drop (i + 1) devices = drop_more devices i d within ∙ ap (λ (e : Device). e ∷ drop (i + 1) devices) (sym is) in
    ap (λ (l : List ℕ). l ++ rest) appended
    ∙ append_assoc out (entry version (Whole slot d)) rest
    ∙ ap (λ (l : List Device). out ++ entries version (entries_from slot l)) (sym next)
    ∙ written

pub each_more : (version : RecordVersion) (slot i : ℕ) (devices : List Device) (d : Device) → i < length devices → d ≡ get_or devices i d → IsEntry version (Whole slot d)
    → (AreEntries version (entries_from slot (drop i devices)) → AreEntries version (entries_from 0 devices))
    → AreEntries version (entries_from (suc slot) (drop (i + 1) devices)) → AreEntries version (entries_from 0 devices)
each_more version slot i devices d within is one all rest =
    let next : drop i devices ≡ d ∷ drop (i + 1) devices = drop_more devices i d within ∙ ap (λ (e : Device). e ∷ drop (i + 1) devices) (sym is) in
    all (subst (λ (l : List Device). AreEntries version (entries_from slot l)) (sym next) (one, rest))
