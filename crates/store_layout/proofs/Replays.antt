-- Entries that replay: those of decisions. At most one list of them does.
use Rattle.std.proofs.Common.{◌≡◌, ◌≤◌, ◌+◌, ◌*◌, ◌∙◌, ℕ, List, [], ◌∷◌, ◌++◌, length, suc, Option, Some, None, sym, ap, subst, refl, arith}
use Rattle.std.proofs.lemmas.List.{length-append}
use Rattle.std.specs.Option.{MatchOption}
use Rattle.devices.specs.declared.device.Device.{Device}
use Rattle.sessions.specs.Table.{TableState, CanPut}
use Rattle.sessions.specs.Decision.{FitsTable, FitAll, with_decision, with_decisions}
use Rattle.sessions.specs.declared.decision.Decision.{Decision}
use Rattle.record_codec.specs.declared.version.RecordVersion.{RecordVersion}
use Rattle.record_codec.specs.Change.{IsChangeOf}
use Rattle.record_codec.specs.DeviceRecord.{spelling, IsDevice}
use Rattle.store_layout.specs.Entries.{EntryValue, body_in, entry, entries, AreEntries, AreEntriesOf, IsEntryOf, EntriesLead, Puts, Replay}
use Rattle.store_layout.specs.Entries.EntryValue.{Changed, Whole}
use Rattle.store_layout.proofs.EntryLaws.{RecordLaws, entry-one, one_lead, short_body}

-- the entry of a decision leads to the table to which the decision leads
puts_of : (v : RecordVersion) (t : TableState) (d : Decision) (e : EntryValue) → FitsTable t d → CanPut t d.slot d.after → IsEntryOf v d e → Puts v t e (with_decision t d)
puts_of v t d e fits can is = at d.before refl is
  where
    at : (o : Option Device) → d.before ≡ o
        → MatchOption o (e ≡ Whole d.slot d.after) (λ before. (change : List ℕ) × (e ≡ Changed d.slot change) × IsChangeOf v before d.after change)
        → Puts v t e (with_decision t d)
    at None none same = subst (λ (x : EntryValue). Puts v t x (with_decision t d)) (sym same) (record { after = d.after; leaves = refl; can = can; is = refl })
    at (Some before) found (change, same, of) =
        subst (λ (x : EntryValue). Puts v t x (with_decision t d)) (sym same) (record { after = d.after; leaves = (before, sym fits.before ∙ found, of); can = can; is = refl })

-- and so do the entries of several decisions
pub leads_of : ((t : TableState) (d : Decision) → FitsTable t d → CanPut t d.slot d.after)
    → (v : RecordVersion) (t : TableState) (ds : List Decision) (es : List EntryValue) → FitAll t ds → AreEntriesOf v ds es → EntriesLead v t es (with_decisions t ds)
leads_of put v t [] [] fit are = refl
leads_of put v t [] (e ∷ es) fit are = absurd are
leads_of put v t (d ∷ ds) [] fit are = absurd are
leads_of put v t (d ∷ ds) (e ∷ es) fit are =
    (with_decision t d, puts_of v t d e fit.0 (put t d fit.0) are.0, leads_of put v (with_decision t d) ds es fit.1 are.1)

pub as_many : (v : RecordVersion) (ds : List Decision) (es : List EntryValue) → AreEntriesOf v ds es → length es ≡ length ds
as_many v [] [] are = refl
as_many v [] (e ∷ es) are = absurd are
as_many v (d ∷ ds) [] are = absurd are
as_many v (d ∷ ds) (e ∷ es) are = ap suc (as_many v ds es are.1)

-- the same number of entries with the same bytes are the same
same-entries : {v : RecordVersion} → RecordLaws v → (es fs : List EntryValue) → AreEntries v es → AreEntries v fs → length es ≡ length fs → entries v es ≡ entries v fs → es ≡ fs
same-entries laws [] [] he hf long is = refl
same-entries laws [] (f ∷ fs) he hf long is = absurd (omega arith)
same-entries laws (e ∷ es) [] he hf long is = absurd (omega arith)
same-entries {v} laws (e ∷ es) (f ∷ fs) he hf long is =
    let one = entry-one laws e f (entries v es) (entries v fs) he.0 hf.0 is in
    let rest = same-entries laws es fs he.1 hf.1 (omega arith) one.1 in
    (λ i. one.0 i ∷ rest i)

pub one-replay : {v : RecordVersion} → RecordLaws v → (t t' u u' : TableState) (bytes : List ℕ) (count : ℕ) (es fs : List EntryValue)
    → Replay v t bytes count es u → Replay v t' bytes count fs u' → es ≡ fs
one-replay laws t t' u u' bytes count es fs a b = same-entries laws es fs a.each b.each (a.number ∙ sym b.number) (sym a.spelled ∙ b.spelled)

pub one-table : {v : RecordVersion} → RecordLaws v → (t u u' : TableState) (bytes : List ℕ) (count : ℕ) (es fs : List EntryValue)
    → Replay v t bytes count es u → Replay v t bytes count fs u' → u ≡ u'
one-table {v} laws t u u' bytes count es fs a b =
    one_lead laws t fs u u' (subst (λ (l : List EntryValue). EntriesLead v t l u) (one-replay laws t t u u' bytes count es fs a b) a.leads) b.leads

pub short-entries : (v : RecordVersion) → ((a : Device) → IsDevice v a → length (spelling v a) ≤ 4300) → (es : List EntryValue) → AreEntries v es
    → length (entries v es) ≤ length es * 4305
short-entries v short [] each = omega arith
short-entries v short (e ∷ es) each =
    let rest = short-entries v short es each.1 in
    let first = short_body v short e each.0 in
    let sum : length (entry v e ++ entries v es) ≡ length (entry v e) + length (entries v es) = length-append (entry v e) (entries v es) in
    let long : length (entry v e) ≡ suc (suc (suc (suc (suc (length (body_in v e)))))) = refl in
    omega arith
