use Rattle.std.proofs.Common.{◌≡◌, ◌+◌, ◌++◌, ◌∷◌, [], ℕ, List, length, take, ap, sym, ◌∙◌, append_assoc, arith, refl, subst}
use Rattle.std.proofs.lemmas.List.{append-nil, take_all, take_more}
use Rattle.sessions.specs.declared.decision.Decision.{Decision}
use Rattle.record_codec.specs.declared.version.RecordVersion.{RecordVersion}
use Rattle.record_codec.specs.Version.{newest}
use Rattle.store_layout.specs.Entries.{AreEntries, AreEntriesOf, EntryValue, IsEntry, IsEntryOf, SpellsEntriesOf, entries, entry}
use Rattle.store_layout.proofs.entries.put_batch.Goals as goal

-- the entry of one more decision
entries_behind : (v : RecordVersion) (es : List EntryValue) (e : EntryValue) → entries v es ++ entry v e ≡ entries v (es ++ e ∷ [])
entries_behind v [] e = sym (append-nil (entry v e))
entries_behind v (f ∷ es) e = append_assoc (entry v f) (entries v es) (entry v e) ∙ ap (λ (t : List ℕ). entry v f ++ t) (entries_behind v es e)

each_behind : (v : RecordVersion) (es : List EntryValue) (e : EntryValue) → AreEntries v es → IsEntry v e → AreEntries v (es ++ e ∷ [])
each_behind v [] e all one = (one, tt)
each_behind v (f ∷ es) e all one = (all.0, each_behind v es e all.1 one)

of_behind : (v : RecordVersion) (ds : List Decision) (es : List EntryValue) (d : Decision) (e : EntryValue) → AreEntriesOf v ds es → IsEntryOf v d e → AreEntriesOf v (ds ++ d ∷ []) (es ++ e ∷ [])
of_behind v [] [] d e all one = (one, tt)
of_behind v [] (f ∷ es) d e all one = absurd all
of_behind v (c ∷ ds) [] d e all one = absurd all
of_behind v (c ∷ ds) (f ∷ es) d e all one = (all.0, of_behind v ds es d e all.1 one)

pub loop-decision-init : goal.loop-decision-init
loop-decision-init c = ([], sym (append-nil c.args.out.now.items), record { values = []; of_each = tt; in_range = tt; spelled = refl })

pub loop-decision-preserved : goal.loop-decision-preserved
loop-decision-preserved c =
    let l = c.loop-decision in
    let v = newest in
    let ds = c.as_slice-decision-items.result.now in
    let d = c.decision-item.result in
    let done = take l.decision-index ds in
    let one = c.in_ok-put_decision.ensures in
    let e = one.0 in
    let bytes = l.invariant.0 in
    let so = l.invariant.2 in
    let more : take (l.decision-index + 1) ds ≡ done ++ d ∷ [] =
    take_more ds l.decision-index d c.loop-decision-test.true ∙ ap (λ (x : Decision). done ++ x ∷ []) (sym c.decision-item.is) in (
      bytes ++ entry v e,
      one.1 ∙ ap (λ (t : List ℕ). t ++ entry v e) l.invariant.1 ∙ append_assoc c.args.out.now.items bytes (entry v e),
      record {
        values = so.values ++ e ∷ [];
        of_each = subst (λ (x : List Decision). AreEntriesOf v x (so.values ++ e ∷ [])) (sym more) (of_behind v done so.values d e so.of_each one.3);
        in_range = each_behind v so.values e so.in_range one.2;
        spelled = ap (λ (t : List ℕ). t ++ entry v e) so.spelled ∙ entries_behind v so.values e;
      },
    )

pub returns : goal.returns
returns c =
    let v = newest in
    let items = c.as_slice-decision-items.result.now in
    let l = c.loop-decision in
    let so = l.invariant.2 in
    let most = c.entries_are_short.ensures v so.values so.in_range in
    let number = c.decisions_replay.ensures.number v (take l.decision-index items) so.values so.of_each in
    let size = ap length so.spelled in
    let whole : take l.decision-index items ≡ c.args.batch.now = take_all l.decision-index items c.loop-decision-test.false ∙ c.as_slice-decision-items.ensures.decisions in
    let long = ap length whole in
    record { entries = (l.invariant.0, l.invariant.1, subst (λ (ds : List Decision). SpellsEntriesOf v ds l.invariant.0) whole so, omega arith) }
