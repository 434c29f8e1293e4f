-- The batch of a legal continuation, as the journal has it.
use Rattle.std.proofs.Common.{◌≡◌, ◌≢◌, ◌≤◌, ◌<◌, ◌+◌, ◌∙◌, ℕ, List, [], ◌∷◌, length, Result, Ok, Err, IfOk, sym, ap, subst, refl, arith}
use Rattle.lw_types.specs.declared.refusal.Refusal.{Refusal}
use Rattle.gate_log.specs.Layout.{BatchValue}
use Rattle.sessions.specs.Table.{TableState}
use Rattle.sessions.specs.Decision.{FitAll, IsLegalContinuation, with_decisions}
use Rattle.sessions.specs.declared.decision.Decision.{Decision}
use Rattle.record_codec.specs.declared.version.RecordVersion.{RecordVersion}
use Rattle.record_codec.specs.Version.{newest}
use Rattle.store_layout.specs.Entries.{AreEntries, AreEntriesOf, EntryValue, EntriesLead, Replay, SpellsEntriesOf, entries}
use Rattle.store.specs.declared.commit.Commit.{Commit}
use Rattle.store.specs.declared.phases.Begun.{Begun}
use Rattle.store.specs.declared.phases.GateWritten.{GateWritten}
use Rattle.store.specs.declared.store.TheConstants.{LARGEST_BATCH}
use Rattle.store.specs.Commit.{Sequel, MayFollow, Tip, sequel_of, tip_behind, tip_of}
use Rattle.store.specs.Image.{IsBatchOn}
use Rattle.store.specs.Pairing.{Extends, IsBegunBehind}
use Rattle.store.specs.Phases.{HasEntries, IsBegunOn, begun_sequel, begun_size, gate_written_sequel, gate_written_size}
use Rattle.store.specs.State.{IsSettled, StoreState}
use Rattle.store.proofs.Restoring.{says_more}

-- the laws of entries that this file uses
pub record EntryLaws : Type 0 where
  pub replay : (v : RecordVersion) (t : TableState) (ds : List Decision) (es : List EntryValue) → FitAll t ds → AreEntriesOf v ds es → AreEntries v es
      → Replay v t (entries v es) (length ds) es (with_decisions t ds)
  pub net_id : (v : RecordVersion) (t u : TableState) (es : List EntryValue) → EntriesLead v t es u → u.net_id ≡ t.net_id
  pub slots : (v : RecordVersion) (t u : TableState) (es : List EntryValue) → EntriesLead v t es u → u.slots ≡ t.slots

some_decisions : (ds : List Decision) → ds ≢ [] → 1 ≤ length ds
some_decisions [] some = absurd (some refl)
some_decisions (d ∷ ds) some = omega arith

-- the bytes of a change that may follow a table and number lead on from there, whatever contents
-- say them
pub extends : EntryLaws → (tip : Tip) (sequel : Sequel) (size : ℕ) (bytes : List ℕ) → MayFollow tip sequel size
    → SpellsEntriesOf newest sequel.decisions bytes → length sequel.decisions ≤ 64
    → Extends tip.table tip.seq sequel (record { last_sequence = sequel.seq; entry_count = length sequel.decisions; entries = bytes })
extends laws tip sequel size bytes may written few =
    let v = newest in
    let t = tip.table in
    let ds = sequel.decisions in
    let es = written.values in
    let u = with_decisions t ds in
    let b : BatchValue = record { last_sequence = sequel.seq; entry_count = length ds; entries = bytes } in
    let long = some_decisions ds may.legal.some in
    let replay : Replay v t bytes (length ds) es u =
    subst (λ (l : List ℕ). Replay v t l (length ds) es u) (sym written.spelled) (laws.replay v t ds es may.legal.continues.fit written.of_each written.in_range) in
    let is : IsBatchOn v t tip.seq b es u = record { replay = replay; some = long; few = few; number = may.seq } in
    let slots = laws.slots v t u es replay.leads in
    record {
      slots = slots;
      says = λ c says. says_more v c t tip.seq b es u says is (laws.net_id v t u es replay.leads) slots;
    }

pub begun_on : EntryLaws → (s : StoreState) (begun : Begun) → IsSettled s → MayFollow (tip_of s) (begun_sequel begun) (begun_size begun)
    → HasEntries begun → length (begun_sequel begun).decisions ≤ 64 → IsBegunOn s begun
begun_on laws s begun settled may (bytes, written, is) few =
    let more = extends laws (tip_of s) (begun_sequel begun) (begun_size begun) bytes may written few in
    record {
      contents = settled.contents;
      batch = record { last_sequence = (begun_sequel begun).seq; entry_count = length (begun_sequel begun).decisions; entries = bytes };
      journals = record { slots = more.slots; before = settled.says; after = more.says settled.contents settled.says };
      rest = settled.rest;
      bytes = is;
    }

pub begun_behind : EntryLaws → (s : StoreState) (opened : GateWritten) (begun : Begun)
    → MayFollow (tip_behind s (gate_written_sequel opened) (gate_written_size opened)) (begun_sequel begun) (begun_size begun)
    → HasEntries begun → length (begun_sequel begun).decisions ≤ 64 → IsBegunBehind s opened begun
begun_behind laws s opened begun may (bytes, written, is) few =
    record {
      batch = record { last_sequence = (begun_sequel begun).seq; entry_count = length (begun_sequel begun).decisions; entries = bytes };
      extends = extends laws (tip_behind s (gate_written_sequel opened) (gate_written_size opened)) (begun_sequel begun) (begun_size begun) bytes may written few;
      bytes = is;
    }

-- the first phase of a legal batch may follow if there is room after it
module _ (tip : Tip) (commit : Commit) (batch : List Decision)
    (legal : IsLegalContinuation tip.table tip.seq batch × ((commit.batch ≡ batch) × (commit.last ≡ tip.seq + length batch)))
    (roomy : tip.next + LARGEST_BATCH ≤ tip.end) where
  may_follow : (begun : Begun) → begun_sequel begun ≡ sequel_of commit → begun_size begun < LARGEST_BATCH → MayFollow tip (begun_sequel begun) (begun_size begun)
  may_follow begun is fits = record {
    legal = subst (IsLegalContinuation tip.table tip.seq) (sym (ap (λ (c : Sequel). c.decisions) is ∙ legal.1.0)) legal.0;
    seq = ap (λ (c : Sequel). c.seq) is ∙ (legal.1.1 ∙ ap (λ (ds : List Decision). tip.seq + length ds) (sym (ap (λ (c : Sequel). c.decisions) is ∙ legal.1.0)));
    room = omega (arith, fits, roomy);
  }

  pub once_begun : (r : Result Begun Refusal) (P : Begun → Type 0) → length commit.batch ≤ 64 → IfOk r (λ begun. begun_sequel begun ≡ sequel_of commit) → IfOk r HasEntries
      → IfOk r (λ begun. begun_size begun < LARGEST_BATCH)
      → ((begun : Begun) → MayFollow tip (begun_sequel begun) (begun_size begun) → HasEntries begun → length (begun_sequel begun).decisions ≤ 64 → P begun)
      → IfOk r P
  once_begun (Ok begun) P few is entries fits then =
      then begun (may_follow begun is fits) entries (subst (λ (c : Sequel). length c.decisions ≤ 64) (sym is) few)
  once_begun (Err e) P few is entries fits then = tt
