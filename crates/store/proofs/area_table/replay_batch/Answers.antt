use Rattle.std.proofs.Common.{◌≡◌, ◌≢◌, ◌∙◌, ℕ, List, Result, Ok, Err, subst}
use Rattle.std.proofs.Common.{arith}
use Rattle.std.proofs.lemmas.Grind.{common_steps}
use Rattle.std.proofs.lemmas.Result.{IfErr-weaker}
use Rattle.std.specs.Result.{MatchResult}
use Rattle.lw_types.specs.declared.refusal.Refusal.{Refusal}
use Rattle.lw_types.specs.declared.refusal.Refusal.TheVariants.{Damaged, OutOfMemory}
use Rattle.gate_log.specs.Layout.{BatchValue}
use Rattle.sessions.specs.Table.{TableState}
use Rattle.record_codec.specs.declared.version.RecordVersion.{RecordVersion}
use Rattle.store_layout.specs.Entries.{EntryValue, Replay, ReplayGoesOn}
use Rattle.store.specs.Image.{IsBatchOn}
use Rattle.store.proofs.area_table.replay_batch.Goals as goal

-- what replays is the batch, if its number and its count are in order
replayed : {U : Type 0} (v : RecordVersion) (t now : TableState) (seq : ℕ) (b : BatchValue) (r : Result U Refusal)
    → ((u u' : TableState) (es fs : List EntryValue) → Replay v t b.entries b.entry_count es u → Replay v t b.entries b.entry_count fs u' → u ≡ u')
    → ((es : List EntryValue) (u : TableState) → Replay v t b.entries b.entry_count es u → IsBatchOn v t seq b es u)
    → MatchResult r (λ _. (es : List EntryValue) × Replay v t b.entries b.entry_count es now)
    (λ e. e ≢ OutOfMemory → (e ≡ Damaged) × ((es : List EntryValue) (u : TableState) → Replay v t b.entries b.entry_count es u → ⊥))
    → MatchResult r
    (λ _. (es : List EntryValue) × IsBatchOn v t seq b es now × ((fs : List EntryValue) (u : TableState) → IsBatchOn v t seq b fs u → u ≡ now))
    (λ e. e ≢ OutOfMemory → (e ≡ Damaged) × ((es : List EntryValue) (u : TableState) → ¬ (IsBatchOn v t seq b es u)))
replayed v t now seq b (Ok x) one is (es, put) = (es, is es now put, λ fs u other. one u now fs es other.replay put)
replayed v t now seq b (Err e) one is refused = λ other. ((refused other).0, λ es u batch. (refused other).1 es u batch.replay)

pub returns-clause-put : goal.returns-clause-put
returns-clause-put c =
    let v = c.args.version in
    let t = c.args.table.now in
    let now = c.replay.new.table in
    let b = c.args.batch.now in
    let bytes : c.entries.result.now ≡ b.entries = c.entries.ensures in
    let count : c.from.result ≡ b.entry_count = c.from.ensures ∙ c.entry_count-2.ensures in
    let put_in = λ (l : List ℕ) (n : ℕ). MatchResult c.replay.result (λ _. (es : List EntryValue) × Replay v t l n es now)
    (λ e. e ≢ OutOfMemory → (e ≡ Damaged) × ((es : List EntryValue) (u : TableState) → Replay v t l n es u → ⊥)) in
    replayed v t now c.args.seq b c.replay.result
    (λ u u' es fs one other. c.bytes_replay_in_one_way.ensures.table v t u u' b.entries b.entry_count es fs one other)
    (λ es u put. record {
      replay = put;
      some = omega (arith, c.if-count-lt1.false, c.from-count.ensures, c.entry_count.ensures);
      few = omega (arith, c.if-count.false, c.from-count.ensures, c.entry_count.ensures);
      number = grind (arith, common_steps);
    })
    (subst (λ n. put_in b.entries n) count (subst (λ (l : List ℕ). put_in l c.from.result) bytes c.replay.ensures.replayed))

pub returns-clause-memory : goal.returns-clause-memory
returns-clause-memory c =
    let v = c.args.version in
    let t = c.args.table.now in
    let b = c.args.batch.now in
    let bytes : c.entries.result.now ≡ b.entries = c.entries.ensures in
    let count : c.from.result ≡ b.entry_count = c.from.ensures ∙ c.entry_count-2.ensures in
    IfErr-weaker c.replay.result _ _
    (λ e goes_on memory. record {
      some = omega (arith, c.if-count-lt1.false, c.from-count.ensures, c.entry_count.ensures);
      few = omega (arith, c.if-count.false, c.from-count.ensures, c.entry_count.ensures);
      number = grind (arith, common_steps);
      goes_on = subst (λ n. ReplayGoesOn v t b.entries n) count (subst (λ (l : List ℕ). ReplayGoesOn v t l c.from.result) bytes (goes_on memory));
    })
    c.replay.ensures.memory
