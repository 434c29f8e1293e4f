-- Batches that lead from one table to another.
use Rattle.std.proofs.Common.{◌≡◌, ◌↔◌, ◌<◌, ◌≤◌, ◌∙◌, ℕ, List, [], ◌∷◌, ◌++◌, sym, ap, subst, refl}
use Rattle.gate_log.specs.Areas.{LogContents, contents_with_batch}
use Rattle.gate_log.specs.Layout.{BatchValue}
use Rattle.sessions.specs.Table.{TableState}
use Rattle.store_layout.specs.Entries.{EntryValue}
use Rattle.record_codec.specs.declared.version.RecordVersion.{RecordVersion}
use Rattle.store_layout.specs.Superblock.{disk_len, superblock}
use Rattle.store.specs.Image.{AreAreas, IsBatchOn, IsCheckpointOf, BatchesLead, Says}

-- one batch is put on the table, and there is one way to do that
pub lead_on : (v : RecordVersion) (t t' : TableState) (seq : ℕ) (b : BatchValue) (batches : List BatchValue) (es : List EntryValue) → IsBatchOn v t seq b es t'
    → ((fs : List EntryValue) (u : TableState) → IsBatchOn v t seq b fs u → u ≡ t') → (u : TableState) (n : ℕ) → BatchesLead v t seq (b ∷ batches) u n ↔ BatchesLead v t' b.last_sequence batches u n
lead_on v t t' seq b batches es is one u n = (
  λ lead. subst (λ (x : TableState). BatchesLead v x b.last_sequence batches u n) (one lead.0 lead.1 lead.2) lead.3,
  λ lead. (es, t', is, lead),
)

-- one more batch
pub lead_push : (v : RecordVersion) (t : TableState) (seq : ℕ) (batches : List BatchValue) (u : TableState) (n : ℕ) (b : BatchValue) (es : List EntryValue) (w : TableState)
    → BatchesLead v t seq batches u n → IsBatchOn v u n b es w → BatchesLead v t seq (batches ++ b ∷ []) w b.last_sequence
lead_push v t seq [] u n b es w (same, number) is =
    (es, w, subst (λ k. IsBatchOn v t k b es w) number (subst (λ (x : TableState). IsBatchOn v x n b es w) same is), (refl, refl))
lead_push v t seq (x ∷ batches) u n b es w lead is =
    (lead.0, lead.1, lead.2, lead_push v lead.1 x.last_sequence batches u n b es w lead.3 is)

-- contents with one more batch say the table to which its entries lead
pub says_more : (v : RecordVersion) (c : LogContents) (t : TableState) (seq : ℕ) (b : BatchValue) (es : List EntryValue) (u : TableState) → Says v c t seq → IsBatchOn v t seq b es u
    → u.net_id ≡ t.net_id → u.slots ≡ t.slots → Says v (contents_with_batch c b) u b.last_sequence
says_more v c t seq b es u says is net slots =
    let j = c.journal in
    let checkpoint_of : ℕ → ℕ → Type 0 = λ n k. IsCheckpointOf v n k j.records j.header.record_count says.journal.base in
    record {
      net_id = subst (λ k. k < 64) (sym net) says.net_id;
      slots = subst (λ k. (1 ≤ k) × (k ≤ 4096)) (sym slots) says.slots;
      areas = subst (λ k. AreAreas k c.areas) (sym slots) says.areas;
      front = says.front ∙ (ap (λ k. superblock k t.slots) (sym net) ∙ ap (superblock u.net_id) (sym slots));
      size = says.size ∙ ap disk_len (sym slots);
      of_version = says.of_version;
      generation = says.generation;
      journal = record {
        base = says.journal.base;
        checkpoint = subst (λ k. checkpoint_of u.net_id k) (sym slots) (subst (λ k. checkpoint_of k t.slots) (sym net) says.journal.checkpoint);
        batches = lead_push v says.journal.base j.header.sequence j.batches t seq b es u says.journal.batches is;
      };
    }
