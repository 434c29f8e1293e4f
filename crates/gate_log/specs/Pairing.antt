-- What a log's disk holds while two batches share a sync.
use Rattle.std.specs.Prelude.{◌≡◌, ℕ, ◌+◌, length}
use Rattle.disk.specs.State.{EveryImage}
use Rattle.gate_log.specs.declared.pairing.Paired.{Paired}
use Rattle.gate_log.specs.Areas.{LogContents, Holds, HoldsOneOf, IsStaged, contents_with_batch}
use Rattle.gate_log.specs.Layout.{BatchValue, IsHead, body, head_of, spelling}
use Rattle.gate_log.specs.Log.{Knows, KnowsOther, LogState}

-- the number of bytes from each batch's gate to the next one
abbrev pub paired_size : Paired → ℕ
paired_size phase = phase.size

abbrev pub paired_next_size : Paired → ℕ
paired_next_size phase = phase.next_size

-- The gate of one batch is open, and after that batch stands the next one with its gate closed.
-- Each image that a crash may leave holds the contents with the first batch or without it, and
-- never the second batch.
pub record IsPaired (log : LogState) (c : LogContents) (b n : BatchValue)
    (size next_size : ℕ) : Type 0 where
  pub staged : IsStaged c.areas.live (spelling (contents_with_batch c b).journal) (body n)
      log.disk.content
  pub holds : Holds (contents_with_batch c b) log.disk.content
  pub head : IsHead (head_of n)
  pub images : EveryImage log.disk (HoldsOneOf c (contents_with_batch c b))
  pub bytes : size ≡ length (body b) + 1
  pub next_bytes : next_size ≡ length (body n) + 1
  pub knows : Knows log c
  pub other_gate : KnowsOther log c
