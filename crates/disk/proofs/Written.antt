-- A write inside the tracked range keeps a disk in memory tracked.
use Rattle.std.proofs.Common.{◌≡◌, ◌⊎◌, inl, inr, ◌<◌, ◌≤◌, ℕ, ◌+◌, Bool, List, length, get_or, sym, ◌∙◌, arith}
use Rattle.std.proofs.lemmas.Grind.{common_steps}
use Rattle.disk.specs.State.{bytes_after_write}
use Rattle.disk.specs.Tracking.{IsTracked}

pub length-written : (old bytes : List ℕ) (at : ℕ) → at + length bytes ≤ length old → length (bytes_after_write old at bytes) ≡ length old
length-written old bytes at within = grind (arith, common_steps)

pub written_outside : (old bytes : List ℕ) (at i : ℕ) → at + length bytes ≤ length old → (i < at) ⊎ (at + length bytes ≤ i) → get_or (bytes_after_write old at bytes) i 0 ≡ get_or old i 0
written_outside old bytes at i within (inl below) = grind (arith, common_steps)
written_outside old bytes at i within (inr above) = grind (arith, common_steps)

pub tracked_write : (content synced bytes : List ℕ) (marks : List Bool) (low high at : ℕ) → IsTracked content synced marks low high → low ≤ at → at + length bytes ≤ high → IsTracked (bytes_after_write content at bytes) synced marks low high
tracked_write content synced bytes marks low high at tracked from to =
    let within : at + length bytes ≤ length content = omega (arith, tracked.within) in
    let size = length-written content bytes at within in
    record {
      synced_length = tracked.synced_length ∙ sym size;
      marks_length = tracked.marks_length ∙ sym size;
      order = tracked.order;
      within = omega (arith, size, tracked.within);
      closed = tracked.closed;
      same = λ i outside. tracked.same i outside ∙ sym (written_outside content bytes at i within (out i outside));
    }
  where
    out : (i : ℕ) → (i < low) ⊎ (high ≤ i) → (i < at) ⊎ (at + length bytes ≤ i)
    out i (inl below) = inl (omega arith)
    out i (inr above) = inr (omega arith)
