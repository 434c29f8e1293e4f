use Rattle.std.proofs.Common.{◌≡◌, ◌⊎◌, ◌<◌, ◌≤◌, ℕ, slice_index}
use Rattle.disk.specs.Crash.{crashed_byte}
use Rattle.disk.specs.Tracking.{state_from}
use Rattle.disk.proofs.span.crash.Given as goal

abbrev pub invariant-loop-i : goal.invariant-loop-i
invariant-loop-i l = record {
  inside : (k : ℕ) → l.from ≤ k → k < l.i → slice_index l.content k ≡ crashed_byte l.image (state_from l.initial.content l.synced l.marks) k;
  rest : (k : ℕ) → (k < l.from) ⊎ (l.i ≤ k) → slice_index l.content k ≡ slice_index l.initial.content k;
}
