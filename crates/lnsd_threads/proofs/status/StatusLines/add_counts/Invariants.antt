-- The lines so far were added, or memory ran out before.
use Rattle.std.proofs.Common.{◌≡◌, ◌++◌, ℕ, List, take}
use denote.Ref.{Bor}
use Rattle.std.specs.List.{flat_map}
use Rattle.std.specs.Prelude.{IsErr, IsOk}
use Rattle.std.specs.String.{string_bytes}
use Rattle.lnsd_operator.specs.Counted.{count_line}
use Rattle.lnsd_threads.proofs.status.StatusLines.add_counts.Given as goal

abbrev pub invariant-loop-name : goal.invariant-loop-name
invariant-loop-name l =
    (IsErr l.initial.self.result → l.self ≡ l.initial.self)
    × (IsOk l.self.result → string_bytes l.self.text ≡ string_bytes l.initial.self.text ++ flat_map (λ (counted : Bor (List ℕ) × ℕ). count_line counted.0.now counted.1) (take l.name-index l.counts))
