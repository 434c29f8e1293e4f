use Rattle.std.proofs.Common.{length, true≢false, sym, arith, ap, ◌∙◌}
use Rattle.dedup.proofs.Gathered.{length-windows_of}
use Rattle.dedup.proofs.gatherings.Gatherings.is_empty.Goals as goal

pub returns-else-is_empty : goal.returns-else-is_empty
returns-else-is_empty c = (
  λ yes. absurd (true≢false (sym yes ∙ c.if-is_empty.false)),
  λ none. c.is_empty.ensures.1 (omega (arith, length-windows_of c.self.inside.older.entries c.self.inside.newer.entries, ap length (c.self.view_is ∙ none))),
)
