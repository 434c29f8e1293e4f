use Rattle.std.proofs.Common.{◌≡◌}
use Rattle.store_files.proofs.copying.copied.Given as goal

abbrev pub invariant-loop : goal.invariant-loop
invariant-loop g l = record {
  same : g.S.Source.still → g.S.Source.content l.source ≡ g.S.Source.content l.initial.source;
  -- a source that nobody writes is read once
  first : g.S.Source.still → l.counter ≡ 0;
}
