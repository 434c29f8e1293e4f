use Rattle.std.proofs.Common.{◌≡◌, ◌≤◌, length}
use Rattle.store_files.specs.Images.{AreFirstOf}
use Rattle.store_files.proofs.image.read_journal.Given as goal

abbrev pub invariant-loop : goal.invariant-loop
invariant-loop g l = record {
  grown : length l.initial.image.items ≤ length l.image.items;
  within : length l.image.items ≤ l.end;
  front : g.S.Source.still → AreFirstOf (g.S.Source.content l.initial.source) l.initial.image.items
      → AreFirstOf (g.S.Source.content l.initial.source) l.image.items;
  same : g.S.Source.still → g.S.Source.content l.source ≡ g.S.Source.content l.initial.source;
  same_length : length (g.S.Source.content l.source) ≡ length (g.S.Source.content l.initial.source);
}
