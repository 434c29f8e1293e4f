use Rattle.std.proofs.Common.{◌≡◌, [], true≢false, length, reverse, sym, ap, ◌∙◌}
use Rattle.dedup.specs.Kept.{windows_of}
use Rattle.dedup.proofs.Gathered.{popped, turned_round, empty_maps, Popped}
use Rattle.dedup.proofs.gatherings.Gatherings.pop_first.Goals as goal
use Rattle.dedup.proofs.gatherings.Gatherings.pop_first.Goals.{then-is_empty, else-is_empty}

-- the windows are the same before the last of the older is taken
same : (c : goal.After-pop) → windows_of c.if-is_empty.self-inside.older.entries c.if-is_empty.self-inside.newer.entries ≡ c.args.self.now
same c = elim c.if-is_empty.branch [
  | then-is_empty w ↦
      let none : c.self.inside.older.entries ≡ [] = empty_maps c.self.inside.older.entries (c.is_empty.ensures.0 w.if-is_empty.true) in
      rw w.self-inside-is (
      (λ z. windows_of (w.reverse.ensures.entries z) (w.swap.ensures.y_after z).entries)
      ∙ (λ z. windows_of (reverse (w.swap.ensures.x_after z).entries) (none z))
      ∙ turned_round c.self.inside.newer.entries
      ∙ ap (λ es. windows_of es c.self.inside.newer.entries) (sym none) ∙ c.self.view_is
      )
  | else-is_empty w ↦ rw w.self-inside-is c.self.view_is
]

-- and if the older map is empty then, there are no windows at all
no_more : (c : goal.After-pop) → length c.if-is_empty.self-inside.older.entries ≡ 0 → c.if-is_empty.self-inside.newer.entries ≡ []
no_more c = elim c.if-is_empty.branch [
  | then-is_empty w ↦ λ none. rw w.self-inside-is (rw w.swap.ensures.y_after (empty_maps c.self.inside.older.entries (c.is_empty.ensures.0 w.if-is_empty.true)))
  | else-is_empty w ↦ λ none.
      let older : length c.self.inside.older.entries ≡ 0 = rw w.self-inside-is at none in
      absurd (true≢false (sym (c.is_empty.ensures.1 older) ∙ w.if-is_empty.false))
]

taken : (c : goal.After-pop) → Popped c.if-is_empty.self-inside.older.entries c.pop.new.self.entries c.if-is_empty.self-inside.newer.entries c.pop.result
taken c = popped _ _ _ c.pop.result c.pop.ensures.entries c.pop.ensures.found (no_more c)

pub returns-clause-first : goal.returns-clause-first
returns-clause-first c = rw (← same c) (taken c).first

pub returns-clause-rest : goal.returns-clause-rest
returns-clause-rest c = rw (← same c) (taken c).rest
