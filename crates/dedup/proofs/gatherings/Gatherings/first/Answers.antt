use Rattle.std.proofs.Common.{refl, sym}
use Rattle.dedup.proofs.Gathered.{first_newer, first_older, no_entries}
use Rattle.dedup.proofs.gatherings.Gatherings.first.Goals as goal

pub returns-in-Some : goal.returns-in-Some
returns-in-Some c =
    rw (← c.self.view_is) (sym (first_older c.self.inside.older.entries c.self.inside.newer.entries _ (sym c.in-Some.ensures.entry) (c.in-Some.ensures.found.0 refl)))

pub returns-in-None : goal.returns-in-None
returns-in-None c =
    rw (← c.self.view_is) (first_newer c.self.inside.older.entries c.self.inside.newer.entries c.first.result (no_entries c.self.inside.older.entries c.in-None.ensures.found) c.first.ensures.entry)
