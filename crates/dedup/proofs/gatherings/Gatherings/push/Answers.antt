use Rattle.std.proofs.Common.{ap, ◌∙◌}
use Rattle.std.specs.Prelude.{bytes_eq}
use Rattle.indexmap.proofs.CallerLemmas.{insert_entry-new}
use Rattle.dedup.specs.Kept.{windows_of}
use Rattle.dedup.proofs.Gathered.{absent, pushed}
use Rattle.dedup.proofs.gatherings.Gatherings.push.Goals as goal

pub returns-clause-pushed : goal.returns-clause-pushed
returns-clause-pushed c =
    let older = c.self.inside.older.entries in
    let newer = c.self.inside.newer in
    let bytes = c.args.phy_payload in
    let none = absent older newer.entries bytes (rw c.self.view_is c.requires.none) in
    rw (← c.self.view_is) (ap (windows_of older) (c.in_ok-insert.ensures.entries ∙ insert_entry-new bytes_eq newer bytes c.args.gathering none) ∙ pushed older newer.entries (bytes, c.args.gathering))
