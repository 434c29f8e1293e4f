use Rattle.std.proofs.Common.{arith}
use Rattle.dedup.proofs.Gathered.{joined_answers, joined_newer, joined_older, same_after}
use Rattle.dedup.specs.Kept.{windows_of}
use Rattle.dedup.proofs.gatherings.Gatherings.join.Goals as goal

pub returns-then-index-older-clause-joined : goal.returns-then-index-older-clause-joined
returns-then-index-older-clause-joined c =
    let older = c.self.inside.older.entries in
    let newer = c.self.inside.newer.entries in
    let is = joined_older older newer _ c.args.index c.index_mut.result.now c.args.hearing c.index_mut.ensures.value (omega (arith, c.len-older.ensures.len)) in
    rw (← c.self.view_is) (joined_answers _ _ _ c.add.new.self c.add.result is c.add.ensures.added)

pub returns-then-index-older-clause-same : goal.returns-then-index-older-clause-same
returns-then-index-older-clause-same c =
    rw (← c.self.view_is) (same_after (λ es. windows_of es c.self.inside.newer.entries) c.self.inside.older.entries _ c.index_mut.result.now c.add.new.self c.add.result c.index_mut.ensures.value c.add.ensures.same)

pub returns-else-index-older-clause-joined : goal.returns-else-index-older-clause-joined
returns-else-index-older-clause-joined c =
    let older = c.self.inside.older.entries in
    let newer = c.self.inside.newer.entries in
    let is = joined_newer older newer _ c.args.index c.index_mut-else-index-older.result.now c.args.hearing c.index_mut-else-index-older.ensures.value (omega (arith, c.len-older.ensures.len)) in
    rw (← c.self.view_is) (joined_answers _ _ _ c.add-else-index-older.new.self c.add-else-index-older.result is c.add-else-index-older.ensures.added)

pub returns-else-index-older-clause-same : goal.returns-else-index-older-clause-same
returns-else-index-older-clause-same c =
    rw (← c.self.view_is) (same_after (windows_of c.self.inside.older.entries) c.self.inside.newer.entries _ c.index_mut-else-index-older.result.now c.add-else-index-older.new.self c.add-else-index-older.result c.index_mut-else-index-older.ensures.value c.add-else-index-older.ensures.same)
