use Rattle.std.proofs.Common.{◌≡◌, ℕ, List, drop}
use Rattle.store.proofs.Syncing.{still_every}
use Rattle.store.proofs.formatting.shut.Goals as goal

pub returns-clause-images : goal.returns-clause-images
returns-clause-images g c honest nothing =
    let state = g.D.Disk.state in
    let old = state c.args.disk.now in
    let mid = state c.write_at.new.self in
    still_every mid (state c.sync.new.self) c.sync.result (λ (image : List ℕ). drop 1 image ≡ drop 1 old.content) (c.sync.ensures.settled honest) (c.sync.ensures.unsettled honest)
    (λ image p. (c.one_write_tears_its_range.ensures 0 1 old mid nothing (c.write_at.ensures.opens honest) image p).after)

pub returns-in_err-write_at-clause-images : goal.returns-in_err-write_at-clause-images
returns-in_err-write_at-clause-images g c honest nothing image permitted =
    let state = g.D.Disk.state in
    (c.one_write_tears_its_range.ensures 0 1 (state c.args.disk.now) (state c.write_at.new.self) nothing (c.write_at.ensures.opens honest) image permitted).after
