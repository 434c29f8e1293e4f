use Rattle.std.proofs.Common.{◌∙◌}
use Rattle.disk.specs.State.{IsSettledAt, IsTorn}
use Rattle.store.proofs.EmptyStore.{OnOk-map}
use Rattle.store.proofs.Syncing.{still_every}
use Rattle.store.proofs.formatting.open_front.Goals as goal

pub returns-clause-images : goal.returns-clause-images
returns-clause-images g c honest nothing =
    let state = g.D.Disk.state in
    let old = state c.args.disk.now in
    still_every (state c.write_at.new.self) (state c.sync.new.self) c.sync.result (IsTorn 0 1 old.content) (c.sync.ensures.settled honest) (c.sync.ensures.unsettled honest)
    (c.one_write_tears_its_range.ensures 0 1 old (state c.write_at.new.self) nothing (c.write_at.ensures.opens honest))

pub returns-in_err-write_at-clause-images : goal.returns-in_err-write_at-clause-images
returns-in_err-write_at-clause-images g c honest nothing =
    let state = g.D.Disk.state in
    c.one_write_tears_its_range.ensures 0 1 (state c.args.disk.now) (state c.write_at.new.self) nothing (c.write_at.ensures.opens honest)

pub returns-clause-opened : goal.returns-clause-opened
returns-clause-opened g c honest =
    let state = g.D.Disk.state in
    OnOk-map c.sync.result
    (λ (settled : IsSettledAt (state c.write_at.new.self).content (state c.sync.new.self)). settled.content ∙ c.in_ok-write_at.ensures.written honest)
    (c.sync.ensures.settled honest)

pub returns-clause-settled : goal.returns-clause-settled
returns-clause-settled g c honest =
    let state = g.D.Disk.state in
    OnOk-map c.sync.result (λ (settled : IsSettledAt (state c.write_at.new.self).content (state c.sync.new.self)). settled.nothing_open) (c.sync.ensures.settled honest)
