use Rattle.std.proofs.Common.{◌∙◌, ap, sym}
use Rattle.sessions.specs.Restored.{raised_table}
use Rattle.sessions.proofs.Raising.{raised_by_all-take_more}
use Rattle.sessions.proofs.table.Table.raise_all.Goals as goal

pub loop-session-preserved : goal.loop-session-preserved
loop-session-preserved c =
    let s = c.session-item.result in
    c.raise-known.ensures.raised
    ∙ (ap (raised_table s) c.loop-session.invariant
    ∙ sym (raised_by_all-take_more c.args.sessions.now c.args.self.now c.loop-session.session-index s c.loop-session-test.true c.session-item.is))
