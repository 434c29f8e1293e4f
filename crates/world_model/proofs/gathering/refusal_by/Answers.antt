use Rattle.std.proofs.Common.{◌∙◌, ◌≡◌, true, rules}
use Rattle.dedup.specs.Windows.{is_of}
use Rattle.world_model.proofs.Refusing.{refused_there}
use Rattle.world_model.proofs.gathering.refusal_by.Goals as goal

pub returns-then-eq : goal.returns-then-eq
returns-then-eq c now =
    let own : is_of c.args.copy.now.phy_payload c.window-item.result ≡ true = search (rules) in
    c.refusal.ensures
    ∙ refused_there c.args.windows.now c.loop-window.window-index c.window-item.result c.args.copy.now now c.loop-window-test.true c.window-item.is own c.loop-window.invariant.0 c.loop-window.invariant.1
