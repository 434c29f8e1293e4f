use Rattle.std.proofs.Common.{◌∙◌, ap}
use Rattle.sessions.specs.Table.{step}
use Rattle.sessions.specs.declared.decision.Decision.{Decision}
use Rattle.world_model.proofs.Turning.{taken}
use Rattle.world_model.proofs.model.decide.Goals as goal

pub returns-in_ok-apply-in-Ok-clause-table : goal.returns-in_ok-apply-in-Ok-clause-table
returns-in_ok-apply-in-Ok-clause-table c =
    let t = c.args.table.now in
    let k = c.args.command.now in
    c.in_ok-apply-in-Ok.ensures ∙ (taken t k c.in-Ok.decision (step t k) c.in-Ok.ensures.decided).0

pub returns-in_ok-apply-in-Ok-clause-effects : goal.returns-in_ok-apply-in-Ok-clause-effects
returns-in_ok-apply-in-Ok-clause-effects c =
    let t = c.args.table.now in
    let k = c.args.command.now in
    let whole = ap (λ (d : Decision). d.effects) c.into_placed-rest.ensures.rest in
    c.into_vec.ensures.effects ∙ (c.into_effects.ensures ∙ (whole ∙ (taken t k c.in-Ok.decision (step t k) c.in-Ok.ensures.decided).1))
