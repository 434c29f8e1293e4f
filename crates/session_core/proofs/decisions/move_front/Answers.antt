use Rattle.std.proofs.Common.{◌∙◌, ◌++◌, ◌∷◌, [], List, Option, sym, ap}
use Rattle.std.specs.Option.{option_to_list}
use Rattle.sessions.specs.declared.decision.Decision.{Decision}
use Rattle.session_core.proofs.Lawful.{moved-one}
use Rattle.session_core.proofs.decisions.move_front.Goals as goal

pub loop-i-preserved : goal.loop-i-preserved
loop-i-preserved c =
    let left = c.pop_front-decision.new.self.items in
    let front =
    sym c.loop-i.invariant.1 ∙ (c.pop_front-decision.ensures.items ∙ ap (λ (found : Option Decision). option_to_list found ++ left) c.unwrap.ensures) in
    let more = moved-one c.loop-i._i c.args.log.now.items c.unwrap.result left front in (
      c.push.ensures ∙ (ap (λ (l : List Decision). l ++ c.unwrap.result ∷ []) c.loop-i.invariant.0 ∙ sym more.0),
      sym more.1,
    )
