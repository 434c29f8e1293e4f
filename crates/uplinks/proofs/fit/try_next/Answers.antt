use Rattle.std.proofs.Common.{◌∙◌, Some, sym, ap}
use Rattle.counters.specs.Rebuilt.{rebuilt_counter}
use Rattle.uplinks.specs.Fit.{current_trial}
use Rattle.uplinks.proofs.fit.try_next.Goals as goal

pub returns-in-New : goal.returns-in-New
returns-in-New c = c.if_signed.ensures ∙ ap (current_trial c.args.current c.args.frame.now) (sym c.in-New.is ∙ (c.rebuild.ensures.value ∙ ap (rebuilt_counter (Some c.args.current.last_up)) c.f_cnt.ensures))

pub returns-in-Repeat : goal.returns-in-Repeat
returns-in-Repeat c = c.if_signed-in-Repeat.ensures ∙ ap (current_trial c.args.current c.args.frame.now) (sym c.in-Repeat.is ∙ (c.rebuild.ensures.value ∙ ap (rebuilt_counter (Some c.args.current.last_up)) c.f_cnt.ensures))
