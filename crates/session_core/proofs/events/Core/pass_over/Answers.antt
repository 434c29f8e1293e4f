use Rattle.std.proofs.Common.{◌∙◌, Err, ap, sym, subst}
use Rattle.session_core.specs.Core.{CoreState, with_outcome}
use Rattle.session_core.specs.Events.{Handles}
use Rattle.session_core.specs.KeptCore.{core_of}
use Rattle.session_core.proofs.Windows.{handles-lack}
use Rattle.session_core.proofs.events.Core.pass_over.Goals as goal

pub returns : goal.returns
returns c =
    let noted = c.noted.ensures.noted ∙ ap (λ (s : CoreState). with_outcome s s.decisions (Err c.lack-refusal.result)) (sym c.self.view_is) in
    subst (λ (old : CoreState). Handles old c.args.command.now (Err c.lack-refusal.result) c.noted.new.self) c.self.view_is
    (handles-lack (core_of c.self.inside) c.args.command.now c.lack-refusal.result c.noted.new.self c.lack-refusal.ensures.full c.lack-refusal.ensures.lack c.lack-refusal.ensures.lawful noted)
