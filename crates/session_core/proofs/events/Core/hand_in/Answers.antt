use Rattle.std.proofs.Common.{sym, subst}
use Rattle.session_core.specs.Core.{CoreState}
use Rattle.session_core.specs.Events.{Handles}
use Rattle.session_core.specs.KeptCore.{core_of}
use Rattle.session_core.proofs.Windows.{handles-kept}
use Rattle.session_core.proofs.events.Core.hand_in.Goals as goal

pub returns : goal.returns
returns c =
    subst (λ r. Handles c.args.self.now c.args.command r c.noted.new.self) (sym c.noted.ensures.same)
    (subst (λ (old : CoreState). Handles old c.args.command c.keep-answer.result c.noted.new.self) c.self.view_is
    (handles-kept (core_of c.self.inside) c.args.command c.keep-answer.result c.keep-answer.new.self c.noted.new.self
    (record { full = c.keep-answer.ensures.full; made = c.keep-answer.ensures.made; same = c.keep-answer.ensures.same; lawful = c.keep-answer.ensures.lawful }) c.noted.ensures.noted))
