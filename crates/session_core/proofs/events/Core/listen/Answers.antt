use Rattle.std.proofs.Common.{◌≡◌, subst, refl}
use Rattle.lw_types.specs.Answer.{Answers}
use Rattle.dedup.specs.Windows.{windows_with}
use Rattle.session_core.specs.Core.{CoreState}
use Rattle.session_core.specs.Events.{IsHeard}
use Rattle.session_core.specs.KeptCore.{core_of}
use Rattle.session_core.proofs.Windows.{heard-as, opened-taken}
use Rattle.session_core.proofs.events.Core.listen.Goals as goal

pub invariant_of-self : goal.invariant_of-self
invariant_of-self c =
    let answers : Answers (windows_with c.self.inside.windows c.self.inside.clock c.args.copy) (λ found _. c.add.new.self ≡ found) c.add.result =
    subst (λ now. Answers (windows_with c.self.inside.windows now c.args.copy) (λ found _. c.add.new.self ≡ found) c.add.result) c.get.ensures.value c.add.ensures.added in
    record {
      opened = opened-taken c.self.inside.clock c.self.inside.windows c.args.copy c.add.new.self c.add.result answers c.add.ensures.same c.self.invariant.opened;
      room = c.self.invariant.room;
    }

pub returns : goal.returns
returns c =
    let answers : Answers (windows_with c.self.inside.windows c.self.inside.clock c.args.copy) (λ found _. c.add.new.self ≡ found) c.add.result =
    subst (λ now. Answers (windows_with c.self.inside.windows now c.args.copy) (λ found _. c.add.new.self ≡ found) c.add.result) c.get.ensures.value c.add.ensures.added in
    let old = core_of c.self.inside in
    let new : CoreState = record old { windows = c.add.new.self } in
    subst (λ (old : CoreState). IsHeard c.args.copy old c.add.result new) c.self.view_is
    (heard-as old c.args.copy c.add.new.self c.add.result new answers c.add.ensures.same (c.is_receivable.ensures.0 c.if-not-is_receivable.false) refl)
