use Rattle.std.proofs.Common.{◌≡◌, ◌∙◌, refl, rules, subst, sym}
use Rattle.std.proofs.lemmas.List.{nil_from_length}
use Rattle.std.specs.List.{FoldsTo}
use Rattle.flusher_lives.specs.Coming.{Comes}
use Rattle.flusher_lives.proofs.core_feed.play_all.Goals as goal

pub loop-moment-init : goal.loop-moment-init
loop-moment-init c last folds =
    let all : c.into_iter-moment-iterator.result.rest.items ≡ c.args.coming.items = search rules in
    subst (λ l. FoldsTo Comes c.args.core.now l last) all folds

pub loop-moment-preserved : goal.loop-moment-preserved
loop-moment-preserved c last folds =
    c.loop-moment.invariant last
    (subst (λ l. FoldsTo Comes c.loop-moment.core l last) (sym c.in-Some.ensures.steps.0) (c.handle.new.self, (c.handle.result, c.handle.ensures.turn), folds))

pub returns : goal.returns
returns c =
    let none = nil_from_length c.loop-moment.moment-iterator.rest.items (sym c.loop-moment.moment-iterator.rest.ok.0 ∙ c.in-None.ensures.steps.0) in
    c.loop-moment.invariant c.loop-moment.core (subst (λ l. FoldsTo Comes c.loop-moment.core l c.loop-moment.core) (sym none) refl)
