use denote.Param.Members.{Called}
use Rattle.std.proofs.Common.{Vec, Global, [], ◌∷◌, ◌++◌, rules, refl, ◌≡◌, ◌∙◌, ap, append_assoc, subst, sym}
use Rattle.std.proofs.lemmas.List.{append-nil, nil_from_length}
use Rattle.flusher_lives.specs.CoreLives.{AreCoreLives}
use Rattle.flusher_lives.specs.Deciding.{EachHolds, HaveDecided, KeepsDecided, NumberedTable}
use Rattle.flusher.specs.Released.{effects_of_all}
use Rattle.flusher_lives.specs.declared.core_lives.CoreLife.{CoreLife}
use Rattle.flusher.specs.declared.released.Released.{Released}
use Rattle.flusher_lives.proofs.CoreLives.{in_all}
use Rattle.flusher_lives.proofs.Decided.{folds_then}
use Rattle.flusher_lives.proofs.core_lives.decide_over_lives.Goals as goal

pub loop-life-init : goal.loop-life-init
loop-life-init g c =
    let all : c.into_iter-life-iterator.result.rest.items ≡ c.args.lives.items = search rules in (
      c.requires,
      (
        λ last out are. subst (λ l. AreCoreLives g.D.Disk (λ (released : Vec Released Global). effects_of_all released.items) (λ before released after. Called g.C.FnMut before (released, tt) tt after) l c.args.disk last c.args.out.now out) all are,
        ([], (all, λ first held image permitted. (first, (held image permitted, refl)))),
      ),
    )

pub loop-life-preserved : goal.loop-life-preserved
loop-life-preserved g c =
    let so = c.loop-life.invariant.1.1 in
    let next = c.in-Some.ensures.steps.0 in
    let life = c.in-Some.life in
    let state = g.D.Disk.state in (
      c.live-disk.ensures.callable,
      (
        λ last out are. c.loop-life.invariant.1.0 last out
            (subst (λ l. AreCoreLives g.D.Disk (λ (released : Vec Released Global). effects_of_all released.items) (λ before released after. Called g.C.FnMut before (released, tt) tt after) l c.loop-life.disk last c.loop-life.out out) (sym next)
            ((c.live-disk.result, c.live-disk.new.out), c.live-disk.ensures.course, are)),
        (
          so.0 ++ life ∷ [],
          (
            append_assoc so.0 (life ∷ []) _ ∙ (ap (λ l. so.0 ++ l) (sym next) ∙ so.1.0),
            λ first held image permitted.
                let kept = c.live-disk.ensures.kept image permitted in
                let found = so.1.1 first held kept.0 kept.1.0 in
                let after = kept.1.1 found.0 found.1.0 in (
                  after.0,
                  (
                    after.1.0,
                    folds_then
                        (λ (before : NumberedTable × g.row.C.Denot) (life : CoreLife) (after : NumberedTable × g.row.C.Denot).
                        KeepsDecided (λ (released : Vec Released Global). effects_of_all released.items) (λ before released after. Called g.C.FnMut before (released, tt) tt after)
                        life.coming.items before.0 after.0 before.1 after.1)
                        (first, c.args.out.now) (found.0, c.loop-life.out) (after.0, c.live-disk.new.out) so.0 (life ∷ []) found.1.1
                        ((after.0, c.live-disk.new.out), after.1.1, refl),
                  ),
                ),
          ),
        ),
      ),
    )

pub returns-clause-course : goal.returns-clause-course
returns-clause-course g c =
    let none = nil_from_length c.loop-life.life-iterator.rest.items (sym c.loop-life.life-iterator.rest.ok.0 ∙ c.in-None.ensures.steps.0) in
    c.loop-life.invariant.1.0 c.loop-life.disk c.loop-life.out
    (subst (λ l. AreCoreLives g.D.Disk (λ (released : Vec Released Global). effects_of_all released.items) (λ before released after. Called g.C.FnMut before (released, tt) tt after) l c.loop-life.disk c.loop-life.disk c.loop-life.out c.loop-life.out) (sym none) refl)

pub returns-clause-decided : goal.returns-clause-decided
returns-clause-decided g c =
    let so = c.loop-life.invariant.1.1 in
    let none = nil_from_length c.loop-life.life-iterator.rest.items (sym c.loop-life.life-iterator.rest.ok.0 ∙ c.in-None.ensures.steps.0) in
    let all : so.0 ≡ c.args.lives.items = sym (append-nil so.0) ∙ (ap (λ l. so.0 ++ l) (sym none) ∙ so.1.0) in
    λ first held. subst (λ lives. EachHolds (g.D.Disk.state c.loop-life.disk) (λ last. HaveDecided (λ (released : Vec Released Global). effects_of_all released.items) (λ before released after. Called g.C.FnMut before (released, tt) tt after) lives first last c.args.out.now c.loop-life.out)) all (so.1.1 first held)

pub returns-clause-left : goal.returns-clause-left
returns-clause-left g c first held image permitted =
    let decided = returns-clause-decided g c first held image permitted in (
      decided.0,
      (
        decided.1.0,
        in_all g.D.Disk.honest (λ (released : Vec Released Global). effects_of_all released.items) (λ before released after. Called g.C.FnMut before (released, tt) tt after)
            (record { folding = c.folding.ensures.table; joins = c.joining.ensures.continues; composing = c.composing.ensures.table; effects = c.composing.ensures.effects })
            c.parts_of_longer_lists.ensures.longer c.parts_of_longer_lists.ensures.extended
            c.no_mark_stands_twice.ensures.after c.no_mark_stands_twice.ensures.what_left c.args.lives.items
            first decided.0 c.args.out.now c.loop-life.out decided.1.1,
      ),
    )
