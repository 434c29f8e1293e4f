use Rattle.std.proofs.Common.{◌≡◌, ◌∙◌, ◌+◌, ◌<◌, ◌≤◌, [], ◌∷◌, ◌++◌, cond, is_ok, length, take, sym, ap, subst, arith}
use Rattle.std.proofs.lemmas.List.{take_more, take_all, length_push}
use Rattle.flusher.specs.Released.{effects_of_all}
use Rattle.world.specs.Course.{beginning}
use Rattle.world.specs.Calls.{ForetellsAll}
use Rattle.world.specs.Follows.{Runs}
use Rattle.world.specs.Stepping.{MakesSteps}
use Rattle.world.proofs.OneLife.{one_life}
use Rattle.world.proofs.Stepping.{runs_on, foretells_on, makes_more}
use Rattle.world.proofs.runs.run.Goals as goal

pub loop-step-preserved : goal.loop-step-preserved
loop-step-preserved g c =
    let state = g.D.Disk.state in
    let failures = g.D.Disk.failures in
    let outlook = g.D.Disk.outlook in
    let before = c.loop-step.invariant in
    let old = c.args.world.now in
    let new = c.step.new.self in
    let steps = c.args.steps.now in
    let at = c.loop-step.step-index in
    let step = c.step-item.result in
    let told = c.loop-step.answers.items in
    let added : c.push-pushed.new.self.items ≡ told ++ c.step.result ∷ [] =
    c.push-pushed.ensures.items ∙ ap (λ r. cond (is_ok r) (told ++ c.step.result ∷ []) told) c.unwrap.ensures in
    let within : at < length steps = omega (arith, c.loop-step-test.true) in
    let next : take (at + 1) steps ≡ take at steps ++ step ∷ [] = take_more steps at step within ∙ ap (λ s. take at steps ++ s ∷ []) (sym c.step-item.is) in
    let runs = runs_on state old c.loop-step.world new (take at steps) told step c.step.result before.1.0 c.step.ensures.course in
    let foretold =
    foretells_on failures outlook old.condition c.loop-step.world.condition new.condition (take at steps) told step c.step.result before.1.1.0 c.step.ensures.calls in
    let made =
    makes_more g.D.Disk old c.loop-step.world new (take at steps) told step c.step.result before.1.1.1.0
    (record { moves = c.step.ensures.course; calls = c.step.ensures.calls; room = c.step.ensures.room_told; image = c.step.ensures.crashed }) in
    let longer = ap length added ∙ length_push told c.step.result in
    let grown = c.push-pushed.ensures.capacity in (
      c.step.ensures.sound,
      (
        subst (λ ss. Runs state old ss c.push-pushed.new.self.items new) (sym next)
            (subst (λ told. Runs state old (take at steps ++ step ∷ []) told new) (sym added) runs),
        (
          subst (λ ss. ForetellsAll failures outlook old.condition ss c.push-pushed.new.self.items new.condition) (sym next)
              (subst (λ told. ForetellsAll failures outlook old.condition (take at steps ++ step ∷ []) told new.condition) (sym added) foretold),
          (
            subst (λ ss. MakesSteps g.D.Disk old ss c.push-pushed.new.self.items new) (sym next)
                (subst (λ told. MakesSteps g.D.Disk old (take at steps ++ step ∷ []) told new) (sym added) made),
            (omega (arith, longer, before.1.1.1.1.0), omega (arith, before.1.1.1.1.1)),
          ),
        ),
      ),
    )

pub returns-clause-one_life : goal.returns-clause-one_life
returns-clause-one_life g c origin f still =
    let steps = c.args.steps.now in
    let told = c.loop-step.answers.items in
    let at = c.loop-step.step-index in
    let past : length steps ≤ at = omega (arith, c.loop-step-test.false) in
    let runs = subst (λ ss. Runs g.D.Disk.state c.args.world.now ss told c.loop-step.world) (take_all at steps past) c.loop-step.invariant.1.0 in
    let run = runs origin (beginning origin) f in
    one_life c.of_runs.ensures origin (effects_of_all c.loop-step.world.released.items) steps told run.0 still run.1.left

pub returns-clause-calls : goal.returns-clause-calls
returns-clause-calls g c =
    let steps = c.args.steps.now in
    let told = c.loop-step.answers.items in
    let at = c.loop-step.step-index in
    let past : length steps ≤ at = omega (arith, c.loop-step-test.false) in
    subst (λ ss. ForetellsAll g.D.Disk.failures g.D.Disk.outlook c.args.world.now.condition ss told c.loop-step.world.condition) (take_all at steps past)
    c.loop-step.invariant.1.1.0
