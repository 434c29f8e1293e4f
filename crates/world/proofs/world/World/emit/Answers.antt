use Rattle.std.proofs.Common.{◌∙◌, ◌+◌, inl, inr, ap, arith}
use Rattle.gateway_wire.specs.Emission.{emission}
use Rattle.world.specs.declared.answer.Answer.TheVariants as answers
use Rattle.world.specs.Answers.{AnswersEmit}
use Rattle.world.proofs.Emitting.{emits, found_at, same_condition}
use Rattle.world.proofs.Opening.{both_ways}
use Rattle.world.proofs.world.World.emit.Goals as goal

pub returns-in-Ok-clause-course : goal.returns-in-Ok-clause-course
returns-in-Ok-clause-course g c origin course f =
    let world = c.args.self.now in
    let lookup = c.in-Some.ensures.lookup in
    let there = found_at _ world.released.items world.emitted c.in-Some.released.now c.deref.ensures.value lookup.3.0 lookup.1 in
    let answer = answers.Emitted c.in-Ok.emission in
    let right =
    emits origin course world.released.items world.emitted c.in-Some.released.now answer f.left f.emitted there
    (inl (ap answers.Emitted (c.in-Ok.ensures.emission ∙ ap emission c.effect.ensures))) in (
      both_ways course.is_open (AnswersEmit course answer) right,
      record {
        condition = same_condition g.D.Disk.state origin course (course.emitted + 1) world.condition f.condition;
        left = f.left;
        emitted = let before = f.emitted in omega (arith, before);
        once = f.once;
      },
    )

pub returns-in-Err-clause-course : goal.returns-in-Err-clause-course
returns-in-Err-clause-course g c origin course f =
    let world = c.args.self.now in
    let lookup = c.in-Some.ensures.lookup in
    let there = found_at _ world.released.items world.emitted c.in-Some.released.now c.deref.ensures.value lookup.3.0 lookup.1 in
    let answer = answers.Refused c.in-Err.refusal in
    let right =
    emits origin course world.released.items world.emitted c.in-Some.released.now answer f.left f.emitted there (inr (ap answers.Refused c.in-Err.ensures.emission)) in
    (both_ways course.is_open (AnswersEmit course answer) right, f)
