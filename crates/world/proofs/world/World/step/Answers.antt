use Rattle.std.proofs.Common.{◌∙◌, refl, subst, sym}
use Rattle.world.specs.Calls.{AreRecordedCalls, AreCallsAt, ForetellsAt, calls_after}
use Rattle.world.specs.Follows.{FollowsCondition}
use Rattle.world.specs.Tells.{ConditionTellsRoom}
use Rattle.world.proofs.Going.{step_keeps, right_open, is_own}
use Rattle.world.proofs.Telling.{no_image}
use Rattle.world.proofs.world.World.step.Goals as goal

pub returns-in-Open : goal.returns-in-Open
returns-in-Open g c =
    let state = g.D.Disk.state in
    let failures = g.D.Disk.failures in
    let outlook = g.D.Disk.outlook in
    let step = c.args.step.now in
    let answer = c.step.result in
    let own = is_own step c.in_default.not-Emit c.in_default.not-Crash in
    record {
      sound = (c.step.ensures.sound, c.step.ensures.room);
      course = λ origin course f.
          let condition = subst (FollowsCondition state origin course) c.in-Open.is f.condition in
          let moved = c.step.ensures.course origin course condition.1 in
          let kept = step_keeps c.of_runs.ensures origin course step answer own in (
            right_open origin course step answer condition.0 moved.0,
            record {
              condition = (kept.is_open ∙ condition.0, moved.1);
              left = c.step.ensures.left origin course condition.1 f.left;
              emitted = kept.emitted ∙ f.emitted;
              once = kept.once f.once;
            },
          );
      calls = λ calls are.
          let here = subst (AreCallsAt failures outlook calls) c.in-Open.is are in
          let told = c.step.ensures.calls calls (here _ refl) in
          (told.0, λ disk is. subst (λ d. AreRecordedCalls (calls_after calls step answer) (failures d) (outlook d)) (sym is) told.1);
      room_told = subst (λ p. ConditionTellsRoom state p step answer) (sym c.in-Open.is) c.step.ensures.room_told;
      crashed = no_image state c.args.self.now.condition _ step own;
    }

pub returns-in-Crash-clause-calls : goal.returns-in-Crash-clause-calls
returns-in-Crash-clause-calls g c =
    subst (λ step. ForetellsAt g.D.Disk.failures g.D.Disk.outlook c.args.self.now.condition step c.crash.result c.crash.new.self.condition) (sym c.in-Crash.is)
    c.crash.ensures.calls
