use Rattle.std.proofs.Common.{◌∙◌, length, ap, subst, sym, arith}
use Rattle.std.proofs.lemmas.List.{length-map}
use Rattle.disk.specs.Crash.{IsCrashed}
use Rattle.flusher.specs.Released.{effect_of, effects_of_all}
use Rattle.world.specs.declared.step.Step.TheVariants as steps
use Rattle.world.specs.Answers.{AnswersCrash}
use Rattle.world.specs.Calls.{AreCallsAt, calls_after}
use Rattle.world.specs.Course.{course_after}
use Rattle.world.specs.Follows.{FollowsCondition}
use Rattle.world.specs.Sound.{HasDisk}
use Rattle.world.proofs.Known.{unseen}
use Rattle.world.proofs.Opening.{disk_survives, crashed_survives, both_ways, crash_keeps}
use Rattle.world.proofs.Telling.{one_disk}
use Rattle.world.proofs.world.World.crash.Goals as goal

pub returns-clause-course : goal.returns-clause-course
returns-clause-course g c origin course f =
    let state = g.D.Disk.state in
    let world = c.args.self.now in
    let image = c.args.image.now in
    let answer = c.reopen-condition.result.1 in
    let old = c.end-disk.result in
    let disk = c.crash.new.self in
    let came = subst (λ p. HasDisk p old) c.replace.ensures.value c.end-disk.ensures in
    let before = disk_survives state origin course world.condition old f.condition came in
    let survives = crashed_survives origin course (state old) (state disk) before c.crash.ensures.permitted
    (c.settled_disk_keeps_its_content.ensures (state disk) c.crash.ensures.settled.nothing_open) in
    let opened = c.reopen-condition.ensures.course origin course c.crash.ensures.settled.nothing_open survives in
    let next = course_after origin course (steps.Crash image) answer in
    let kept = crash_keeps c.of_runs.ensures origin course image answer opened.0 in (
      both_ways course.is_open (AnswersCrash origin course answer) opened.0,
      record {
        condition = subst (FollowsCondition state origin next) (sym c.put.ensures.condition) (opened.1 image);
        left = kept.left ∙ (f.left ∙ ap (λ r. effects_of_all r.items) (sym c.put.ensures.released));
        emitted =
            let put = c.put.ensures.emitted in
            let there = c.len-self.ensures in
            let effects = length-map world.released.items effect_of in
            let left = ap length f.left in
            let wanted = kept.emitted in
            omega (arith, put, there, effects, left, wanted, world.released.ok.0);
        once = kept.once f.once;
      },
    )

pub returns-clause-calls : goal.returns-clause-calls
returns-clause-calls g c calls are =
    let failures = g.D.Disk.failures in
    let outlook = g.D.Disk.outlook in
    let image = c.args.image.now in
    let old = c.end-disk.result in
    let disk = c.crash.new.self in
    let came = subst (λ p. HasDisk p old) c.replace.ensures.value c.end-disk.ensures in
    let crashed = unseen calls (failures old) (failures disk) (outlook old) (outlook disk) (are old came) c.crash.ensures.failures c.crash.ensures.outlook in
    let found = c.reopen-condition.ensures.calls image calls crashed in
    (found.0, subst (AreCallsAt failures outlook (calls_after calls (steps.Crash image) c.reopen-condition.result.1)) (sym c.put.ensures.condition) found.1)

pub returns-clause-crashed : goal.returns-clause-crashed
returns-clause-crashed g c before now at there =
    let state = g.D.Disk.state in
    let image = c.args.image.now in
    let old = c.end-disk.result in
    let disk = c.crash.new.self in
    let came = subst (λ p. HasDisk p old) c.replace.ensures.value c.end-disk.ensures in
    let opened = c.reopen-condition.ensures.from c.crash.ensures.settled.nothing_open now (subst (λ p. HasDisk p now) c.put.ensures.condition there) in
    ((state disk).content, subst (λ d. IsCrashed image (state d) (state disk).content) (one_disk c.args.self.now.condition old before came at) c.crash.ensures.image, opened)
