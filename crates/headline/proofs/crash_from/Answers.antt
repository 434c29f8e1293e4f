use Rattle.std.proofs.Common.{◌≡◌, ◌++◌, length, subst, sym}
use Rattle.std.specs.Prelude.{vec_capacity}
use Rattle.lw_types.specs.declared.refusal.Refusal.TheVariants.{DeviceFailed, OutOfMemory}
use Rattle.disk.specs.Outlook.Outlook.{AllSucceed}
use Rattle.sessions.specs.Marks.{HasUsedUp, marks_of}
use Rattle.world.specs.Calls.{IsKnownOutlook, calls_of}
use Rattle.world.specs.Course.{beginning, course_of}
use Rattle.world.proofs.Opening.{disk_survives}
use Rattle.world.proofs.Telling.{some_disk}
use Rattle.headline.proofs.Calm.{stays_calm}
use Rattle.headline.proofs.Refusing.{none_else}
use Rattle.headline.proofs.crash_from.Goals as goal

pub returns-in-Ok-open_after-clause-answers : goal.returns-in-Ok-open_after-clause-answers
returns-in-Ok-open_after-clause-answers g c origin begun = (c.in-Ok.ensures.course origin (beginning origin) begun).0

pub returns-in-Ok-open_after-clause-calls : goal.returns-in-Ok-open_after-clause-calls
returns-in-Ok-open_after-clause-calls g c calls are = (c.in-Ok.ensures.calls calls are).0

pub returns-in-Ok-open_after-clause-crash : goal.returns-in-Ok-open_after-clause-crash
returns-in-Ok-open_after-clause-crash g c origin begun =
    let state = g.D.Disk.state in
    let last = c.run.new.world in
    let course = course_of origin (beginning origin) c.args.steps.now c.in-Ok.answers.items in
    let followed = (c.in-Ok.ensures.course origin (beginning origin) begun).1 in
    let there = some_disk state last.condition (length last.released.items) (vec_capacity last.released) c.in-Ok.ensures.sound in
    record {
      first = c.args.world;
      begun = begun;
      last = last;
      made = c.in-Ok.ensures.steps;
      disk = there.0;
      at = there.1;
      survives = disk_survives state origin course last.condition there.0 followed.condition there.1;
      opened = c.in-Ok-open_after.ensures.crash there.0 there.1;
    }

pub returns-in-Ok-open_after-clause-recovers : goal.returns-in-Ok-open_after-clause-recovers
returns-in-Ok-open_after-clause-recovers g c origin begun =
    let course = course_of origin (beginning origin) c.args.steps.now c.in-Ok.answers.items in
    (c.in-Ok-open_after.ensures.recovers origin course (c.in-Ok.ensures.course origin (beginning origin) begun).1).1

pub returns-in-Ok-open_after-clause-used : goal.returns-in-Ok-open_after-clause-used
returns-in-Ok-open_after-clause-used g c origin begun before =
    let course = course_of origin (beginning origin) c.args.steps.now c.in-Ok.answers.items in
    let followed = (c.in-Ok.ensures.course origin (beginning origin) begun).1 in
    let left = (c.in-Ok-open_after.ensures.recovers origin course followed).0 in
    subst (λ left. HasUsedUp c.in-Ok-open_after.store.table (origin.marks ++ marks_of left)) (sym left)
    (c.in-Ok-open_after.ensures.used origin course followed before)

pub returns-in-Err-open_after-clause-refused : goal.returns-in-Err-open_after-clause-refused
returns-in-Err-open_after-clause-refused g c origin begun device memory =
    let course = course_of origin (beginning origin) c.args.steps.now c.in-Ok.answers.items in
    let followed = (c.in-Ok.ensures.course origin (beginning origin) begun).1 in
    none_else c.in-Err-open_after.refusal OutOfMemory DeviceFailed (c.in-Err-open_after.ensures.refused origin course followed) memory device

pub returns-in-Err-open_after-clause-unarmed : goal.returns-in-Err-open_after-clause-unarmed
returns-in-Err-open_after-clause-unarmed g c calls are all nothing =
    let outlook = g.D.Disk.outlook in
    let last = c.run.new.world in
    let steps = c.args.steps.now in
    let answers = c.in-Ok.answers.items in
    let there = some_disk g.D.Disk.state last.condition (length last.released.items) (vec_capacity last.released) c.in-Ok.ensures.sound in
    let calm : (calls_of calls steps answers).coming ≡ AllSucceed = stays_calm calls steps answers nothing all in
    let known = ((c.in-Ok.ensures.calls calls are).1 there.0 there.1).known in
    let closed : outlook there.0 ≡ AllSucceed = subst (λ o. IsKnownOutlook o (outlook there.0)) calm known in
    c.in-Err-open_after.ensures.unarmed there.0 there.1 closed
