use Rattle.std.proofs.Common.{◌++◌, ◌∙◌, ap, subst, sym}
use Rattle.disk.specs.Crash.{IsCrashed}
use Rattle.disk.specs.State.{IsPermitted}
use Rattle.sessions.specs.Marks.{HasUsedUp, marks_of}
use Rattle.world.specs.Course.{effects_from, table_from, number_from}
use Rattle.world.proofs.Opening.{two_reasons}
use Rattle.world.proofs.Telling.{one_disk}
use Rattle.headline.proofs.Refusing.{refused_with, refused_surely}
use Rattle.headline.proofs.open_after.Goals as goal

pub returns-clause-crash : goal.returns-clause-crash
returns-clause-crash g c before at =
    let state = g.D.Disk.state in
    let image = c.args.image.now in
    let left = (state c.crash.new.self).content in
    let same = one_disk c.args.world.condition c.close-disk.result.0 before c.close-disk.ensures.disk at in
    record {
      left = left;
      crashed = subst (λ d. IsCrashed image (state d) left) same c.crash.ensures.image;
      permitted = subst (λ d. IsPermitted (state d) left) same c.crash.ensures.permitted;
      opened = c.in_ok-store.ensures.opened g.met.D.Sim.is_honest;
    }

pub returns-clause-recovers : goal.returns-clause-recovers
returns-clause-recovers g c origin course follows =
    let closed = c.close-disk.ensures.course origin course follows in
    let found = closed.0 (g.D.Disk.state c.crash.new.self).content c.crash.ensures.permitted in
    let opened = c.in_ok-store.ensures.opened g.met.D.Sim.is_honest in
    let only = opened.only (table_from origin found.0) (number_from origin found.0) found.2 in
    let laws = c.what_a_crash_leaves.ensures in (
      closed.1.0,
      record {
        kept = found.0;
        beginning = laws.beginning course found.0 found.1;
        released = laws.settled course found.0 found.1;
        left = laws.left origin course course.left found.0 found.1 closed.1.1;
        table_is = sym only.0;
        number_is = sym only.1;
      },
    )

pub returns-clause-used : goal.returns-clause-used
returns-clause-used g c origin course follows before =
    let closed = c.close-disk.ensures.course origin course follows in
    let found = closed.0 (g.D.Disk.state c.crash.new.self).content c.crash.ensures.permitted in
    let opened = c.in_ok-store.ensures.opened g.met.D.Sim.is_honest in
    let table = c.in_ok-store.store.table in
    let only = opened.only (table_from origin found.0) (number_from origin found.0) found.2 in
    let left = c.what_a_crash_leaves.ensures.left origin course course.left found.0 found.1 closed.1.1 in
    let laws = c.no_mark_stands_twice.ensures in
    let used = laws.after origin.table origin.marks found.0 before in
    let here = subst (λ t. HasUsedUp t (origin.marks ++ marks_of course.left)) only.0
    (laws.what_left (table_from origin found.0) origin.marks (effects_from origin found.0) course.left left used) in
    subst (λ left. HasUsedUp table (origin.marks ++ marks_of left)) closed.1.0 here

pub returns-in_err-store-clause-refused : goal.returns-in_err-store-clause-refused
returns-in_err-store-clause-refused g c origin course follows =
    let e = c.in_err-store in
    let r = c.from_residual in
    let closed = c.close-disk.ensures.course origin course follows in
    let found = closed.0 (g.D.Disk.state c.crash.new.self).content c.crash.ensures.permitted in
    refused_with _ r.result e.field-0.0 r.ensures.1
    (two_reasons e.field-0.0 (λ device memory. (e.ensures.refused g.met.D.Sim.is_honest device memory).none (table_from origin found.0) (number_from origin found.0) found.2))

pub returns-in_err-store-clause-unarmed : goal.returns-in_err-store-clause-unarmed
returns-in_err-store-clause-unarmed g c before at all =
    let outlook = g.D.Disk.outlook in
    let e = c.in_err-store in
    let r = c.from_residual in
    let same = one_disk c.args.world.condition c.close-disk.result.0 before c.close-disk.ensures.disk at in
    refused_with _ r.result e.field-0.0 r.ensures.1
    (e.ensures.unarmed (c.crash.ensures.outlook ∙ (ap outlook same ∙ all)))

pub returns-clause-fails : goal.returns-clause-fails
returns-clause-fails g c before at first =
    let outlook = g.D.Disk.outlook in
    let same = one_disk c.args.world.condition c.close-disk.result.0 before c.close-disk.ensures.disk at in
    absurd (c.in_ok-store.ensures.fails (c.crash.ensures.outlook ∙ (ap outlook same ∙ first)))

pub returns-in_err-store-clause-fails : goal.returns-in_err-store-clause-fails
returns-in_err-store-clause-fails g c before at first =
    let outlook = g.D.Disk.outlook in
    let e = c.in_err-store in
    let r = c.from_residual in
    let same = one_disk c.args.world.condition c.close-disk.result.0 before c.close-disk.ensures.disk at in
    refused_surely _ r.result e.field-0.0 r.ensures.1
    (e.ensures.fails (c.crash.ensures.outlook ∙ (ap outlook same ∙ first)))
