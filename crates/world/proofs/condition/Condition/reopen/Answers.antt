use Rattle.std.proofs.Common.{refl, subst, sym}
use Rattle.store.specs.State.{disk_of, store_state}
use Rattle.store.proofs.HoldingOn.{still_holds}
use Rattle.world.specs.declared.answer.Answer.TheVariants as answers
use Rattle.world.specs.declared.step.Step.TheVariants as steps
use Rattle.world.specs.Calls.{AreRecordedCalls, calls_after, outlook_after_opening}
use Rattle.world.specs.Course.{table_from, number_from}
use Rattle.world.specs.Follows.{Survives}
use Rattle.world.specs.Tells.{IsOpenedFrom}
use Rattle.world.proofs.Known.{none_failed, opening_passed, opening_told}
use Rattle.world.proofs.Opening.{content_permitted, opened_from, two_reasons}
use Rattle.world.proofs.condition.Condition.reopen.Goals as goal

pub returns-in-Ok-clause-course : goal.returns-in-Ok-clause-course
returns-in-Ok-clause-course g c origin course nothing_open survives =
    let disk = g.D.Disk.state c.args.disk in
    let opened = c.in-Ok.ensures.made.opened g.met.D.Sim.is_honest in
    let found = survives disk.content (content_permitted disk) in
    let only = opened.only (table_from origin found.0) (number_from origin found.0) found.2 in
    c.begin.ensures.course c.in-Ok.ensures.made.healthy.0 opened.settled origin course (found.0, found.1, sym only.0, sym only.1)

pub returns-in-Err-clause-course : goal.returns-in-Err-clause-course
returns-in-Err-clause-course g c origin course nothing_open survives =
    let state = g.D.Disk.state in
    let honest = g.met.D.Sim.is_honest in
    let before = c.args.disk in
    let after = c.in-Err.disk in
    let e = c.in-Err.ensures in
    let found = survives (state before).content (content_permitted (state before)) in
    let still = still_holds c.settled_disk_keeps_its_content.ensures (state before) (state after) nothing_open (e.kept honest) in
    let kept : Survives origin course (state after) = λ image p.
    (found.0, found.1, still (table_from origin found.0) (number_from origin found.0) found.2 image p) in (
      two_reasons c.in-Err.refusal
          (λ device memory. (e.made.refused honest device memory).none (table_from origin found.0) (number_from origin found.0) found.2),
      λ image. (refl, kept),
    )

pub returns-in-Ok-clause-calls : goal.returns-in-Ok-clause-calls
returns-in-Ok-clause-calls g c image calls are =
    let failures = g.D.Disk.failures in
    let outlook = g.D.Disk.outlook in
    let before = c.args.disk in
    let after = disk_of c.in-Ok.store in
    let found =
    opening_passed calls (failures before) (failures after) (outlook before) (outlook after) are c.in-Ok.ensures.made.healthy.1 c.in-Ok.ensures.made.unarmed
    c.in-Ok.ensures.made.fails in
    let told = none_failed calls image c.begin.result.1 c.begin.ensures.calls in (
      told.1 found.0,
      λ disk there.
          subst (λ k. AreRecordedCalls k (failures disk) (outlook disk)) (sym told.0)
          (subst (λ d. AreRecordedCalls (record calls { coming = outlook_after_opening calls.coming }) (failures d) (outlook d)) (sym (c.begin.ensures.same disk there)) found.1),
    )

pub returns-in-Err-clause-calls : goal.returns-in-Err-clause-calls
returns-in-Err-clause-calls g c image calls are =
    let failures = g.D.Disk.failures in
    let outlook = g.D.Disk.outlook in
    let before = c.args.disk in
    let after = c.in-Err.disk in
    let e = c.in-Err.ensures in
    let found =
    opening_told calls (failures before) (failures after) (outlook before) (outlook after) image c.in-Err.refusal are (g.met.D.Sim.is_foreseen before)
    e.device (λ all. (e.made.unarmed all, e.unarmed all)) (λ first. (e.made.fails first, e.fails first)) (λ armed. (e.armed armed).0) in
    (found.0, λ disk there. subst (λ d. AreRecordedCalls (calls_after calls (steps.Crash image) (answers.Refused c.in-Err.refusal)) (failures d) (outlook d)) (sym there) found.1)

pub returns-in-Ok-clause-from : goal.returns-in-Ok-clause-from
returns-in-Ok-clause-from g c nothing_open now there =
    let state = g.D.Disk.state in
    let content = (state c.args.disk).content in
    let opened = c.in-Ok.ensures.made.opened g.met.D.Sim.is_honest in
    let s = store_state state c.in-Ok.store in
    subst (λ d. IsOpenedFrom content (state d)) (sym (c.begin.ensures.same now there))
    (opened_from content s opened (c.a_settled_store_is_on_its_disk.ensures s opened.settled))

pub returns-in-Err-clause-from : goal.returns-in-Err-clause-from
returns-in-Err-clause-from g c nothing_open now there =
    let state = g.D.Disk.state in
    let honest = g.met.D.Sim.is_honest in
    let before = state c.args.disk in
    let e = c.in-Err.ensures in
    subst (λ d. IsOpenedFrom before.content (state d)) (sym there)
    (record {
      same = e.same honest;
      keeps = still_holds c.settled_disk_keeps_its_content.ensures before (state c.in-Err.disk) nothing_open (e.kept honest);
    })
