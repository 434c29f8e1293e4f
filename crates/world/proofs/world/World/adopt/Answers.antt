use Rattle.std.proofs.Common.{◌≡◌, ◌∙◌, ap, subst, sym, arith}
use Rattle.std.proofs.lemmas.Result.{IfErr-weaker, IfOk-weaker}
use Rattle.disk.specs.Outlook.Outlook.{AllSucceed}
use Rattle.lw_types.specs.Refusal.{number_of}
use Rattle.store.specs.State.{HoldsOn, disk_of, store_state}
use Rattle.store.proofs.HoldingOn.{holds_content}
use Rattle.world.specs.Calls.{AreRecordedCalls, outlook_after_opening}
use Rattle.world.specs.Course.{adopted_store}
use Rattle.world.proofs.Known.{formatted_known}
use Rattle.world.proofs.Opening.{opened_from}
use Rattle.world.proofs.world.World.adopt.Goals as goal

pub returns-in-Ok-clause-holds : goal.returns-in-Ok-clause-holds
returns-in-Ok-clause-holds g c =
    let s = store_state g.D.Disk.state c.in-Ok.store in
    let opened = c.in-Ok.ensures.made.opened g.met.D.Sim.is_honest in
    IfOk-weaker c.of_store.result _ _ (λ world sound. (s.table, (s.seq, opened.was))) c.of_store.ensures.sound

pub returns-in-Ok-clause-course : goal.returns-in-Ok-clause-course
returns-in-Ok-clause-course g c =
    let made = c.in-Ok.ensures.made in
    let opened = made.opened g.met.D.Sim.is_honest in
    IfOk-weaker c.of_store.result _ _
    (λ world begun t seq marks holds. let only = opened.only t seq holds in begun (adopted_store t seq marks) (sym only.0) (sym only.1))
    (c.of_store.ensures.course made.healthy.0 opened.settled)

pub returns-in-Ok-clause-calls : goal.returns-in-Ok-clause-calls
returns-in-Ok-clause-calls g c =
    let failures = g.D.Disk.failures in
    let outlook = g.D.Disk.outlook in
    let made = c.in-Ok.ensures.made in
    IfOk-weaker c.of_store.result _ _
    (λ world same disk there.
    subst (λ d. AreRecordedCalls (record { failed = failures c.args.disk; coming = outlook_after_opening (outlook c.args.disk) }) (failures d) (outlook d)) (sym (same disk there))
    (record { counted = made.healthy.1; known = formatted_known (outlook c.args.disk) (outlook (disk_of c.in-Ok.store)) made.unarmed }))
    c.of_store.ensures.same

pub returns-in-Ok-clause-refused : goal.returns-in-Ok-clause-refused
returns-in-Ok-clause-refused g c = IfErr-weaker c.of_store.result _ _ (λ e is device memory. absurd (memory is.1)) c.of_store.ensures.refused

pub returns-in-Ok-clause-device : goal.returns-in-Ok-clause-device
returns-in-Ok-clause-device g c =
    IfErr-weaker c.of_store.result _ _
    (λ e is. (
      λ device. let n = ap number_of (sym is.1 ∙ device) in absurd (omega (arith, n)),
      λ other. ap g.D.Disk.failures is.0 ∙ c.in-Ok.ensures.made.healthy.1,
    ))
    c.of_store.ensures.refused

pub returns-in-Ok-clause-unarmed : goal.returns-in-Ok-clause-unarmed
returns-in-Ok-clause-unarmed g c all =
    IfErr-weaker c.of_store.result _ _
    (λ e is. (
      λ device. let n = ap number_of (sym is.1 ∙ device) in absurd (omega (arith, n)),
      subst (λ d. g.D.Disk.outlook d ≡ AllSucceed) (sym is.0) (c.in-Ok.ensures.made.unarmed all),
    ))
    c.of_store.ensures.refused

pub returns-in-Ok-clause-kept : goal.returns-in-Ok-clause-kept
returns-in-Ok-clause-kept g c =
    let state = g.D.Disk.state in
    let before = state c.args.disk in
    let opened = c.in-Ok.ensures.made.opened g.met.D.Sim.is_honest in
    let s = store_state state c.in-Ok.store in
    IfErr-weaker c.of_store.result _ _
    (λ e is. subst (λ d. HoldsOn before (state d)) (sym is.0)
    (holds_content before s.log.disk (opened_from before.content s opened (c.a_settled_store_is_on_its_disk.ensures s opened.settled)).keeps))
    c.of_store.ensures.refused

pub returns-in-Ok-clause-same : goal.returns-in-Ok-clause-same
returns-in-Ok-clause-same g c new =
    let state = g.D.Disk.state in
    let before = state c.args.disk in
    let opened = c.in-Ok.ensures.made.opened g.met.D.Sim.is_honest in
    IfErr-weaker c.of_store.result _ _ (λ e is. ap (λ d. (state d).content) is.0 ∙ opened.same new) c.of_store.ensures.refused

pub returns-in-Err-clause-refused : goal.returns-in-Err-clause-refused
returns-in-Err-clause-refused g c = c.in-Err.ensures.made.refused g.met.D.Sim.is_honest

pub returns-in-Err-clause-kept : goal.returns-in-Err-clause-kept
returns-in-Err-clause-kept g c = c.in-Err.ensures.kept g.met.D.Sim.is_honest

pub returns-in-Err-clause-same : goal.returns-in-Err-clause-same
returns-in-Err-clause-same g c = c.in-Err.ensures.same g.met.D.Sim.is_honest
