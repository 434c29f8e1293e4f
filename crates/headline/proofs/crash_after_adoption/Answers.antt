use Rattle.std.proofs.Common.{[], ap}
use Rattle.std.proofs.lemmas.Result.{IfErr-weaker, IfOk-weaker}
use Rattle.world.specs.Calls.{CallRecord, outlook_after_opening}
use Rattle.world.specs.Course.{adopted_store}
use Rattle.headline.proofs.crash_after_adoption.Goals as goal

pub returns-in-Ok-clause-holds : goal.returns-in-Ok-clause-holds
returns-in-Ok-clause-holds g c = IfOk-weaker c.crash_from.result _ _ (λ found answers. c.in-Ok.ensures.holds) c.crash_from.ensures.answers

pub returns-in-Ok-clause-answers : goal.returns-in-Ok-clause-answers
returns-in-Ok-clause-answers g c =
    IfOk-weaker c.crash_from.result _ _ (λ found answers t seq marks holds. answers (adopted_store t seq marks) (c.in-Ok.ensures.course t seq marks holds)) c.crash_from.ensures.answers

pub returns-in-Ok-clause-calls : goal.returns-in-Ok-clause-calls
returns-in-Ok-clause-calls g c =
    let calls : CallRecord = record { failed = g.D.Disk.failures c.args.disk; coming = outlook_after_opening (g.D.Disk.outlook c.args.disk) } in
    IfOk-weaker c.crash_from.result _ _ (λ found foretold. foretold calls c.in-Ok.ensures.calls) c.crash_from.ensures.calls

pub returns-in-Ok-clause-crash : goal.returns-in-Ok-clause-crash
returns-in-Ok-clause-crash g c =
    IfOk-weaker c.crash_from.result _ _ (λ found opened t seq marks holds. opened (adopted_store t seq marks) (c.in-Ok.ensures.course t seq marks holds)) c.crash_from.ensures.crash

pub returns-in-Ok-clause-recovers : goal.returns-in-Ok-clause-recovers
returns-in-Ok-clause-recovers g c =
    IfOk-weaker c.crash_from.result _ _ (λ found recovers t seq marks holds. recovers (adopted_store t seq marks) (c.in-Ok.ensures.course t seq marks holds)) c.crash_from.ensures.recovers

pub returns-in-Ok-clause-refused : goal.returns-in-Ok-clause-refused
returns-in-Ok-clause-refused g c =
    let held = c.in-Ok.ensures.holds in
    let begun = c.in-Ok.ensures.course held.0 held.1.0 [] held.1.1 in
    IfErr-weaker c.crash_from.result _ _ (λ e none device memory. absurd (none (adopted_store held.0 held.1.0 []) begun device memory)) c.crash_from.ensures.refused

pub returns-in-Ok-clause-unarmed : goal.returns-in-Ok-clause-unarmed
returns-in-Ok-clause-unarmed g c all nothing =
    let calls : CallRecord = record { failed = g.D.Disk.failures c.args.disk; coming = outlook_after_opening (g.D.Disk.outlook c.args.disk) } in
    IfErr-weaker c.crash_from.result _ _ (λ e calm. calm calls c.in-Ok.ensures.calls (ap outlook_after_opening all) nothing) c.crash_from.ensures.unarmed

pub returns-in-Ok-clause-once : goal.returns-in-Ok-clause-once
returns-in-Ok-clause-once g c =
    let content = (g.D.Disk.state c.args.disk).content in
    IfOk-weaker c.crash_from.result _ _
    (λ found used t seq marks holds covered distinct.
    (used (adopted_store t seq marks) (c.in-Ok.ensures.course t seq marks holds)
    (record { sound = c.what_is_held_is_sound.ensures t seq content holds; covered = covered; distinct = distinct })).distinct)
    c.crash_from.ensures.used

pub returns-in-Ok-clause-covered : goal.returns-in-Ok-clause-covered
returns-in-Ok-clause-covered g c =
    let content = (g.D.Disk.state c.args.disk).content in
    IfOk-weaker c.crash_from.result _ _
    (λ found used t seq marks holds covered distinct.
    used (adopted_store t seq marks) (c.in-Ok.ensures.course t seq marks holds)
    (record { sound = c.what_is_held_is_sound.ensures t seq content holds; covered = covered; distinct = distinct }))
    c.crash_from.ensures.used
