use Rattle.std.proofs.Common.{ap}
use Rattle.std.proofs.lemmas.Result.{IfErr-weaker, IfOk-weaker}
use Rattle.world.specs.Calls.{CallRecord, outlook_after_opening}
use Rattle.world.specs.Course.{new_store}
use Rattle.headline.proofs.crash_after.Goals as goal

pub returns-clause-answers : goal.returns-clause-answers
returns-clause-answers g c =
    let origin = new_store c.args.net_id c.args.slots in
    IfOk-weaker c.crash_from.result _ _ (λ found answers. answers origin c.in_ok-world.ensures.course) c.crash_from.ensures.answers

pub returns-clause-calls : goal.returns-clause-calls
returns-clause-calls g c =
    let calls : CallRecord = record { failed = g.D.Disk.failures c.args.disk; coming = outlook_after_opening (g.D.Disk.outlook c.args.disk) } in
    IfOk-weaker c.crash_from.result _ _ (λ found foretold. foretold calls c.in_ok-world.ensures.calls) c.crash_from.ensures.calls

pub returns-clause-crash : goal.returns-clause-crash
returns-clause-crash g c =
    let origin = new_store c.args.net_id c.args.slots in
    IfOk-weaker c.crash_from.result _ _ (λ found opened. opened origin c.in_ok-world.ensures.course) c.crash_from.ensures.crash

pub returns-clause-recovers : goal.returns-clause-recovers
returns-clause-recovers g c =
    let origin = new_store c.args.net_id c.args.slots in
    IfOk-weaker c.crash_from.result _ _ (λ found recovers. recovers origin c.in_ok-world.ensures.course) c.crash_from.ensures.recovers

pub returns-clause-refused : goal.returns-clause-refused
returns-clause-refused g c =
    let origin = new_store c.args.net_id c.args.slots in
    IfErr-weaker c.crash_from.result _ _ (λ e none device memory. absurd (none origin c.in_ok-world.ensures.course device memory)) c.crash_from.ensures.refused

pub returns-clause-unarmed : goal.returns-clause-unarmed
returns-clause-unarmed g c all nothing =
    let calls : CallRecord = record { failed = g.D.Disk.failures c.args.disk; coming = outlook_after_opening (g.D.Disk.outlook c.args.disk) } in
    IfErr-weaker c.crash_from.result _ _ (λ e calm. calm calls c.in_ok-world.ensures.calls (ap outlook_after_opening all) nothing) c.crash_from.ensures.unarmed

pub returns-clause-once : goal.returns-clause-once
returns-clause-once g c =
    let origin = new_store c.args.net_id c.args.slots in
    let before = c.no_mark_stands_twice.ensures.at_first c.args.net_id c.args.slots in
    IfOk-weaker c.crash_from.result _ _ (λ found used. (used origin c.in_ok-world.ensures.course before).distinct) c.crash_from.ensures.used

pub returns-clause-covered : goal.returns-clause-covered
returns-clause-covered g c =
    let origin = new_store c.args.net_id c.args.slots in
    let before = c.no_mark_stands_twice.ensures.at_first c.args.net_id c.args.slots in
    IfOk-weaker c.crash_from.result _ _ (λ found used. used origin c.in_ok-world.ensures.course before) c.crash_from.ensures.used
