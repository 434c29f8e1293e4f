use Rattle.std.proofs.Common.{subst, sym}
use Rattle.store.specs.State.{disk_of}
use Rattle.world.specs.Calls.{AreRecordedCalls, outlook_after_opening}
use Rattle.world.specs.Course.{new_store}
use Rattle.world.proofs.Known.{formatted_known}
use Rattle.world.proofs.world.World.format.Goals as goal

pub returns-in-Ok-clause-course : goal.returns-in-Ok-clause-course
returns-in-Ok-clause-course g c =
    let made = c.in_ok-store.ensures in
    c.in-Ok.ensures.course made.healthy.0 (made.settled g.met.D.Sim.is_honest) (new_store c.args.net_id c.args.slots) made.empty.0 made.empty.1

pub returns-in-Ok-clause-calls : goal.returns-in-Ok-clause-calls
returns-in-Ok-clause-calls g c disk there =
    let failures = g.D.Disk.failures in
    let outlook = g.D.Disk.outlook in
    let made = c.in_ok-store.ensures in
    subst (λ d. AreRecordedCalls (record { failed = failures c.args.disk; coming = outlook_after_opening (outlook c.args.disk) }) (failures d) (outlook d))
    (sym (c.in-Ok.ensures.same disk there))
    (record { counted = made.healthy.1; known = formatted_known (outlook c.args.disk) (outlook (disk_of c.in_ok-store.store)) made.unarmed })
