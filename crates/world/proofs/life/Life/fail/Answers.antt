use Rattle.store.specs.State.{disk_of}
use Rattle.world.proofs.Known.{arming}
use Rattle.world.proofs.life.Life.fail.Goals as goal

pub returns-clause-calls : goal.returns-clause-calls
returns-clause-calls g c calls are =
    let before = disk_of c.args.self.now.store in
    let after = disk_of c.arm.new.self in (
      tt,
      arming calls (g.D.Disk.failures before) (g.D.Disk.failures after) (g.D.Disk.outlook before) (g.D.Disk.outlook after) are
          c.arm.ensures.failures c.arm.ensures.armed,
    )
