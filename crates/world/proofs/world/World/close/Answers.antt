use Rattle.world.proofs.Opening.{disk_survives}
use Rattle.world.proofs.world.World.close.Goals as goal

pub returns-clause-course : goal.returns-clause-course
returns-clause-course g c origin course f =
    (disk_survives g.D.Disk.state origin course c.args.self.condition c.end.result f.condition c.end.ensures, (f.left, f.once))
