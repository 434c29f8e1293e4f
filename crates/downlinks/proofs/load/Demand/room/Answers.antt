use Rattle.std.proofs.Common.{◌-◌, Bool, if◌then◌else◌, [], length, ap, sym}
use Rattle.downlinks.specs.Load.{link_check_ans}
use Rattle.downlinks.proofs.load.Demand.room.Goals as goal

pub returns-then-self : goal.returns-then-self
returns-then-self c =
    ap (λ (b : Bool). 15 - length (if b then link_check_ans c.args.self.now else [])) (sym c.if-self.true)

pub returns-else-self : goal.returns-else-self
returns-else-self c =
    ap (λ (b : Bool). 15 - length (if b then link_check_ans c.args.self.now else [])) (sym c.if-self.false)
