use Rattle.std.proofs.Common.{ap}
use Rattle.world_model.specs.Plain.{PlainState}
use Rattle.world_model.proofs.Turning.{goes}
use Rattle.world_model.proofs.model.Plain.event.Goals as goal

pub returns : goal.returns
returns c =
    goes c.args.self.now c.reach.new.self c.close_due.new.self c.own.new.self c.args.moment c.args.event.now c.in_ok-refused.refused
    c.self.inside.made c.self-2.inside.made c.in_ok-closings.closings c.requires c.reach.ensures
    c.in_ok-closings.ensures.count c.in_ok-closings.ensures.course c.in_ok-refused.ensures.right c.in_ok-refused.ensures.course
    (ap (λ (v : PlainState). v.course.made) c.self.view_is) (ap (λ (v : PlainState). v.course.made) c.self-2.view_is)
