use Rattle.std.proofs.Common.{refl}
use Rattle.sessions.specs.Decision.{with_decisions}
use Rattle.sessions.proofs.Placing.{has-own-place, own-left}
use Rattle.sessions.proofs.table.Table.has_room_after.Goals as goal

pub returns-in-Some : goal.returns-in-Some
returns-in-Some c =
    let d = c.args.decision.now in
    let t = c.args.self.now in
    let earlier = c.args.earlier.now in (
      λ _.
          has-own-place (with_decisions t earlier) c.args.own.now d.slot d.after c.in-Some.field-0 d.before c.requires.own
          (own-left t earlier c.requires.earlier c.devices_are_apart.ensures) c.requires.found c.in-Some.is,
      λ _. refl,
    )
