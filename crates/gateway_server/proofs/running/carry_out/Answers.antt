use Rattle.gateway_server.proofs.Obeying.{of_done, of_fault}
use Rattle.gateway_server.proofs.running.carry_out.Goals as goal

pub returns-in-Ok : goal.returns-in-Ok
returns-in-Ok g c =
    of_done (λ m o. g.C.Commands.ends c.args.commands.now m o c.obey.new.commands)
    _ g.O.Write.contents _ _ c.in-Ok.told _ c.in-Ok.ensures
    c.status_of.ensures.range c.status_of.ensures.told

pub returns-in-Err : goal.returns-in-Err
returns-in-Err g c =
    of_fault (λ m o. g.C.Commands.ends c.args.commands.now m o c.obey.new.commands)
    _ g.O.Write.contents _ _ _ _ c.in-Err.ensures
    c.fail_in.ensures.range c.fail_in.ensures.one c.fail_in.ensures.three
