use Rattle.gateway_server.proofs.Obeying.{of_mode, of_usage}
use Rattle.gateway_server.proofs.running.command.Goals as goal

pub returns-in-Ok : goal.returns-in-Ok
returns-in-Ok g c =
    let tells = of_mode _
    (λ m o. g.C.Commands.ends c.args.commands.now m o c.carry_out.new.commands)
    g.O.Write.contents _ _ _ _ _ _ c.in-Ok.ensures.mode c.carry_out.ensures in
    record {
      status = tells.range;
      done = tells.done;
      failed = tells.failed;
      wrong = tells.wrong;
      quiet = tells.quiet;
      address = tells.address;
    }

pub returns-in-Err : goal.returns-in-Err
returns-in-Err g c =
    let tells = of_usage _
    (λ m o. g.C.Commands.ends c.args.commands.now m o c.args.commands.now)
    g.O.Write.contents _ _ _ _ _ c.in-Err.ensures.usage c.tell_usage.ensures in
    record {
      status = tells.range;
      done = tells.done;
      failed = tells.failed;
      wrong = tells.wrong;
      quiet = tells.quiet;
      address = tells.address;
    }
