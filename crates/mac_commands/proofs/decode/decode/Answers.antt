use Rattle.std.proofs.Common.{◌-◌, length}
use Rattle.mac_commands.proofs.Reading.{is_read}
use Rattle.mac_commands.proofs.CommandsIn.{read_is}
use Rattle.mac_commands.proofs.decode.decode.Goals as goal

pub returns-clause-value : goal.returns-clause-value
returns-clause-value c =
    let rest = c.loop-front.rest.now in
    let read = is_read c.args.direction c.args.bytes.now rest c.loop-front.commands.items c.loop-front.invariant c.in_default.ensures.none in
    read_is c.args.direction c.args.bytes.now c.loop-front.commands.items (length c.args.bytes.now - length rest) read
