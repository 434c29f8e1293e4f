use Rattle.std.proofs.Common.{refl}
use Rattle.mac_commands.proofs.Reading.{read_to_the_end}
use Rattle.mac_commands.specs.Commands.{spelling}
use Rattle.lw_types.specs.declared.direction.Direction.TheVariants.{Down}
use Rattle.mac_commands.proofs.encode.encode_down.Goals as goal

pub returns-clause-read_again : goal.returns-clause-read_again
returns-clause-read_again c = λ whole. read_to_the_end Down (spelling c.args.commands.now) c.args.commands.now (record { whole = whole; spelled = refl })
