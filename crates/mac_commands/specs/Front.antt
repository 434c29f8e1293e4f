-- A command at the front of some bytes.
use Rattle.std.specs.Prelude.{◌≡◌, ℕ, List, ◌++◌}
use Rattle.lw_types.specs.declared.direction.Direction.{Direction}
use Rattle.mac_commands.specs.declared.command.MacCommand.{MacCommand}
use Rattle.mac_commands.specs.declared.front.Front.{Front}
use Rattle.mac_commands.specs.Commands.{IsWhole, command_bytes}

abbrev pub front_command : Front → MacCommand
front_command front = record { cid = front.cid; payload = front.payload.now }

-- the command is whole and comes first, before the rest
pub record IsFront (direction : Direction) (bytes : List ℕ) (front : Front) : Type 0 where
  pub whole : IsWhole direction (front_command front)
  pub spelled : bytes ≡ command_bytes (front_command front) ++ front.rest.now
