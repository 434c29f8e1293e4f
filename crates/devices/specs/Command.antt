-- What applications ask for.
use Rattle.devices.specs.declared.command.ApplicationCommand.{ApplicationCommand}
use Rattle.devices.specs.declared.command.ApplicationCommand.TheVariants.{Provision, Queue}
use Rattle.devices.specs.declared.command.ApplicationCommand.TheVariants.{QueueMac}
use Rattle.devices.specs.declared.command.Command.{Command}
use Rattle.devices.specs.declared.command.Command.TheVariants as command

-- a command of an application, among all commands
abbrev pub as_command : ApplicationCommand → Command
as_command (Provision p) = command.Provision p
as_command (Queue q) = command.Queue q
as_command (QueueMac q) = command.QueueMac q
