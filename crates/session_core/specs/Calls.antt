-- What an event brings.
use Rattle.std.specs.Prelude.{Option}
use Rattle.lw_types.specs.declared.refusal.Refusal.{Refusal}
use Rattle.devices.specs.declared.command.Command.TheVariants as commands
use Rattle.session_core.specs.Core.{CoreState}
use Rattle.session_core.specs.Events.{Asks, Hears, Ticks}
use Rattle.session_core.specs.declared.event.CallKind.{CallKind}
use Rattle.session_core.specs.declared.event.CallKind.TheVariants.{Heard, Ticked, Asked, Gathered}
use Rattle.session_core.specs.declared.event.Event.{Event}
use Rattle.session_core.specs.declared.event.Event.TheVariants.{Hear, Tick, Ask}

-- the work of an event itself, after the windows that are due were closed
abbrev pub work_of : Event → CoreState → Option Refusal → CoreState → Type 0
work_of (Hear copy) = Hears copy
work_of Tick = Ticks
work_of (Ask command) = Asks command

-- what a call with this event hands in, and whose it is
abbrev pub call_kind_of : Event → CallKind
call_kind_of (Hear copy) = Heard copy.reception.gateway
call_kind_of Tick = Ticked
call_kind_of (Ask (commands.Provision value)) = Asked value.application
call_kind_of (Ask (commands.Queue value)) = Asked value.application
call_kind_of (Ask (commands.QueueMac value)) = Asked value.application
call_kind_of (Ask (commands.Heard heard)) = Gathered
