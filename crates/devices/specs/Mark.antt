-- What may leave the network only once.
use Rattle.std.specs.Prelude.{Option, Some, None}
use Rattle.devices.specs.declared.effect.Effect.{Effect}
use Rattle.devices.specs.declared.effect.Effect.TheVariants.{Forward, Accept, Down, Report}
use Rattle.devices.specs.declared.mark.Mark.{Mark}
use Rattle.devices.specs.declared.mark.Mark.TheVariants.{Forwarded, Granted, Sent}

-- the mark that an effect uses up: an uplink handed on, a session granted, a downlink sent; a
-- report has none
abbrev pub mark_of : Effect → Option Mark
mark_of (Forward application session counter port payload copies best) =
    Some (Forwarded session counter)
mark_of (Accept session downlink) = Some (Granted session)
mark_of (Down session counter downlink) = Some (Sent session counter)
mark_of (Report application dev_eui report) = None
