-- Which MAC commands an application may queue for a device, and what a queue of them is
-- (TS001-1.0.4 §5).
use Rattle.std.specs.Prelude.{◌≡◌, ℕ, Bool, false, true, List}
use Rattle.std.specs.List.{AllByRecursion}
use Rattle.lw_types.specs.declared.direction.Direction.TheVariants.{Down}
use Rattle.mac_commands.specs.declared.cid.Cid.{Cid}
use Rattle.mac_commands.specs.declared.cid.Cid.TheVariants.{LinkCheck, LinkAdr, DutyCycle}
use Rattle.mac_commands.specs.declared.cid.Cid.TheVariants.{RxParamSetup, DevStatus, NewChannel}
use Rattle.mac_commands.specs.declared.cid.Cid.TheVariants.{RxTimingSetup, TxParamSetup, DlChannel}
use Rattle.mac_commands.specs.declared.cid.Cid.TheVariants.{DeviceTime}
use Rattle.mac_commands.specs.declared.command.MacCommand.{MacCommand}
use Rattle.mac_commands.specs.Commands.{Spells}

-- LinkADRReq, DutyCycleReq and DevStatusReq; the network sends the others by itself, or never
abbrev pub may_be_queued : Cid → Bool
may_be_queued LinkAdr = true
may_be_queued DutyCycle = true
may_be_queued DevStatus = true
may_be_queued LinkCheck = false
may_be_queued RxParamSetup = false
may_be_queued NewChannel = false
may_be_queued RxTimingSetup = false
may_be_queued TxParamSetup = false
may_be_queued DlChannel = false
may_be_queued DeviceTime = false

abbrev pub IsQueueable : MacCommand → Type 0
IsQueueable command = may_be_queued command.cid ≡ true

-- the bytes are such commands in their downlink form, each whole, one after another
pub record AreQueueable (bytes : List ℕ) : Type 0 where
  pub commands : List MacCommand
  pub spelled : Spells Down bytes commands
  pub each : AllByRecursion IsQueueable commands
