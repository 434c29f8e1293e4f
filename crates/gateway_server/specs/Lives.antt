-- Why a command failed, given why a life, a store's file or a change of a store failed.
use Rattle.lnsd_operator.specs.declared.fault.ServeFault.{ServeFault}
use Rattle.lnsd_operator.specs.declared.fault.ServeFault.TheVariants as served
use Rattle.store_files.specs.declared.fault.FileFault.{FileFault}
use Rattle.store_files.specs.declared.fault.FileFault.TheVariants as file
use Rattle.store_edits.specs.declared.fault.EditFault.{EditFault}
use Rattle.store_edits.specs.declared.fault.EditFault.TheVariants as edit
use Rattle.gateway_server.specs.declared.fault.Fault.{Fault}
use Rattle.gateway_server.specs.declared.fault.Fault.TheVariants.{Changing, Exists, File, Listen}
use Rattle.gateway_server.specs.declared.fault.Fault.TheVariants.{Names, NotClosed}
use Rattle.gateway_server.specs.declared.fault.Fault.TheVariants.{Random, Record, RecordLine}
use Rattle.gateway_server.specs.declared.fault.Fault.TheVariants.{Refused, Slots, Spent}
use Rattle.gateway_server.specs.declared.fault.Fault.TheVariants as fault
use Rattle.gateway_server.specs.declared.causes.ListenCause.TheVariants.{Accepting}

-- the fault of a command whose life ended with this one
abbrev pub fault_of_life : ServeFault → Fault
fault_of_life served.Listen = Listen Accepting
fault_of_life (served.Names names) = Names names
fault_of_life (served.Refused refusal) = Refused refusal

-- the fault of a command whose store's file couldn't be made or restored because of this one
abbrev pub fault_of_file : FileFault → Fault
fault_of_file file.Exists = Exists
fault_of_file (file.File cause) = File cause
fault_of_file file.Changing = Changing
fault_of_file (file.Record path) = Record path
fault_of_file (file.Line path line) = RecordLine path line
fault_of_file (file.Spent dev_eui) = Spent dev_eui
fault_of_file file.Random = Random
fault_of_file (file.Refused refusal) = Refused refusal

-- the fault of a command that couldn't list or change the devices of a store
abbrev pub fault_of_edit : EditFault → Fault
fault_of_edit (edit.File file) = fault_of_file file
fault_of_edit (edit.List text) = fault.List text
fault_of_edit (edit.NotMore slots) = Slots slots
fault_of_edit edit.NotClosed = NotClosed
