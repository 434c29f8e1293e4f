-- Which line says why a command failed, after the line of its fault.
use Rattle.std.specs.Prelude.{◌≡◌, ℕ, Bool, true, false, List, Option, Some, None, codes}
use Rattle.std.specs.declared.io.ErrorKind.{ErrorKind}
use Rattle.command_words.specs.declared.mode.Mode.{Mode}
use Rattle.command_words.specs.declared.mode.Mode.TheVariants as mode
use Rattle.lnsd_operator.specs.declared.fault.NameListFault.{NameListFault}
use Rattle.lnsd_operator.specs.declared.fault.NameListFault.TheVariants as names
use Rattle.store_files.specs.declared.cause.FileCause.{FileCause}
use Rattle.store_files.specs.declared.cause.FileCause.TheVariants as file
use Rattle.gateway_server.specs.declared.causes.ListenCause.{ListenCause}
use Rattle.gateway_server.specs.declared.causes.ListenCause.TheVariants as listen
use Rattle.gateway_server.specs.declared.fault.Fault.{Fault}
use Rattle.gateway_server.specs.declared.fault.Fault.TheVariants as fault

-- why an address can't be listened on, by the kind of the error, and whether it is the system's own
-- and not that of a name that was looked up
abbrev pub listen_cause : ErrorKind → Bool → ListenCause
listen_cause ErrorKind.PermissionDenied is_system = listen.Permission
listen_cause ErrorKind.AddrInUse is_system = listen.InUse
listen_cause ErrorKind.AddrNotAvailable is_system = listen.NoAddress
listen_cause ErrorKind.InvalidInput is_system = listen.Malformed
listen_cause ErrorKind.Uncategorized false = listen.NoName
listen_cause _ is_system = listen.Other

abbrev pub listen_words : ListenCause → List ℕ
listen_words listen.Permission = codes "permission denied"
listen_words listen.InUse = codes "address in use"
listen_words listen.NoAddress = codes "no such address on this machine"
listen_words listen.NoName = codes "no such host name"
listen_words listen.Malformed = codes "not an address with a port"
listen_words listen.Accepting = codes "connections can't be accepted"
listen_words listen.Other = codes "another error of the system"

abbrev pub file_words : FileCause → List ℕ
file_words file.NotFound = codes "not found"
file_words file.NoFolder = codes "its folder isn't found"
file_words file.Permission = codes "permission denied"
file_words file.InUse = codes "in use by another lnsd"
file_words file.Folder = codes "it is a folder"
file_words file.ReadOnly = codes "read-only file system"
file_words file.Full = codes "no space left"
file_words file.Other = codes "another error of the system"

abbrev pub names_words : NameListFault → Option (List ℕ)
names_words names.File = Some (codes "the file of names can't be read")
names_words (names.Line line) = Some (codes "neither 'gateway EUI' nor 'application N'")
names_words names.Gateways = Some (codes "more than 64 gateways")
names_words names.Places = Some (codes "more names than places; --links is at least one more")
names_words names.OutOfMemory = None

-- the line after that of a fault, if there is one
abbrev pub cause_words : Fault → Option (List ℕ)
cause_words (fault.File cause) = Some (file_words cause)
cause_words (fault.NamesFile cause) = Some (file_words cause)
cause_words (fault.Listen cause) = Some (listen_words cause)
cause_words (fault.Names names) = names_words names
cause_words fault.NoNames = Some (codes "the server runs without --names")
cause_words other = None

-- the commands whose faults have such a line: the words of the others are fixed
abbrev pub has_cause_line : Mode → Bool
has_cause_line (mode.Format file net_id slots) = false
has_cause_line (mode.List file) = false
has_cause_line (mode.Serve file listen links) = false
has_cause_line other = true

-- the fault of a file of names that can't be read, or of a list that isn't taken
abbrev pub IsOfNames : Fault → Type 0
IsOfNames (fault.NamesFile cause) = Unit
IsOfNames (fault.Names names) = Unit
IsOfNames other = ⊥

-- the fault of an address that can't be listened on
abbrev pub IsListen : Fault → Type 0
IsListen (fault.Listen cause) = Unit
IsListen other = ⊥
