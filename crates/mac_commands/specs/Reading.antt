-- The MAC commands at the beginning of some bytes, as a function (TS001-1.0.4 §5), and which of
-- them the application or the network handles.
use Rattle.std.specs.Prelude.{◌==◌, ◌&&◌, ℕ, zero, suc, Bool, true, false, nat_lt, if◌then◌else◌}
use Rattle.std.specs.Prelude.{List, [], ◌∷◌, Option, Some, None, length, take, drop, filter, find}
use Rattle.std.specs.List.{list_all, list_any}
use Rattle.lw_types.specs.declared.direction.Direction.{Direction}
use Rattle.lw_types.specs.declared.direction.Direction.TheVariants.{Up, Down}
use Rattle.mac_commands.specs.declared.cid.Cid.{Cid}
use Rattle.mac_commands.specs.declared.cid.Cid.TheVariants.{LinkCheck, LinkAdr, DutyCycle}
use Rattle.mac_commands.specs.declared.cid.Cid.TheVariants.{RxParamSetup, DevStatus, NewChannel}
use Rattle.mac_commands.specs.declared.cid.Cid.TheVariants.{RxTimingSetup, TxParamSetup, DlChannel}
use Rattle.mac_commands.specs.declared.cid.Cid.TheVariants.{DeviceTime}
use Rattle.mac_commands.specs.declared.command.MacCommand.{MacCommand}
use Rattle.mac_commands.specs.Table.{cid_number, payload_len}
use Rattle.mac_commands.specs.Commands.{spelling}
use Rattle.mac_commands.specs.Queueable.{may_be_queued}

-- ---- reading

-- the known identifiers
abbrev pub known_cids : List Cid
known_cids =
    LinkCheck ∷ LinkAdr ∷ DutyCycle ∷ RxParamSetup ∷ DevStatus ∷ NewChannel ∷ RxTimingSetup
    ∷ TxParamSetup ∷ DlChannel ∷ DeviceTime ∷ []

-- the identifier of a byte, if it is known
abbrev pub cid_of : ℕ → Option Cid
cid_of number = find (λ cid. cid_number cid == number) known_cids

-- the command with this identifier whose payload these bytes begin with, and the bytes after it
abbrev pub with_payload : Direction → List ℕ → Option Cid → Option (MacCommand × List ℕ)
with_payload direction bytes None = None
with_payload direction bytes (Some cid) =
    let n = payload_len direction cid in
    if nat_lt (length bytes) n then None else Some
    (record { cid = cid; payload = take n bytes }, drop n bytes)

-- the whole command at the front of some bytes, and the bytes after it
abbrev pub front_in : Direction → List ℕ → Option (MacCommand × List ℕ)
front_in direction [] = None
front_in direction (number ∷ bytes) = with_payload direction bytes (cid_of number)

-- a command, and those that are read from the bytes after it
abbrev pub and_behind : (List ℕ → List MacCommand) → Option (MacCommand × List ℕ) → List MacCommand
and_behind read None = []
and_behind read (Some front) = front.0 ∷ read front.1

-- the first n commands at the beginning of some bytes
abbrev pub first_commands : ℕ → Direction → List ℕ → List MacCommand
first_commands zero direction bytes = []
first_commands (suc n) direction bytes =
    and_behind (first_commands n direction) (front_in direction bytes)

-- the commands at the beginning of some bytes: reading stops at an unknown identifier or at a
-- payload that is cut short
abbrev pub commands_in : Direction → List ℕ → List MacCommand
commands_in direction bytes = first_commands (length bytes) direction bytes

-- ---- of an uplink

-- all commands are reported, except LinkCheckReq, which the network answers, and DeviceTimeReq,
-- which it ignores
abbrev pub is_reported_cid : Cid → Bool
is_reported_cid LinkCheck = false
is_reported_cid DeviceTime = false
is_reported_cid cid = true

abbrev pub is_reported : MacCommand → Bool
is_reported command = is_reported_cid command.cid

-- the bytes of the commands in an uplink that are reported
abbrev pub reported_bytes : List ℕ → List ℕ
reported_bytes bytes = spelling (filter is_reported (commands_in Up bytes))

abbrev pub is_link_check_cid : Cid → Bool
is_link_check_cid LinkCheck = true
is_link_check_cid cid = false

abbrev pub is_link_check : MacCommand → Bool
is_link_check command = is_link_check_cid command.cid

-- whether a LinkCheckReq is among the commands of an uplink
abbrev pub asks_link_check : List ℕ → Bool
asks_link_check bytes = list_any is_link_check (commands_in Up bytes)

-- ---- of a downlink

-- whether the bytes are whole commands with nothing after them, each of which an application may
-- queue
abbrev pub is_queue : List ℕ → Bool
is_queue bytes =
    let commands = commands_in Down bytes in
    (length (spelling commands) == length bytes)
    && list_all (λ command. may_be_queued command.cid) commands

-- how many bytes from the front of a queue are piggybacked: the whole commands that fit the room
abbrev pub fitting_len : List ℕ → ℕ → ℕ
fitting_len queue room = length (spelling (commands_in Down (take room queue)))
