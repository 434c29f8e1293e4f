-- MAC commands as bytes: each is its identifier and its payload, one command after another.
use Rattle.std.specs.Prelude.{◌≡◌, ◌≤◌, ℕ, List, ◌∷◌, ◌++◌, length, take, drop}
use Rattle.std.specs.List.{flat_map, AllByRecursion}
use Rattle.lw_types.specs.declared.direction.Direction.{Direction}
use Rattle.lw_types.specs.declared.direction.Direction.TheVariants.{Down}
use Rattle.mac_commands.specs.declared.command.MacCommand.{MacCommand}
use Rattle.mac_commands.specs.Table.{cid_number, payload_len}

-- the payload has the length that the table says
abbrev pub IsWhole : Direction → MacCommand → Type 0
IsWhole direction command = length command.payload ≡ payload_len direction command.cid

abbrev pub command_bytes : MacCommand → List ℕ
command_bytes command = cid_number command.cid ∷ command.payload

abbrev pub spelling : List MacCommand → List ℕ
spelling commands = flat_map command_bytes commands

-- the bytes are these commands, each of them whole
pub record Spells (direction : Direction) (bytes : List ℕ)
    (commands : List MacCommand) : Type 0 where
  pub whole : AllByRecursion (IsWhole direction) commands
  pub spelled : bytes ≡ spelling commands

-- the bytes are some whole commands
abbrev pub AreWhole : Direction → List ℕ → Type 0
AreWhole direction bytes = (commands : List MacCommand) × Spells direction bytes commands

-- a whole command is at the front of the bytes
abbrev pub BeginsWhole : Direction → List ℕ → Type 0
BeginsWhole direction bytes =
    (command : MacCommand) × (rest : List ℕ) × IsWhole direction command
    × (bytes ≡ command_bytes command ++ rest)

-- the bytes before `stop` spell the commands; at `stop` the bytes end, or no whole command begins
pub record AreCommands (direction : Direction) (bytes : List ℕ) (commands : List MacCommand)
    (stop : ℕ) : Type 0 where
  pub within : stop ≤ length bytes
  pub before : Spells direction (take stop bytes) commands
  pub behind : ¬ BeginsWhole direction (drop stop bytes)

-- the first n bytes of a queue are whole downlink commands
pub record IsBeginning (queue : List ℕ) (n : ℕ) : Type 0 where
  pub within : n ≤ length queue
  pub whole : AreWhole Down (take n queue)

-- n bytes are the longest such beginning that fits the room
pub record IsLongestFit (queue : List ℕ) (room n : ℕ) : Type 0 where
  pub whole : IsBeginning queue n
  pub fits : n ≤ room
  pub longest : (m : ℕ) → IsBeginning queue m → m ≤ room → m ≤ n
