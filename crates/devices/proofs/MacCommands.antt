-- Queues of MAC commands, by the laws of mac_commands.
use Rattle.std.proofs.Common.{◌≡◌, ◌≢◌, ◌↔◌, IsTrue, ℕ, true, List, [], ◌∷◌, ◌++◌, refl}
use Rattle.std.specs.List.{AllByRecursion}
use Rattle.std.proofs.lemmas.Bool.{false≢true}
use Rattle.lw_types.specs.declared.direction.Direction.{Direction}
use Rattle.lw_types.specs.declared.direction.Direction.TheVariants.{Down}
use Rattle.mac_commands.specs.declared.command.MacCommand.{MacCommand}
use Rattle.mac_commands.specs.Commands.{Spells}
use Rattle.mac_commands.specs.Queueable.{AreQueueable, IsQueueable}
use Rattle.mac_commands.specs.Reading.{is_queue}
use Rattle.devices.specs.MacQueue.{may_queue}

pub is_some_queue : (bytes : List ℕ) → bytes ≢ [] → is_queue bytes ≡ may_queue bytes
is_some_queue [] some = absurd (some refl)
is_some_queue (number ∷ bytes) some = refl

-- the laws of mac_commands, as its contracts state them
abbrev pub Finds : Type 0
Finds = (bytes : List ℕ) → IsTrue (is_queue bytes) ↔ AreQueueable bytes

abbrev pub Joins : Type 0
Joins =
    (direction : Direction) (a b : List ℕ) (first second : List MacCommand) → Spells direction a first → Spells direction b second
    → Spells direction (a ++ b) (first ++ second)

pub queueable : Finds → (bytes : List ℕ) → may_queue bytes ≡ true → AreQueueable bytes
queueable finds [] may = absurd (false≢true may)
queueable finds (number ∷ bytes) may = (finds (number ∷ bytes)).0 may

all_appended : (P : MacCommand → Type 0) (a b : List MacCommand) → AllByRecursion P a → AllByRecursion P b → AllByRecursion P (a ++ b)
all_appended P [] b p q = q
all_appended P (c ∷ a) b p q = (p.0, all_appended P a b p.1 q)

pub queues_joined : Joins → (a b : List ℕ) → AreQueueable a → AreQueueable b → AreQueueable (a ++ b)
queues_joined join a b one two =
    record {
      commands = one.commands ++ two.commands;
      spelled = join Down a b one.commands two.commands one.spelled two.spelled;
      each = all_appended IsQueueable one.commands two.commands one.each two.each;
    }
