-- Queues of commands, as reading finds them.
use Rattle.std.proofs.Common.{◌≡◌, ℕ, List, [], ◌∷◌, ◌++◌, take, drop, refl, sym, ap, ◌∙◌, subst}
use Rattle.std.specs.Prelude.{◌==◌, ◌&&◌, ◌↔◌, Bool, true, false, length, IsTrue}
use Rattle.std.specs.List.{AllByRecursion, list_all}
use Rattle.std.proofs.Math.Seq.{take-length}
use Rattle.std.proofs.lemmas.Bool.{and_parts, eq-eqb, eqb-true}
use Rattle.std.proofs.lemmas.List.{append-nil, take-append-drop}
use Rattle.lw_types.specs.declared.direction.Direction.TheVariants.{Down}
use Rattle.mac_commands.specs.declared.command.MacCommand.{MacCommand}
use Rattle.mac_commands.specs.Commands.{IsWhole, command_bytes, spelling, Spells, BeginsWhole, IsBeginning}
use Rattle.mac_commands.specs.Queueable.{may_be_queued, IsQueueable, AreQueueable}
use Rattle.mac_commands.specs.Reading.{commands_in, is_queue}
use Rattle.mac_commands.proofs.CommandsIn.{are_commands, read_is}
use Rattle.mac_commands.proofs.Reading.{HasRead, goes_on, no_more, none_begins, parted, read_to_the_end, reads_more}

-- commands that may be queued come before the rest
pub record HasQueued (bytes rest : List ℕ) : Type 0 where
  pub commands : List MacCommand
  pub read : HasRead Down bytes commands rest
  pub each : AllByRecursion IsQueueable commands

pub nothing_queued : (bytes : List ℕ) → HasQueued bytes bytes
nothing_queued bytes = record { commands = []; read = record { whole = tt; spelled = refl }; each = tt }

all_appended : (P : MacCommand → Type 0) (a b : List MacCommand) → AllByRecursion P a → AllByRecursion P b → AllByRecursion P (a ++ b)
all_appended P [] b p q = q
all_appended P (c ∷ a) b p q = (p.0, all_appended P a b p.1 q)

all_front : (P : MacCommand → Type 0) (a b : List MacCommand) → AllByRecursion P (a ++ b) → AllByRecursion P a
all_front P [] b p = tt
all_front P (c ∷ a) b p = (p.0, all_front P a b p.1)

all_behind : (P : MacCommand → Type 0) (a b : List MacCommand) → AllByRecursion P (a ++ b) → AllByRecursion P b
all_behind P [] b p = p
all_behind P (c ∷ a) b p = all_behind P a b p.1

pub queued_more : (bytes rest after : List ℕ) (command : MacCommand) → HasQueued bytes rest → IsWhole Down command → rest ≡ command_bytes command ++ after → IsQueueable command → HasQueued bytes after
queued_more bytes rest after command q whole e may = record {
  commands = q.commands ++ command ∷ [];
  read = reads_more Down bytes rest after q.commands command q.read whole e;
  each = all_appended IsQueueable q.commands (command ∷ []) q.each (may, tt);
}

-- a queue goes on from what was read of it
goes_on_queue : (bytes rest : List ℕ) (commands : List MacCommand) → HasRead Down bytes commands rest → (q : AreQueueable bytes)
    → (tail : List MacCommand) × (q.commands ≡ commands ++ tail) × (rest ≡ spelling tail ++ []) × AllByRecursion (IsWhole Down) tail
goes_on_queue bytes rest commands read q =
    goes_on Down commands q.commands rest [] read.whole q.spelled.whole (none_begins Down) (sym read.spelled ∙ (q.spelled.spelled ∙ sym (append-nil (spelling q.commands))))

-- a command that may not be queued
pub not_queued : (bytes rest after : List ℕ) (command : MacCommand) → HasQueued bytes rest → IsWhole Down command → rest ≡ command_bytes command ++ after → (IsQueueable command → ⊥) → AreQueueable bytes → ⊥
not_queued bytes rest after command h whole e never q =
    let more = goes_on_queue bytes after (h.commands ++ command ∷ []) (reads_more Down bytes rest after h.commands command h.read whole e) q in
    let all : AllByRecursion IsQueueable ((h.commands ++ command ∷ []) ++ more.0) = subst (AllByRecursion IsQueueable) more.1 q.each in
    never (all_behind IsQueueable h.commands (command ∷ []) (all_front IsQueueable (h.commands ++ command ∷ []) more.0 all)).0

-- no further command begins: all was read, or the bytes are no queue
pub all_queued : (bytes : List ℕ) → HasQueued bytes [] → AreQueueable bytes
all_queued bytes h = record {
  commands = h.commands;
  spelled = record { whole = h.read.whole; spelled = h.read.spelled ∙ append-nil (spelling h.commands) };
  each = h.each;
}

pub ends_queue : (bytes rest : List ℕ) → HasQueued bytes rest → (BeginsWhole Down rest → ⊥) → AreQueueable bytes → rest ≡ []
ends_queue bytes rest h none q =
    let more = goes_on_queue bytes rest h.commands h.read q in
    let nothing : more.0 ≡ [] = no_more Down more.0 rest [] more.2 more.3 none in
    more.2 ∙ ap (λ (tail : List MacCommand). spelling tail ++ []) nothing

-- a queue that is cut between two commands is two queues
pub parted_queue : (queue : List ℕ) (n : ℕ) → AreQueueable queue → IsBeginning queue n → AreQueueable (take n queue) × AreQueueable (drop n queue)
parted_queue queue n q b =
    let whole : Spells Down (take n queue ++ drop n queue) q.commands = subst (λ (bytes : List ℕ). Spells Down bytes q.commands) (sym (take-append-drop n queue)) q.spelled in
    let first : List MacCommand = b.whole.0 in
    let second = parted Down (take n queue) (drop n queue) q.commands first whole b.whole.1 in
    let all : AllByRecursion IsQueueable (first ++ second.0) = subst (AllByRecursion IsQueueable) second.1 q.each in (
      record { commands = first; spelled = b.whole.1; each = all_front IsQueueable first second.0 all },
      record { commands = second.0; spelled = second.2; each = all_behind IsQueueable first second.0 all },
    )

-- ---- as a function

all_may : (commands : List MacCommand) → AllByRecursion IsQueueable commands → list_all (λ (c : MacCommand). may_be_queued c.cid) commands ≡ true
all_may [] each = refl
all_may (c ∷ commands) each = ap (λ (b : Bool). b && list_all (λ (d : MacCommand). may_be_queued d.cid) commands) each.0 ∙ all_may commands each.1

each_may : (commands : List MacCommand) → list_all (λ (c : MacCommand). may_be_queued c.cid) commands ≡ true → AllByRecursion IsQueueable commands
each_may [] all = tt
each_may (c ∷ commands) all =
    let both = and_parts (may_be_queued c.cid) (list_all (λ (d : MacCommand). may_be_queued d.cid) commands) all in
    (both.0, each_may commands both.1)

to_queue : (bytes : List ℕ) → IsTrue (is_queue bytes) → AreQueueable bytes
to_queue bytes is =
    let commands = commands_in Down bytes in
    let both = and_parts (length (spelling commands) == length bytes) (list_all (λ (c : MacCommand). may_be_queued c.cid) commands) is in
    let long = eqb-true (length (spelling commands)) (length bytes) both.0 in
    let whole = ap (λ n. take n bytes) long ∙ take-length bytes in
    record {
      commands = commands;
      spelled = subst (λ (bs : List ℕ). Spells Down bs commands) whole (are_commands Down bytes).before;
      each = each_may commands both.1;
    }

from_queue : (bytes : List ℕ) → AreQueueable bytes → IsTrue (is_queue bytes)
from_queue bytes q =
    let commands = commands_in Down bytes in
    let same : q.commands ≡ commands = read_is Down bytes q.commands (length bytes) (read_to_the_end Down bytes q.commands q.spelled) in
    let long : (length (spelling commands) == length bytes) ≡ true = eq-eqb _ _ (ap (λ (cs : List MacCommand). length (spelling cs)) (sym same) ∙ ap length (sym q.spelled.spelled)) in
    let all = all_may commands (subst (AllByRecursion IsQueueable) same q.each) in
    ap (λ (b : Bool). b && list_all (λ (c : MacCommand). may_be_queued c.cid) commands) long ∙ all

pub is_queue_so : (bytes : List ℕ) → IsTrue (is_queue bytes) ↔ AreQueueable bytes
is_queue_so bytes = (to_queue bytes, from_queue bytes)

-- two tests that imply each other are equal
pub tested : (bytes : List ℕ) (test : Bool) → (IsTrue test ↔ AreQueueable bytes) → test ≡ is_queue bytes
tested bytes true is = sym (from_queue bytes (is.0 refl))
tested bytes false is = by (is_queue bytes) refl
  where
    by : (b : Bool) → is_queue bytes ≡ b → false ≡ b
    by false h = refl
    by true h = is.1 (to_queue bytes h)
