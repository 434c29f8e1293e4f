-- Decisions that continue a table.
use Rattle.std.specs.Prelude.{◌≡◌, ◌≢◌, ◌+◌, ◌<◌, ℕ, Bool, true, not, MatchBool, List, [], ◌∷◌}
use Rattle.std.specs.Prelude.{Option, Some, None, Result, if◌then◌else◌, map, slice_get, take}
use Rattle.std.specs.List.{flat_map}
use Rattle.std.specs.Option.{MatchOption}
use Rattle.lw_types.specs.Answer.{Answers, AnswersWithMemory}
use Rattle.lw_types.specs.declared.refusal.Refusal.{Refusal}
use Rattle.devices.specs.declared.device.Device.{Device}
use Rattle.devices.specs.declared.command.Command.{Command}
use Rattle.devices.specs.declared.command.Command.TheVariants.{Provision, Heard, Queue, QueueMac}
use Rattle.devices.specs.declared.effect.Effect.{Effect}
use Rattle.sessions.specs.Join.{is_refused_by_text}
use Rattle.sessions.specs.Served.{is_request, received_in}
use Rattle.sessions.specs.Table.{TableState, TableStep, TakesNext, slot_of, step, with_record}
use Rattle.sessions.specs.declared.table.decide.Stepped.{Stepped}
use Rattle.sessions.specs.declared.decision.Decision.{Decision}

-- the place of a record: a device that is provisioned takes the next slot, and a known device is
-- found at its own
abbrev pub HasPlace : TableState → ℕ → Device → Option Device → Type 0
HasPlace t slot after before =
    MatchOption before (TakesNext t slot after)
    (λ device. slot_of device.dev_eui.0 t.devices ≡ Some slot)

-- the decision was made of this table: its network and the record at its slot are the table's, and
-- its record has its place there
pub record FitsTable (t : TableState) (d : Decision) : Type 0 where
  pub net : d.net_id ≡ t.net_id
  pub before : d.before ≡ slice_get t.devices d.slot
  pub within : d.slot < t.slots
  pub place : HasPlace t d.slot d.after d.before

-- the decision was made of this table and has the next sequence number
pub record Continues (t : TableState) (seq : ℕ) (d : Decision) : Type 0 where
  pub fits : FitsTable t d
  pub number : d.seq ≡ seq + 1

-- the table with the decision's record
abbrev pub with_decision : TableState → Decision → TableState
with_decision t d = with_record t d.slot d.after

abbrev pub with_decisions : TableState → List Decision → TableState
with_decisions t [] = t
with_decisions t (d ∷ ds) = with_decisions (with_decision t d) ds

-- the table with what was at this slot before: a record, or nothing if the slot was the next one
abbrev pub with_before : TableState → ℕ → Option Device → TableState
with_before t slot (Some before) = with_record t slot before
with_before t slot None = record t { devices = take slot t.devices }

-- the table with the record that the decision found, or without the device if it found none
abbrev pub without_decision : TableState → Decision → TableState
without_decision t d = with_before t d.slot d.before

abbrev pub without_decisions : TableState → List Decision → TableState
without_decisions t [] = t
without_decisions t (d ∷ ds) = without_decision (without_decisions t ds) d

-- each decision was made of the table that those before it leave
abbrev pub FitAll : TableState → List Decision → Type 0
FitAll t [] = Unit {0}
FitAll t (d ∷ ds) = FitsTable t d × FitAll (with_decision t d) ds

-- the sequence numbers rise by one
abbrev pub AreNumbered : ℕ → List Decision → Type 0
AreNumbered seq [] = Unit {0}
AreNumbered seq (d ∷ ds) = (d.seq ≡ seq + 1) × AreNumbered (seq + 1) ds

-- these decisions may follow a table and a number
pub record ContinueAll (t : TableState) (seq : ℕ) (ds : List Decision) : Type 0 where
  pub fit : FitAll t ds
  pub numbered : AreNumbered seq ds

-- what may be committed on a table: at least one decision, and each continues the table after those
-- before it
pub record IsLegalContinuation (t : TableState) (seq : ℕ) (ds : List Decision) : Type 0 where
  pub some : ds ≢ []
  pub continues : ContinueAll t seq ds

abbrev pub commands_of : List Decision → List Command
commands_of ds = map (λ d. d.command) ds

abbrev pub effects_in : List Decision → List Effect
effects_in ds = flat_map (λ d. d.effects) ds

-- the decision is this step of this command, with this number
pub record IsDecision (t : TableState) (seq : ℕ) (asked : Command) (s : TableStep)
    (d : Decision) : Type 0 where
  pub net : d.net_id ≡ t.net_id
  pub number : d.seq ≡ seq
  pub command : d.command ≡ asked
  pub slot : d.slot ≡ s.slot
  pub before : d.before ≡ s.before
  pub after : d.after ≡ s.after
  pub effects : d.effects ≡ s.effects

-- whether a refusal of a command is known before any memory is taken for it. Each refusal is,
-- except those of the join server for a Join-Request: it is asked by texts
abbrev pub is_frugal : {A : Type 0} → Command → Result A Refusal → Bool
is_frugal (Provision p) outcome = true
is_frugal (Heard h) outcome =
    if is_request (received_in h) then not (is_refused_by_text outcome) else true
is_frugal (Queue q) outcome = true
is_frugal (QueueMac q) outcome = true

-- the result for a command: exactly what is wanted, unless memory runs out. If a refusal is wanted
-- that isn't frugal, OutOfMemory may come in its place
abbrev pub AnswersTo : {A B : Type 0} → Command → Result A Refusal → (A → B → Type 0)
    → Result B Refusal → Type 0
AnswersTo command wanted Is result =
    MatchBool (is_frugal command wanted)
    (Answers wanted Is result)
    (AnswersWithMemory wanted Is result)

-- the step of the command is decided, or its refusal is returned
abbrev pub Decides : TableState → ℕ → Command → Result Decision Refusal → Type 0
Decides t seq command result = AnswersTo command (step t command) (IsDecision t seq command) result

-- this is the step
pub record IsStepped (s : TableStep) (found : Stepped) : Type 0 where
  pub slot : found.slot ≡ s.slot
  pub after : found.after ≡ s.after
  pub effects : found.effects ≡ s.effects
