-- How serving changes a store.
use Rattle.std.specs.Prelude.{◌≡◌, ◌≤◌, ◌⊎◌, ◌+◌, ℕ, true, List, drop, length, sum, Result, IfErr}
use Rattle.std.specs.Prelude.{IfOk, OnOk, ⊤}
use mathlib.Core.List.{IsPrefix}
use Rattle.disk.specs.declared.disk.Disk.{Ghosts}
use Rattle.lw_types.specs.declared.refusal.Refusal.{Refusal}
use Rattle.lw_types.specs.declared.refusal.Refusal.TheVariants.{Damaged, DeviceFailed, Failed}
use Rattle.lw_types.specs.declared.refusal.Refusal.TheVariants.{OutOfMemory, OutOfStep}
use Rattle.lnsd_life.specs.declared.report.LifeReport.{LifeReport}
use Rattle.lnsd_operator.specs.declared.fault.ServeFault.{ServeFault}
use Rattle.lnsd_operator.specs.declared.fault.ServeFault.TheVariants.{Listen, Names, Refused}
use Rattle.session_core.specs.Core.{CoreState, new_core}
use Rattle.session_core.specs.Taking.{TakerState}
use Rattle.sessions.specs.Table.{TableState}
use Rattle.sessions.specs.declared.decision.Decision.{Decision}
use Rattle.store.specs.declared.areas.TheConstants.{LAST_GENERATION}
use Rattle.store.specs.declared.store.Store.{Store}
use Rattle.store.specs.State.{StoreState, store_state}
use Rattle.flusher.specs.Calls.{LastFailed, NoneFailed}
use Rattle.flusher.specs.Cycle.{Commits}
use Rattle.flusher.specs.Lived.{HaveLed}
use Rattle.flusher.specs.Lives.{LifeEvent, Lives, lives_after_all}

-- if some lives led a store to the first state, these lives with more events led it to the second
abbrev pub IsLedOn : StoreState → StoreState → Type 0
IsLedOn here there =
    (t : TableState) (number : ℕ) (lives : Lives) → HaveLed lives t number here
    → (events : List LifeEvent) × HaveLed (lives_after_all t lives events) t number there

-- Why serving was refused, by the refusal. If a call of the disk failed, it was the last call.
-- Otherwise no call failed, and memory ran out, a batch was out of step, the store had failed
-- before, or its checkpoints have no further generation.
abbrev pub IsRefused : {D : Type 0} (disk : Ghosts D) → Store D disk → Store D disk → Refusal
    → Type 0
IsRefused disk old new DeviceFailed = LastFailed disk.failures disk.outlook old new
IsRefused disk old new OutOfMemory = NoneFailed disk.failures disk.outlook old new
IsRefused disk old new OutOfStep = NoneFailed disk.failures disk.outlook old new
IsRefused disk old new Failed =
    NoneFailed disk.failures disk.outlook old new × (old.failed ≡ true)
IsRefused disk old new Damaged =
    NoneFailed disk.failures disk.outlook old new
    × (LAST_GENERATION ≤ (store_state disk.state new).log.generation)
IsRefused disk old new other = ⊥

-- why a life has no report: links couldn't come in, the names that may greet weren't taken, or it
-- was refused
abbrev pub IsFaultOf : {D : Type 0} (disk : Ghosts D) → Store D disk → Store D disk → ServeFault
    → Type 0
IsFaultOf disk old new Listen = new ≡ old
IsFaultOf disk old new (Names fault) = new ≡ old
IsFaultOf disk old new (Refused refusal) = IsRefused disk old new refusal

-- it isn't a fault of a list of names
abbrev pub IsNotOfNames : ServeFault → Type 0
IsNotOfNames Listen = ⊤
IsNotOfNames (Names fault) = ⊥
IsNotOfNames (Refused refusal) = ⊤

-- why a life that ended well gives no report: memory ran out, or the number decided isn't the
-- number taken
abbrev pub IsUntold : ServeFault → Type 0
IsUntold fault = (fault ≡ Refused OutOfMemory) ⊎ (fault ≡ Refused OutOfStep)

-- the core with which a life over this store begins
abbrev pub first_core : StoreState → CoreState
first_core store = new_core store.table store.seq

-- What was committed of what was decided. A taker had taken some of the history of a life's
-- decisions, and by the end `seen` was seen of it. The decisions that were committed come next
-- after those that had been taken, each once and in order. If all ended well, they are all the rest
-- of `seen`.
pub record CommitsInOrder (old new : StoreState) (before : TakerState) (seen : List Decision)
    (result : Result (Unit {0}) Refusal) : Type 0 where
  pub committed : List Decision
  pub next : IsPrefix committed (drop before.taken seen)
  pub commits : Commits old new committed
  pub all : OnOk result (committed ≡ drop before.taken seen)

-- What a life committed: a beginning of some list of decisions, and all of it if there is a report,
-- which has the number.
pub record CommitsHistory (old new : StoreState) (result : Result LifeReport ServeFault)
    : Type 0 where
  pub history : List Decision
  pub committed : List Decision
  pub next : IsPrefix committed history
  pub commits : Commits old new committed
  pub all : IfOk result
      (λ report. (committed ≡ history) × (report.made ≡ length history))

-- How a life whose threads ran leaves its store. If the life ended well, no call of the disk
-- failed, and the store's number grew by the number of decisions seen, less the `before.taken` that
-- had been taken when the life began. Otherwise the refusal says why. What was committed comes next
-- in the history of the life's decisions, of which `seen` was seen. The lives that led the store
-- here go on.
pub record IsRun {D : Type 0} (disk : Ghosts D) (old : Store D disk) (before : TakerState)
    (seen : List Decision) (result : Result (Unit {0}) Refusal) (new : Store D disk) : Type 0 where
  pub healthy : OnOk result (NoneFailed disk.failures disk.outlook old new)
  pub committed : OnOk result ((store_state disk.state new).seq + before.taken
      ≡ (store_state disk.state old).seq + length seen)
  pub decided : CommitsInOrder (store_state disk.state old) (store_state disk.state new)
      before seen result
  pub refused : IfErr result (IsRefused disk old new)
  pub lives : disk.honest → IsLedOn (store_state disk.state old) (store_state disk.state new)

-- How serving leaves a store, and what it reports. If there is a report, its shares sum to the
-- number of decisions made, by which the store's number grew, and no call of the disk failed.
-- Otherwise the fault says why. What was committed is a beginning of some list of decisions, and
-- all of it if there is a report. The lives that led the store here go on.
pub record IsServed {D : Type 0} (disk : Ghosts D) (old : Store D disk)
    (result : Result LifeReport ServeFault) (new : Store D disk) : Type 0 where
  pub shares : IfOk result (λ report. sum report.shares.items ≡ report.made)
  pub healthy : OnOk result (NoneFailed disk.failures disk.outlook old new)
  pub committed : IfOk result (λ report. (store_state disk.state new).seq
      ≡ (store_state disk.state old).seq + report.made)
  pub decided : CommitsHistory (store_state disk.state old) (store_state disk.state new) result
  pub refused : IfErr result (IsFaultOf disk old new)
  pub lives : disk.honest → IsLedOn (store_state disk.state old) (store_state disk.state new)
