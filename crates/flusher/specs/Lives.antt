-- What leaves over all lives of a store: batches of flushers, crashes and openings.
use Rattle.std.specs.Prelude.{Bool, true, false, List, [], ◌∷◌, ◌++◌}
use Rattle.devices.specs.declared.command.Command.{Command}
use Rattle.devices.specs.declared.effect.Effect.{Effect}
use Rattle.sessions.specs.Table.{TableState, effects_of, fold_of}

-- what changes a store, its disk or what has left; nothing else that a flusher does changes these
pub data LifeEvent : Type 0 where
  -- this batch was committed, and its effects left
  Released : List Command → LifeEvent
  -- the disk failed at this batch: a crash may leave it or not, and no effect of it leaves
  Torn : List Command → LifeEvent
  -- an opening, after a crash or without one, which finds the torn batch or doesn't
  Opened : Bool → LifeEvent

pub record Lives : Type 0 where
  -- the commands whose fold is the store's table
  pub durable : List Command
  -- those that the disk may hold in addition
  pub torn : List Command
  -- what has left
  pub left : List Effect

-- nothing has happened yet
abbrev pub no_lives : Lives
no_lives = record { durable = []; torn = []; left = [] }

-- the lives of a store that began with this table, after one more event
abbrev pub lives_after : TableState → Lives → LifeEvent → Lives
lives_after t lives (Released commands) =
    record lives {
      durable = lives.durable ++ commands;
      left = lives.left ++ effects_of (fold_of t lives.durable) commands;
    }
lives_after t lives (Torn commands) = record lives { torn = commands }
lives_after t lives (Opened true) =
    record lives { durable = lives.durable ++ lives.torn; torn = [] }
lives_after t lives (Opened false) = record lives { torn = [] }

abbrev pub lives_after_all : TableState → Lives → List LifeEvent → Lives
lives_after_all t lives [] = lives
lives_after_all t lives (event ∷ events) = lives_after_all t (lives_after t lives event) events

-- the lives that these events make of a store with this table
abbrev pub lives_of : TableState → List LifeEvent → Lives
lives_of t events = lives_after_all t no_lives events
