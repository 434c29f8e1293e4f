-- How a core is stored.
use Rattle.std.specs.Prelude.{◌≡◌, ◌≤◌, All}
use Rattle.session_core.specs.Core.{CoreState}
use Rattle.session_core.specs.declared.outcome.TheConstants.{MOST_OUTCOMES}
use Rattle.session_core.specs.declared.events.Core.TheInside.{Inside}

abbrev pub core_of : Inside → CoreState
core_of c =
    record {
      decisions = c.decisions;
      clock = c.clock;
      windows = c.windows;
      closings = c.closings;
      outcomes = c.outcomes.items;
    }

-- no window was opened after the effective time, and there is room for the last outcomes
pub record IsKeptCore (c : Inside) : Type 0 where
  pub opened : All (λ w. w.opened ≤ c.clock) c.windows
  pub room : c.outcomes.capacity ≡ MOST_OUTCOMES
