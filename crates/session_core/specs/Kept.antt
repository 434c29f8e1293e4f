-- How the decisions of a life are stored.
use Rattle.std.specs.Prelude.{◌≡◌}
use Rattle.sessions.specs.Decision.{without_decisions}
use Rattle.session_core.specs.State.{DecisionsState, IsLawful, now_of}
use Rattle.session_core.specs.declared.decisions.Decisions.TheInside.{Inside}

-- the table that the taken decisions leave is the table at hand with the untaken ones undone
abbrev pub kept_state : Inside → DecisionsState
kept_state c =
    record {
      base = without_decisions c.table c.log.items;
      opening = c.opening;
      made = c.made;
      taken = c.taken;
      log = c.log.items;
    }

-- the state is lawful, and the table at hand is the one that the log leaves
pub record IsKept (c : Inside) : Type 0 where
  pub lawful : IsLawful (kept_state c)
  pub table : c.table ≡ now_of (kept_state c)
