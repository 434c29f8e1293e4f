-- The decisions of one life.
use Rattle.std.specs.Prelude.{◌≡◌, ◌+◌, ◌≤◌, ℕ, List, [], length, max}
use Rattle.sessions.specs.Table.{TableState}
use Rattle.sessions.specs.Decision.{ContinueAll, with_decisions}
use Rattle.sessions.specs.declared.decision.Decision.{Decision}
use Rattle.session_core.specs.declared.decisions.TheConstants.{LAST_NUMBER, MOST_UNTAKEN}

-- The table that the taken decisions leave; the number at which this life began; the numbers of
-- decisions made and taken in it; and the decisions made and not taken, the oldest first.
pub record DecisionsState : Type 0 where
  pub base : TableState
  pub opening : ℕ
  pub made : ℕ
  pub taken : ℕ
  pub log : List Decision

-- the table after every decision made
abbrev pub now_of : DecisionsState → TableState
now_of s = with_decisions s.base s.log

-- the sequence number of the last decision made
abbrev pub last_number : DecisionsState → ℕ
last_number s = s.opening + s.made

-- the log continues what was taken, no decision is missing from it, and it is within its limits
pub record IsLawful (s : DecisionsState) : Type 0 where
  pub continues : ContinueAll s.base (s.opening + s.taken) s.log
  pub count : s.taken + length s.log ≡ s.made
  pub few : length s.log ≤ MOST_UNTAKEN
  pub numbers : last_number s ≤ max s.opening LAST_NUMBER

-- the decisions at the beginning of a life
abbrev pub new_decisions : TableState → ℕ → DecisionsState
new_decisions table seq = record { base = table; opening = seq; made = 0; taken = 0; log = [] }
