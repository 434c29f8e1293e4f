-- What a commit changes, and what it may follow.
use Rattle.std.specs.Prelude.{◌≡◌, ◌<◌, ℕ, ◌+◌, List, length}
use Rattle.sessions.specs.Table.{TableState}
use Rattle.sessions.specs.Decision.{IsLegalContinuation, with_decisions}
use Rattle.sessions.specs.declared.decision.Decision.{Decision}
use Rattle.store.specs.declared.commit.Commit.{Commit}
use Rattle.store.specs.State.{StoreState}

-- decisions, and the number of the last of them
pub record Sequel : Type 0 where
  pub decisions : List Decision
  pub seq : ℕ

abbrev pub sequel_of : Commit → Sequel
sequel_of commit = record { decisions = commit.batch; seq = commit.last }

-- where a journal continues: a table and the number of its last decision, the place of the next
-- batch's gate, and the end of the area
pub record Tip : Type 0 where
  pub table : TableState
  pub seq : ℕ
  pub next : ℕ
  pub end : ℕ

abbrev pub tip_of : StoreState → Tip
tip_of s = record { table = s.table; seq = s.seq; next = s.log.next; end = s.log.areas.live.end }

-- the sequel may follow: it is a legal continuation, and `size` bytes fit after the next gate
pub record MayFollow (tip : Tip) (sequel : Sequel) (size : ℕ) : Type 0 where
  pub legal : IsLegalContinuation tip.table tip.seq sequel.decisions
  pub seq : sequel.seq ≡ tip.seq + length sequel.decisions
  pub room : tip.next + size < tip.end

-- the sequel is under way in this store
abbrev pub IsUnderWay : StoreState → Sequel → ℕ → Type 0
IsUnderWay s sequel size = MayFollow (tip_of s) sequel size

-- the table that the sequel leaves in this store
abbrev pub table_after : StoreState → Sequel → TableState
table_after s sequel = with_decisions s.table sequel.decisions

-- where it continues after a sequel of `size` bytes
abbrev pub tip_past : Tip → Sequel → ℕ → Tip
tip_past tip sequel size =
    record {
      table = with_decisions tip.table sequel.decisions;
      seq = sequel.seq;
      next = tip.next + size;
      end = tip.end;
    }

-- where the journal of this store continues after a sequel that is under way
abbrev pub tip_behind : StoreState → Sequel → ℕ → Tip
tip_behind s sequel size = tip_past (tip_of s) sequel size
