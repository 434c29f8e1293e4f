-- What is recovered after a crash.
use Rattle.std.specs.Prelude.{◌≡◌, ◌++◌, ℕ, List, length, take}
use Rattle.devices.specs.declared.command.Command.{Command}
use Rattle.sessions.specs.Table.{TableState}
use Rattle.world.specs.Course.{Origin, Course, decided_commands, table_from, number_from}
use Rattle.world.specs.Course.{effects_from}
use Rattle.sessions.specs.Marks.{AreDistinct, IsSubsequence, marks_of}

-- A table and a number are what the first n decided commands leave, for some n. Every command whose
-- batch was released is among these, and what has left is part of their effects.
pub record Recovers (origin : Origin) (c : Course) (table : TableState) (number : ℕ) : Type 0 where
  pub kept : List Command
  pub beginning : take (length kept) (decided_commands c) ≡ kept
  pub released : take (length c.settled) kept ≡ c.settled
  pub left : IsSubsequence c.left (effects_from origin kept)
  pub table_is : table ≡ table_from origin kept
  pub number_is : number ≡ number_from origin kept

-- no mark was used up twice by what had left before and by what has left since
abbrev pub NoMarkTwice : Origin → Course → Type 0
NoMarkTwice origin c = AreDistinct (origin.marks ++ marks_of c.left)
