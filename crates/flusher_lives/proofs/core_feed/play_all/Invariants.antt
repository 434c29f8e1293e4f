-- What came so far and what is left are all that comes.
use Rattle.std.specs.List.{FoldsTo}
use Rattle.session_core.specs.Core.{CoreState}
use Rattle.flusher_lives.specs.Coming.{Comes}
use Rattle.flusher_lives.proofs.core_feed.play_all.Given as goal

abbrev pub invariant-loop-moment : goal.invariant-loop-moment
invariant-loop-moment l = (last : CoreState) → FoldsTo Comes l.core l.moment-iterator.rest.items last → FoldsTo Comes l.fn.core l.fn.coming.items last
