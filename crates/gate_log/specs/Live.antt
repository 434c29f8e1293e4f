-- What is known of the live area of a disk.
use Rattle.std.specs.Prelude.{List, ℕ, MatchBool}
use Rattle.gate_log.specs.declared.live.Live.{Live}
use Rattle.gate_log.specs.Areas.{IsClosedArea, IsLiveArea, IsOpenArea}

-- that area is live with that header, and the other one's gate is open or closed, as given
pub record IsLiveAs (live : Live) (disk : List ℕ) : Type 0 where
  pub is : IsLiveArea live.areas live.header disk
  pub other_gate : MatchBool live.other_open (IsOpenArea live.areas.other disk)
      (IsClosedArea live.areas.other disk)
