-- the bytes so far come before those of the pieces that are left
use Rattle.std.proofs.Common.{◌≡◌, ◌++◌, drop}
use Rattle.world.specs.Links.{stream_on}
use Rattle.world_model.proofs.streams.stream_on.Given as goal

abbrev pub invariant-loop-piece : goal.invariant-loop-piece
invariant-loop-piece l =
    l.stream.items ++ stream_on l.link (drop l.piece-index l.pieces) ≡ stream_on l.link l.pieces
