use Rattle.std.proofs.Common.{take}
use Rattle.std.specs.List.{flat_map}
use Rattle.aes_cmac.specs.Cmac.{IsChained, blocks_before_last}
use Rattle.aes_cmac.proofs.cmac.Given as goal

abbrev pub invariant-loop-piece : goal.invariant-loop-piece
invariant-loop-piece l =
    let joined = flat_map (λ piece. piece.now) (take l.piece-index l.pieces) in
    IsChained l.keys l.chain.block joined l.chain.used (blocks_before_last joined)
