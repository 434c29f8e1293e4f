use Rattle.std.proofs.Common.{◌++◌, List, ℕ, take}
use Rattle.aes_cmac.specs.Cmac.{IsChained, blocks_before_last}
use Rattle.aes_cmac.proofs.chain.Chain.absorb.Given as goal

abbrev pub invariant-loop-byte : goal.invariant-loop-byte
invariant-loop-byte l =
    (message : List ℕ)
    → IsChained l.keys l.initial.self.block message l.initial.self.used (blocks_before_last message)
    → IsChained l.keys l.self.block (message ++ take l.byte-index l.piece) l.self.used (blocks_before_last (message ++ take l.byte-index l.piece))
