use Rattle.std.proofs.Common.{arith}
use Rattle.aes_cmac.proofs.ChainLemmas.{IsChained-more}
use Rattle.aes_cmac.proofs.chain.Chain.absorb_byte.Goals as goal

pub returns : goal.returns
returns c = λ message held.
    IsChained-more c.args.keys.now c.make_room.new.self.block message c.make_room.new.self.used c.args.byte (c.make_room.ensures.chained message held) c.make_room.ensures.room (omega arith)
