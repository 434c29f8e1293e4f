use Rattle.std.proofs.Common.{arith}
use Rattle.aes_cmac.proofs.ChainLemmas.{IsChained-block}
use Rattle.aes_cmac.proofs.chain.Chain.make_room.Goals as goal

pub returns-then-self-eq16-clause-chained : goal.returns-then-self-eq16-clause-chained
returns-then-self-eq16-clause-chained c = λ message held.
    IsChained-block c.args.keys.now c.args.self.now.block c.encrypt.new.block message c.args.self.now.used held (omega arith) c.encrypt.ensures
