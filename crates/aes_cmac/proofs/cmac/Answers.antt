use Rattle.aes_cmac.proofs.cmac.Goals as goal

pub loop-piece-init : goal.loop-piece-init
loop-piece-init c = c.new-chain.ensures c.new-keys.result
