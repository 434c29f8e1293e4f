use Rattle.aes_cmac.proofs.ChainLemmas.{IsChained-none}
use Rattle.aes_cmac.proofs.chain.Chain.new.Goals as goal

pub returns : goal.returns
returns c = IsChained-none
