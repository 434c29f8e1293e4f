use Rattle.std.proofs.Common.{rules}
use Rattle.frame_crypt.proofs.join.derive_keys.Goals as goal

pub returns-clause-nwk_skey : goal.returns-clause-nwk_skey
returns-clause-nwk_skey c = search rules

pub returns-clause-app_skey : goal.returns-clause-app_skey
returns-clause-app_skey c = search rules
