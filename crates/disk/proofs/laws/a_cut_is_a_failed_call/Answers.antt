use Rattle.std.proofs.Common.{◌≡◌, ◌∙◌, sym, ap, subst}
use Rattle.disk.proofs.Torn.{still_permitted, permitted_there}
use Rattle.disk.proofs.laws.a_cut_is_a_failed_call.Goals as goal

pub returns-clause-before : goal.returns-clause-before
returns-clause-before c at n before failed is image permitted = still_permitted at n before failed is image permitted

pub returns-clause-behind : goal.returns-clause-behind
returns-clause-behind c at n before after failed was is image permitted = permitted_there at n before after failed was is image permitted
