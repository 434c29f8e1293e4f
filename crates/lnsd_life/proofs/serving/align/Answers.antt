use Rattle.lnsd_life.proofs.Decided.{same_list}
use Rattle.lnsd_life.proofs.serving.align.Goals as goal

pub returns : goal.returns
returns g c even = same_list c.args.one.now c.args.other.now c.begins-begins.result c.begins-begins.ensures.exact c.begins-begins.ensures.otherwise even
