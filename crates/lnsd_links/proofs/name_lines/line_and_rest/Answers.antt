use Rattle.lnsd_links.proofs.Lines.{first_of}
use Rattle.lnsd_links.proofs.name_lines.line_and_rest.Goals as goal

pub returns-in-Some : goal.returns-in-Some
returns-in-Some c = let f = first_of c.args.text.now c.split_once.result c.split_once.ensures.cases in rw c.in-Some.is at f

pub returns-in-None : goal.returns-in-None
returns-in-None c = let f = first_of c.args.text.now c.split_once.result c.split_once.ensures.cases in rw c.in-None.is at f
