use Rattle.lnsd_life.proofs.flushing.let_out_by.Goals as goal

pub returns-clause-marked : goal.returns-clause-marked
returns-clause-marked c = (c.route-lost.new.marks, (c.route-lost.ensures.marked, c.mark_links.ensures))
