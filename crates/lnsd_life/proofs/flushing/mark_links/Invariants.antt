-- The links of the applications so far are marked.
use Rattle.lnsd_life.proofs.Marking.{AreMarkedSoFar}
use Rattle.lnsd_life.proofs.flushing.mark_links.Given as goal

abbrev pub invariant-loop-application : goal.invariant-loop-application
invariant-loop-application l = AreMarkedSoFar l.directory.applications l.links l.application l.fn.marks l.marks
