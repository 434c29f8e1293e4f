use Rattle.std.proofs.Common.{◌≡◌, ◌-◌, ◌^◌, ap, ℕ, List, Option, None, Some, arith, get_or, length, subst}
use Rattle.std.specs.Prelude.{slice_get}
use Rattle.std.proofs.lemmas.Option.{slice_get-get_or}
use Rattle.lnsd_life.proofs.Marking.{none_marked, one_more, all_marked}
use Rattle.lnsd_life.proofs.flushing.mark_links.Goals as goal

pub loop-application-init : goal.loop-application-init
loop-application-init c = none_marked c.args.directory.now.applications c.args.links c.args.marks.now

-- one more application
pub loop-application-preserved : goal.loop-application-preserved
loop-application-preserved c =
    let l = c.loop-application in
    let slice = c.applications-applications.result.now in
    let applications = c.args.directory.now.applications in
    let same : slice ≡ applications = c.applications-applications.ensures in
    let at : slice_get applications l.application ≡ Some (get_or slice l.application None) =
    subst (λ (a : List (Option ℕ)). slice_get a l.application ≡ Some (get_or slice l.application None)) same (slice_get-get_or slice l.application None c.loop-application-test.true) in
    one_more applications c.args.links l.application c.saturating_add.result (2 ^ 64 - 1) c.args.marks.now l.marks c.mark_link.new.marks (get_or slice l.application None) l.invariant at c.saturating_add.ensures (omega arith) c.mark_link.ensures

pub returns : goal.returns
returns c =
    let past = c.loop-application-test.false in
    let same : length c.applications-applications.result.now ≡ length c.args.directory.now.applications = ap length c.applications-applications.ensures in
    all_marked c.args.directory.now c.args.links c.loop-application.application c.args.marks.now c.loop-application.marks c.loop-application.invariant (omega (arith, past, same))
