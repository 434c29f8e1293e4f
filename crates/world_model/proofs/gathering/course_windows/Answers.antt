use Rattle.std.proofs.Common.{◌≡◌, ◌∙◌, ◌-◌, ◌+◌, ◌++◌, suc, map, ap, sym, arith, length}
use Rattle.dedup.specs.Groups.{first_groups}
use Rattle.dedup.specs.Windows.{window_of_group}
use Rattle.world_model.proofs.gathering.course_windows.Goals as goal

pub loop-round-preserved : goal.loop-round-preserved
loop-round-preserved c =
    let left = length c.args.arrivals.now - (c.loop-round._round + 1) in
    let one_more : suc left ≡ length c.args.arrivals.now - c.loop-round._round = omega (arith, c.loop-round-test.true) in
    let windows = c.loop-round.windows.items in
    let step : windows ++ map window_of_group (first_groups (suc left) c.loop-round.others.items) ≡ c.gather_first.new.windows.items ++ map window_of_group (first_groups left c.in_ok-others-2.others.items) =
    ap (λ xs. windows ++ map window_of_group (first_groups (suc left) xs)) (sym c.deref.ensures.value) ∙ c.in_ok-others-2.ensures left in
    sym step ∙ (ap (λ n. windows ++ map window_of_group (first_groups n c.loop-round.others.items)) one_more ∙ c.loop-round.invariant)
