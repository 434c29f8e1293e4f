use Rattle.std.proofs.Common.{◌≡◌, ◌+◌, ℕ, arith, ap, refl, length, sym, ◌∙◌}
use Rattle.std.specs.Option.{option_map_or}
use Rattle.std.proofs.lemmas.List.{length-set}
use Rattle.flusher.specs.Released.{effect_of, effects_of_all}
use Rattle.lnsd_links.proofs.Routed.{marked_lost, marked_none, marked_one, routed_all, routed_step}
use Rattle.lnsd_links.proofs.routing.route.Goals as goal

pub loop-one-preserved-then-number-marks : goal.loop-one-preserved-then-number-marks
loop-one-preserved-then-number-marks c =
    let (routed, few, (long, marked)) = c.loop-one.invariant in
    let front = c.in-Some.ensures.steps.0 in
    let shorter = ap length front in
    let count : c.loop-one.lost ≡ c.loop-one.lost + option_map_or (λ (link : ℕ). 0) c.route_one.result 1 = rw c.in-Some-route_one.is (omega arith) in
    let put = (rw c.in-Some-route_one.is at c.route_one.ensures.routed).1 in
    let within = rw c.in-Some-route_one.is at c.route_one.ensures.within in (
      routed_step c.args.directory.now (effects_of_all c.args.released.items) c.args.outlets.now c.loop-one.one-iterator.rest.items c.next.new.self.rest.items c.in-Some.one c.route_one.result c.loop-one.lost _ c.loop-one.outlets c.route_one.new.outlets front c.route_one.ensures.routed count routed,
      omega (arith, few),
      (
        length-set c.loop-one.marks _ _ ∙ long,
        marked_one c.args.marks.now c.loop-one.marks c.args.outlets.now c.loop-one.outlets c.route_one.new.outlets c.in-Some-route_one.number (effect_of c.in-Some.one) marked long within c.if-number-marks.true put,
      ),
    )

pub loop-one-preserved-else-number-marks : goal.loop-one-preserved-else-number-marks
loop-one-preserved-else-number-marks c =
    let (routed, few, (long, marked)) = c.loop-one.invariant in
    let front = c.in-Some.ensures.steps.0 in
    let shorter = ap length front in
    let count : c.loop-one.lost ≡ c.loop-one.lost + option_map_or (λ (link : ℕ). 0) c.route_one.result 1 = rw c.in-Some-route_one.is (omega arith) in
    let put = (rw c.in-Some-route_one.is at c.route_one.ensures.routed).1 in (
      routed_step c.args.directory.now (effects_of_all c.args.released.items) c.args.outlets.now c.loop-one.one-iterator.rest.items c.next.new.self.rest.items c.in-Some.one c.route_one.result c.loop-one.lost _ c.loop-one.outlets c.route_one.new.outlets front c.route_one.ensures.routed count routed,
      omega (arith, few),
      (
        long,
        marked_none c.args.marks.now c.loop-one.marks c.args.outlets.now c.loop-one.outlets c.route_one.new.outlets c.in-Some-route_one.number (effect_of c.in-Some.one) marked long c.if-number-marks.false put,
      ),
    )

pub overflow_add-lost : goal.overflow_add-lost
overflow_add-lost c =
    let (routed, few, kept) = c.loop-one.invariant in
    let shorter = ap length c.in-Some.ensures.steps.0 in
    omega (arith, few, c.args.released.small, c.args.released.ok.0, c.args.released.ok.1)

pub loop-one-preserved : goal.loop-one-preserved
loop-one-preserved c =
    let (routed, few, (long, marked)) = c.loop-one.invariant in
    let front = c.in-Some.ensures.steps.0 in
    let shorter = ap length front in
    let count : c.loop-one.lost + 1 ≡ c.loop-one.lost + option_map_or (λ (link : ℕ). 0) c.route_one.result 1 = rw c.in-None-route_one.is refl in
    let kept = (rw c.in-None-route_one.is at c.route_one.ensures.routed).0 in (
      routed_step c.args.directory.now (effects_of_all c.args.released.items) c.args.outlets.now c.loop-one.one-iterator.rest.items c.next.new.self.rest.items c.in-Some.one c.route_one.result c.loop-one.lost _ c.loop-one.outlets c.route_one.new.outlets front c.route_one.ensures.routed count routed,
      omega (arith, few),
      (
        long,
        marked_lost c.args.marks.now c.loop-one.marks c.args.outlets.now c.loop-one.outlets c.route_one.new.outlets marked kept,
      ),
    )

pub returns-clause-routed : goal.returns-clause-routed
returns-clause-routed c =
    let (routed, few, kept) = c.loop-one.invariant in
    routed_all c.args.directory.now (effects_of_all c.args.released.items) c.args.outlets.now c.loop-one.one-iterator.rest.items c.loop-one.lost c.loop-one.outlets
    (sym c.loop-one.one-iterator.rest.ok.0 ∙ c.in-None.ensures.steps.0)
    routed

pub returns-clause-marked : goal.returns-clause-marked
returns-clause-marked c =
    let (routed, few, (long, marked)) = c.loop-one.invariant in
    marked
