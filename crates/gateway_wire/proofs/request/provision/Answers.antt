use Rattle.std.proofs.Common.{◌≡◌, ◌≤◌, [], drop, ap, arith}
use Rattle.gateway_wire.specs.declared.request.Request.TheVariants.{Provision}
use Rattle.gateway_wire.proofs.request.provision.Goals as goal

pub returns-in_err-rx_delay-clause-only : goal.returns-in_err-rx_delay-clause-only
returns-in_err-rx_delay-clause-only c dev_eui join_eui app_key offset delay ranges is =
    let one = c.next_value.ensures.only dev_eui _ ranges.0 (ap (drop 1) is) in
    let two = c.next_value-2.ensures.only join_eui _ ranges.1 one.1 in
    let three = c.next_value-3.ensures.only app_key _ ranges.2 two.1 in
    let low : 0 ≤ offset = omega arith in
    let four = c.next_ranged.ensures.only offset _ low ranges.3 three.1 in
    let five = c.next_ranged-2.ensures.only delay [] ranges.4.0 ranges.4.1 four.1 in
    let was = c.in_err-rx_delay.was in
    absurd cc

pub returns-in-None-clause-found : goal.returns-in-None-clause-found
returns-in-None-clause-found c =
    let one = c.in_ok-dev_eui.ensures.found in
    let two = c.in_ok-join_eui.ensures.found in
    let three = c.in_ok-app_key.ensures.found in
    let four = c.in_ok-rx1_offset.ensures.found in
    let five = c.in_ok-rx_delay.ensures.found in
    let end = c.in-None.ensures.steps.0 in
    let made : c.provisioning.result ≡ Provision c.in_ok-dev_eui.dev_eui c.in_ok-join_eui.join_eui c.in_ok-app_key.app_key c.in_ok-rx1_offset.rx1_offset c.in_ok-rx_delay.rx_delay = c.provisioning.ensures.value in
    (c.provisioning.ensures.in_range, rw made cc)

pub returns-in-None-clause-only : goal.returns-in-None-clause-only
returns-in-None-clause-only c dev_eui join_eui app_key offset delay ranges is =
    let one = c.next_value.ensures.only dev_eui _ ranges.0 (ap (drop 1) is) in
    let two = c.next_value-2.ensures.only join_eui _ ranges.1 one.1 in
    let three = c.next_value-3.ensures.only app_key _ ranges.2 two.1 in
    let low : 0 ≤ offset = omega arith in
    let four = c.next_ranged.ensures.only offset _ low ranges.3 three.1 in
    let five = c.next_ranged-2.ensures.only delay [] ranges.4.0 ranges.4.1 four.1 in
    let a = c.in_ok-dev_eui.was in
    let b = c.in_ok-join_eui.was in
    let d = c.in_ok-app_key.was in
    let e = c.in_ok-rx1_offset.was in
    let f = c.in_ok-rx_delay.was in
    let made = c.provisioning.ensures.value in
    cc
