use Rattle.std.proofs.Common.{◌≡◌, ◌<◌, ◌∙◌, Some, ap, arith, sym, get_or, true, false}
use Rattle.gateway_wire.specs.Emission.{recipient}
use Rattle.lnsd_links.specs.Linked.{ring_of}
use Rattle.lnsd_links.proofs.Routed.{full_one, kept_one, taken_one}
use Rattle.outbox.specs.Ring.{room_of}
use Rattle.lnsd_links.proofs.routing.route_one.Goals as goal
use Rattle.lnsd_links.proofs.routing.route_one.Goals.{in-Ok, in-Err}

pub returns-clause-routed : goal.returns-clause-routed
returns-clause-routed c =
    let outlets = c.args.outlets.now in
    let n = c.in_ok-number.number in
    let d = c.index-outlets-number.result in
    let named = ap (λ e. ring_of c.args.directory.now (recipient e)) c.effect.ensures in
    let linked : ring_of c.args.directory.now (recipient c.args.released.effect) ≡ Some n =
    sym named ∙ (ap (ring_of c.args.directory.now) (sym c.of.ensures) ∙ (sym c.ring_of.ensures ∙ c.in_ok-number.was)) in
    elim c.match-put.branch [
      | in-Ok w ↦ rw w.result-is (linked, taken_one outlets n d c.put.new.self c.args.released.effect c.if-number-outlets.false (rw w.in-Ok.is at c.put.ensures.put))
      | in-Err w ↦ let none : (0 < room_of (get_or outlets n d)) → ⊥ = λ h. let no : false ≡ true = (rw w.in-Err.is at c.put.ensures.room) h in cc in
          rw w.result-is (
            kept_one outlets n d c.put.new.self (rw w.in-Err.is at c.put.ensures.full).1,
            λ link outlet is there. full_one outlets n d (omega (arith, none)) link outlet (sym linked ∙ is) there,
          )
    ]
