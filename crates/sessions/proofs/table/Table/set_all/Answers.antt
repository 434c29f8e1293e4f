use Rattle.std.proofs.Common.{◌≡◌, ◌∷◌, arith, sym, subst}
use Rattle.std.proofs.lemmas.Grind.{common_steps}
use Rattle.devices.specs.declared.device.Device.{Device}
use Rattle.sessions.specs.Table.{CanPlace}
use Rattle.sessions.specs.Decision.{FitAll}
use Rattle.sessions.proofs.Runs.{CanPlace-fits}
use Rattle.sessions.proofs.table.Table.set_all.Goals as goal

pub set_device-requires : goal.set_device-requires
set_device-requires c =
    let t = c.loop-decision.self in
    let d = c.in-Some.decision in
    let waiting : c.loop-decision.decision-iterator.rest.items ≡ d ∷ c.next.new.self.rest.items = grind (arith, common_steps) in
    let fit : FitAll t (d ∷ c.next.new.self.rest.items) = subst (FitAll t) waiting c.loop-decision.invariant.1 in
    subst (λ (r : Device). CanPlace t d.slot r) (sym c.into_placed-record.ensures.record) (CanPlace-fits t d fit.0)
