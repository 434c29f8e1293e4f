use Rattle.std.proofs.Common.{inr, subst}
use Rattle.disk.specs.State.{IsPermitted}
use Rattle.store.specs.State.{store_state}
use Rattle.store_edits.proofs.changes.grow_into.Goals as goal

pub returns-in-Err-clause-images : goal.returns-in-Err-clause-images
returns-in-Err-clause-images g c honest settled image permitted =
    let state = g.D.Disk.state in
    inr (c.a_settled_store_is_on_its_disk.ensures (store_state state c.args.old) settled image
    (subst (λ d. IsPermitted (state d) image) c.close.ensures permitted))
