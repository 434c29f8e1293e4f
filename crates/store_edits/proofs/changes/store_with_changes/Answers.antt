use Rattle.std.proofs.Common.{◌⊎◌, inl, subst}
use Rattle.disk.specs.State.{IsPermitted}
use Rattle.device_changes.specs.Table.{changed_table}
use Rattle.store.specs.Image.{HoldsTable}
use Rattle.store.specs.State.{store_state}
use Rattle.store_edits.proofs.changes.store_with_changes.Goals as goal

pub returns-in-Err-replace-clause-images : goal.returns-in-Err-replace-clause-images
returns-in-Err-replace-clause-images g c honest settled image permitted =
    let store = c.args.store in
    subst (λ t. HoldsTable store.table store.seq image ⊎ HoldsTable (changed_table c.args.rows.now t) store.seq image) c.table.ensures
    (subst (λ t. HoldsTable store.table store.seq image ⊎ HoldsTable t store.seq image) c.in-Ok.ensures.changed.1
    (c.in-Err-replace.ensures.images honest settled image permitted))

pub returns-in-Err-clause-images : goal.returns-in-Err-clause-images
returns-in-Err-clause-images g c honest settled image permitted =
    let state = g.D.Disk.state in
    inl (c.a_settled_store_is_on_its_disk.ensures (store_state state c.args.store) settled image
    (subst (λ d. IsPermitted (state d) image) c.close.ensures permitted))
