use Rattle.std.proofs.Common.{inl, subst, sym}
use Rattle.disk.specs.State.{IsPermitted}
use Rattle.record_codec.specs.Version.{newest}
use Rattle.store.specs.State.{IsSettled, store_state}
use Rattle.store.proofs.store.Store.replace.Goals as goal

pub returns-then-self-clause-images : goal.returns-then-self-clause-images
returns-then-self-clause-images g c honest settled image permitted =
    let state = g.D.Disk.state in
    inl (c.a_settled_store_is_on_its_disk.ensures (store_state state c.args.self) settled image (subst (λ d. IsPermitted (state d) image) c.close.ensures permitted))

pub returns-then-generation-ge-LAST_GENERATION-clause-images :
    goal.returns-then-generation-ge-LAST_GENERATION-clause-images
returns-then-generation-ge-LAST_GENERATION-clause-images g c honest settled image permitted =
    let state = g.D.Disk.state in
    let closed = c.close-then-generation-ge-LAST_GENERATION.ensures in
    inl (c.a_settled_store_is_on_its_disk.ensures (store_state state c.args.self) settled image (subst (λ d. IsPermitted (state d) image) closed permitted))

pub returns-in-Ok-clause-settled : goal.returns-in-Ok-clause-settled
returns-in-Ok-clause-settled g c honest settled =
    subst IsSettled (sym c.new.ensures.store)
    (c.in-Ok.ensures.settled honest newest settled.contents c.args.self.table settled.rest settled.says (sym c.requires.network) (sym c.requires.slots))

pub returns-clause-images : goal.returns-clause-images
returns-clause-images g c honest settled image permitted =
    let state = g.D.Disk.state in
    c.in-Err.ensures.images honest newest settled.contents c.args.self.table settled.rest settled.says (sym c.requires.network) (sym c.requires.slots) image
    (subst (λ d. IsPermitted (state d) image) c.close-in-Err.ensures permitted)
