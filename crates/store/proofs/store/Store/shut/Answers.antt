use Rattle.std.proofs.Common.{◌≡◌, ◌∙◌, ap, drop, subst, sym}
use Rattle.disk.specs.State.{NothingOpen}
use Rattle.store.specs.State.{store_state}
use Rattle.store.proofs.Shut.{shut_or_held}
use Rattle.store.proofs.store.Store.shut.Goals as goal

pub returns-in-Err-clause-images : goal.returns-in-Err-clause-images
returns-in-Err-clause-images g c honest settled image permitted =
    let state = g.D.Disk.state in
    let same = c.close-disk.ensures in
    shut_or_held (store_state state c.args.self) settled image
    (c.in-Err.ensures.images honest (subst (λ d. NothingOpen (state d)) (sym same) settled.rest.settled) image permitted ∙ ap (λ d. drop 1 (state d).content) same)
