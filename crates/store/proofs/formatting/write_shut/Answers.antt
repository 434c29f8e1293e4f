use Rattle.std.proofs.Common.{◌≡◌, ◌∙◌, ℕ, List, get_or, inl, inr, ap, sym, subst}
use Rattle.disk.specs.State.{State}
use Rattle.store.specs.Formatting.{IsShut}
use Rattle.store.proofs.EmptyStore.{shut_images}
use Rattle.store.proofs.formatting.write_shut.Goals as goal

pub returns-clause-shut : goal.returns-clause-shut
returns-clause-shut g c honest =
    let before = c.write_closed.ensures.shut honest (c.in_ok-shut.ensures.shut honest) in
    let now = c.in_ok-sync.ensures.settled honest in
    record { settled = now.nothing_open 0; closed = λ same. before.closed (ap (λ (l : List ℕ). get_or l 0 0) (sym now.content) ∙ same) }

pub returns-clause-images : goal.returns-clause-images
returns-clause-images g c honest nothing image permitted =
    let before = c.write_closed.ensures.shut honest (c.in_ok-shut.ensures.shut honest) in
    let now = c.in_ok-sync.ensures.settled honest in
    let shut : IsShut (g.D.Disk.state c.sync.new.self) =
    record { settled = now.nothing_open 0; closed = λ same. before.closed (ap (λ (l : List ℕ). get_or l 0 0) (sym now.content) ∙ same) } in
    inl (shut_images (g.D.Disk.state c.sync.new.self) shut image permitted)

pub returns-in_err-shut-clause-images : goal.returns-in_err-shut-clause-images
returns-in_err-shut-clause-images g c honest nothing image permitted = inr (c.shut.ensures.images honest nothing image permitted)

pub returns-in_err-next-clause-images : goal.returns-in_err-next-clause-images
returns-in_err-next-clause-images g c honest nothing image permitted =
    inl (shut_images (g.D.Disk.state c.write_closed.new.disk) (c.write_closed.ensures.shut honest (c.in_ok-shut.ensures.shut honest)) image permitted)

pub returns-in_err-sync-clause-images : goal.returns-in_err-sync-clause-images
returns-in_err-sync-clause-images g c honest nothing image permitted =
    let shut = c.write_closed.ensures.shut honest (c.in_ok-shut.ensures.shut honest) in
    inl (shut_images (g.D.Disk.state c.sync.new.self) (subst (λ (s : State). IsShut s) (sym (c.in_err-sync.ensures.unsettled honest)) shut) image permitted)
