use Rattle.std.proofs.Common.{inl, sym, subst}
use Rattle.disk.specs.State.{IsPermitted}
use Rattle.gate_log.specs.Areas.{contents_with_checkpoint}
use Rattle.store.proofs.Shut.{shut_behind, still_shut_either}
use Rattle.store.proofs.establishing.publish_and_open.Goals as goal

pub returns-in-Ok-clause-done : goal.returns-in-Ok-clause-done
returns-in-Ok-clause-done g c honest contents header records rest shut is follows =
    c.open_superblock.ensures.done honest (contents_with_checkpoint contents header records) (c.in-Ok.ensures.done honest contents header records rest is follows)
    (shut_behind contents header records shut).some

pub returns-in-Ok-clause-images : goal.returns-in-Ok-clause-images
returns-in-Ok-clause-images g c honest contents header records rest shut is follows =
    c.open_superblock.ensures.images honest (contents_with_checkpoint contents header records) (c.in-Ok.ensures.done honest contents header records rest is follows)
    (shut_behind contents header records shut).some

pub returns-in-Err-clause-images : goal.returns-in-Err-clause-images
returns-in-Err-clause-images g c honest contents header records rest shut is follows image permitted =
    let there = subst (λ d. IsPermitted (g.D.Disk.state d) image) c.close.ensures permitted in
    inl (still_shut_either contents header records image shut (c.in-Err.ensures.images honest contents header records rest is follows image there))
