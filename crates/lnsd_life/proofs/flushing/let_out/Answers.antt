use Rattle.lnsd_life.proofs.flushing.let_out.Goals as goal

pub returns : goal.returns
returns g c =
    record { routed = (c.deref.result.now, (c.let_out_by-lost.result, c.let_out_by-lost.ensures.routed)) }
