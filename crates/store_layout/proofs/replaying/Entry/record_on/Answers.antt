use Rattle.std.proofs.lemmas.Result.{err_from_is_err_and}
use Rattle.store_layout.proofs.replaying.Entry.record_on.Goals as goal

pub returns-in_err-device-in-Changed-clause-left : goal.returns-in_err-device-in-Changed-clause-left
returns-in_err-device-in-Changed-clause-left c =
    let p = err_from_is_err_and c.from_residual.result c.from_residual.ensures.1 in
    rw (p.1, p.2, c.in-Changed.is) (λ other. c.in_err-device-in-Changed.ensures.left other)

pub returns-in_err-device-in-Changed-clause-memory : goal.returns-in_err-device-in-Changed-clause-memory
returns-in_err-device-in-Changed-clause-memory c =
    let p = err_from_is_err_and c.from_residual.result c.from_residual.ensures.1 in
    rw (p.1, p.2, c.in-Changed.is) (λ memory. c.in_err-device-in-Changed.ensures.memory memory)
