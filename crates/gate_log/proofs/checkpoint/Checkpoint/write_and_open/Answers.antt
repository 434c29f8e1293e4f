use Rattle.std.proofs.Common.{inl}
use Rattle.gate_log.proofs.checkpoint.Checkpoint.write_and_open.Goals as goal

pub returns-in_err-synced-clause-images : goal.returns-in_err-synced-clause-images
returns-in_err-synced-clause-images g c honest held header records rest shut begun may image permitted =
    inl (c.in_err-synced.ensures.images honest held header records (c.in_ok-written.ensures.next honest held header records rest shut begun may) image permitted)

pub returns-clause-done : goal.returns-clause-done
returns-clause-done g c honest held header records rest shut begun may =
    c.sync-2.ensures.next honest held header records
    (c.in_ok-opened.ensures.next honest held header records
    (c.in_ok-synced.ensures.next honest held header records (c.in_ok-written.ensures.next honest held header records rest shut begun may)))
