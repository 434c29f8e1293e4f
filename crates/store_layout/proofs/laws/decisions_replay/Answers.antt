use Rattle.std.proofs.Common.{refl}
use Rattle.store_layout.proofs.Replays.{leads_of, as_many}
use Rattle.store_layout.proofs.laws.decisions_replay.Goals as goal

pub returns-clause-replay : goal.returns-clause-replay
returns-clause-replay c v t ds es fit are each =
    record { spelled = refl; number = as_many v ds es are; each = each; leads = leads_of c.decided_records_may_be_put.ensures v t ds es fit are }

pub returns-clause-number : goal.returns-clause-number
returns-clause-number c = as_many
