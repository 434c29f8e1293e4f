use Rattle.std.proofs.Common.{subst, sym}
use Rattle.gate_log.specs.declared.live.Live.{Live}
use Rattle.gate_log.specs.Live.{IsLiveAs}
use Rattle.gate_log.proofs.Headers.{closed_is_older}
use Rattle.gate_log.proofs.live.Live.beside_closed.Goals as goal

pub returns-clause-live : goal.returns-clause-live
returns-clause-live c disk has closed =
    subst (λ (l : Live). IsLiveAs l disk) (sym c.new.ensures) (record {
      is = record { header = has; other = closed_is_older c.args.closed disk c.args.header.generation c.requires closed };
      other_gate = closed;
    })
