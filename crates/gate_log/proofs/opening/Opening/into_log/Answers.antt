use Rattle.std.proofs.Common.{sym, ap, subst}
use Rattle.std.specs.Prelude.{MatchBool}
use Rattle.gate_log.specs.declared.layout.Areas.{Areas}
use Rattle.gate_log.specs.declared.layout.Header.{Header}
use Rattle.gate_log.specs.Areas.{IsClosedArea, IsOpenArea}
use Rattle.gate_log.specs.Log.{IsAtRest, LogState}
use Rattle.gate_log.proofs.opening.Opening.into_log.Goals as goal

pub returns-clause-rest : goal.returns-clause-rest
returns-clause-rest g c honest contents holds live areas header next =
    let disk = (g.D.Disk.state c.args.self.disk).content in
    subst (λ (log : LogState). IsAtRest log contents) (sym c.new.ensures.log) (record {
      settled = c.args.self.settled honest;
      holds = holds;
      knows = record { areas = sym areas; generation = ap (λ (h : Header). h.generation) (sym header); next = next };
      other_gate = subst (λ (x : Areas). MatchBool c.args.live.other_open (IsOpenArea x.other disk) (IsClosedArea x.other disk)) (sym areas) live.other_gate;
    })
