use Rattle.std.proofs.Common.{IfOk, OnOk, subst, sym}
use Rattle.std.specs.Io.KnownBytes.{Appends}
use Rattle.lnsd_life.specs.declared.report.LifeReport.{LifeReport}
use Rattle.gateway_server.specs.Lines.{run_text}
use Rattle.gateway_server.proofs.running.tell_run.Goals as goal

pub returns-in-Ok-clause-told : goal.returns-in-Ok-clause-told
returns-in-Ok-clause-told g c =
    let told : LifeReport → Type 0 = λ r. OnOk c.write_run.result
    (Appends (g.E.Write.contents c.args.err.now) (g.E.Write.contents c.write_run.new.err)
    (run_text r)) in
    subst (λ l. IfOk l (λ life. told life.report)) (sym c.in-Ok.is)
    (subst told c.report.ensures c.write_run.ensures)
