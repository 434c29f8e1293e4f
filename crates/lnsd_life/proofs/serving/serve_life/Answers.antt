use Rattle.std.proofs.Common.{◌≡◌, ◌+◌, ℕ, IfErr, IfOk, OnOk, arith, length, sym, subst}
use Rattle.flusher.specs.Calls.{NoneFailed}
use Rattle.store.specs.State.{store_state}
use Rattle.lnsd_life.proofs.Ending.{ended_well, told_committed, told_refused, unlisted}
use Rattle.session_core.specs.Taking.{TakerState}
use Rattle.lnsd_life.proofs.Decided.{told_history}
use Rattle.lnsd_life.specs.Served.{CommitsInOrder, IsLedOn, IsRefused}
use Rattle.lnsd_life.specs.declared.report.LifeReport.{LifeReport}
use Rattle.lnsd_life.proofs.serving.serve_life.Goals as goal

pub returns-clause-served : goal.returns-clause-served
returns-clause-served g c =
    let HasNoneFailed = NoneFailed g.D.Disk.failures g.D.Disk.outlook c.args.store in
    let ran = c.run-end.ensures in
    let ended = c.served_life.ensures in
    let seen = c.run-end.result.known in
    let taken = length seen in
    let healthy = subst (λ s. OnOk c.run-end.result.result (HasNoneFailed s)) (sym ended.store) ran.healthy in
    record {
      shares = ended.shares;
      healthy = ended_well c.run-end.result.result c.served_life.result.result (HasNoneFailed c.served_life.result.store) ended.refused healthy;
      committed =
          told_committed c.run-end.result.result c.served_life.result.result c.args.store.seq c.served_life.result.store.seq taken
          ended.refused ended.told
          (subst (λ (t : TakerState). OnOk c.run-end.result.result (c.served_life.result.store.seq + t.taken ≡ c.args.store.seq + taken)) c.new-shared.ensures.taker
          (subst (λ s. OnOk c.run-end.result.result (s.seq + c.new-shared.result.1.taken ≡ c.args.store.seq + taken)) (sym ended.store) ran.committed));
      decided =
          told_history c.run-end.result.result seen c.served_life.result.result (store_state g.D.Disk.state c.args.store) (store_state g.D.Disk.state c.served_life.result.store)
          ended.refused ended.told
          (subst (λ (t : TakerState). CommitsInOrder (store_state g.D.Disk.state c.args.store) (store_state g.D.Disk.state c.served_life.result.store) t seen c.run-end.result.result) c.new-shared.ensures.taker
          (subst (λ s. CommitsInOrder (store_state g.D.Disk.state c.args.store) (store_state g.D.Disk.state s) c.new-shared.result.1 seen c.run-end.result.result) (sym ended.store) ran.decided));
      refused =
          told_refused g.D.Disk c.run-end.result.result c.served_life.result.result taken c.args.store c.served_life.result.store
          ended.refused ended.told healthy
          (subst (λ s. IfErr c.run-end.result.result (IsRefused g.D.Disk c.args.store s)) (sym ended.store) ran.refused);
      lives = λ honest.
          subst (λ s. IsLedOn (store_state g.D.Disk.state c.args.store) (store_state g.D.Disk.state s)) (sym ended.store) (ran.lives honest);
    }

-- a share of each place, and one of the closer
pub returns-clause-workers : goal.returns-clause-workers
returns-clause-workers g c =
    let all : c.len.result + 1 ≡ length c.args.beginning.links.items + 1 = omega (arith, c.len.ensures, c.args.beginning.links.ok.0) in
    subst (λ (n : ℕ). IfOk c.served_life.result.result (λ (report : LifeReport). length report.shares.items ≡ n)) all c.served_life.ensures.workers

pub returns-clause-unlisted : goal.returns-clause-unlisted
returns-clause-unlisted g c =
    unlisted c.run-end.result.result c.served_life.result.result (length c.run-end.result.known) c.served_life.ensures.refused c.served_life.ensures.told
