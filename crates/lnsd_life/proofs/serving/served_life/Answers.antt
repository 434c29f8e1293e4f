use Rattle.std.proofs.Common.{◌≡◌, ℕ, Result, IfOk, MatchResult, OnOk, length, sum, sym, subst}
use Rattle.lw_types.specs.declared.refusal.Refusal.{Refusal}
use Rattle.lnsd_life.specs.Served.{IsUntold}
use Rattle.lnsd_life.specs.declared.report.LifeReport.{LifeReport}
use Rattle.lnsd_operator.specs.declared.fault.ServeFault.{ServeFault}
use Rattle.lnsd_life.proofs.serving.served_life.Goals.{in-Ok, in-Err}
use Rattle.lnsd_life.proofs.serving.served_life.Goals as goal

-- what is known of a report
abbrev HasSum : Result LifeReport ServeFault → Type 0
HasSum r = IfOk r (λ report. sum report.shares.items ≡ report.made)

pub returns-clause-shares : goal.returns-clause-shares
returns-clause-shares g c =
    elim c.match-result.branch [
      | in-Ok w ↦ subst HasSum (sym w.result-is) w.report-result.ensures.sum
      | in-Err w ↦ subst HasSum (sym w.result-is) (tt {0})
    ]

-- how many workers are known of a report, with the closer
abbrev HasWorkers : ℕ → Result LifeReport ServeFault → Type 0
HasWorkers all r = IfOk r (λ report. length report.shares.items ≡ all)

pub returns-clause-workers : goal.returns-clause-workers
returns-clause-workers g c =
    elim c.match-result.branch [
      | in-Ok w ↦ subst (HasWorkers c.args.all) (sym w.result-is) w.report-result.ensures.workers
      | in-Err w ↦ subst (HasWorkers c.args.all) (sym w.result-is) (tt {0})
    ]

-- what is reported of how a life ended
abbrev IsTold : ℕ → Result (Unit {0}) Refusal → Result LifeReport ServeFault → Type 0
IsTold taken ended result = OnOk ended (MatchResult result (λ report. report.made ≡ taken) IsUntold)

pub returns-clause-told : goal.returns-clause-told
returns-clause-told g c =
    let taken = length c.args.end.known in
    elim c.match-result.branch [
      | in-Ok w ↦
          subst (IsTold taken c.args.end.result) (sym w.result-is)
          (subst (λ ended. IsTold taken ended w.report-result.result) (sym w.in-Ok.is) w.report-result.ensures.told)
      | in-Err w ↦ subst (λ ended. IsTold taken ended c.match-result.result) (sym w.in-Err.is) (tt {0})
    ]
