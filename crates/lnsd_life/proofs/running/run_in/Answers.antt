use Rattle.std.proofs.Common.{◌≡◌, List, [], Result, Err, subst, sym}
use Rattle.flusher.proofs.Calling.{none_yet}
use Rattle.lw_types.specs.declared.refusal.Refusal.{Refusal}
use Rattle.lw_types.specs.declared.refusal.Refusal.TheVariants.{OutOfMemory}
use Rattle.sessions.specs.declared.decision.Decision.{Decision}
use Rattle.store.specs.State.{store_state}
use Rattle.lnsd_life.specs.Served.{IsRun}
use Rattle.lnsd_life.proofs.Decided.{none_decided}
use Rattle.lnsd_life.proofs.running.run_in.Goals.{then-started, else-started}
use Rattle.lnsd_life.proofs.running.run_in.Goals as goal

-- if each thread runs, the flusher led the store on; otherwise it is unchanged
pub returns : goal.returns
returns g c =
    let disk = g.D.Disk in
    let old = c.args.store in
    elim c.if-started.branch [
      | then-started w ↦
          subst (λ (r : List Decision × Result (Unit {0}) Refusal). IsRun disk old c.args.taker r.0 r.1 c.if-started.store) (sym w.flushed-is)
          (subst (λ s. IsRun disk old c.args.taker w.flush-flushed.result.0 w.flush-flushed.result.1 s) (sym w.store-is)
          (record {
            healthy = w.flush-flushed.ensures.healthy;
            committed = w.flush-flushed.ensures.committed;
            decided = w.flush-flushed.ensures.decided;
            refused = w.flush-flushed.ensures.refused;
            lives = w.flush-flushed.ensures.lives;
          }))
      | else-started w ↦
          subst (λ (r : List Decision × Result (Unit {0}) Refusal). IsRun disk old c.args.taker r.0 r.1 c.if-started.store) (sym w.flushed-is)
          (subst (λ s. IsRun disk old c.args.taker w.again.result (Err OutOfMemory) s) (sym w.store-is)
          (record {
            healthy = tt {0};
            committed = tt {0};
            decided = none_decided (store_state disk.state old) c.args.taker w.again.result OutOfMemory;
            refused = none_yet disk.failures disk.outlook old;
            lives = λ honest t number lives led. ([], led);
          }))
    ]
