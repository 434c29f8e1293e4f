use Rattle.std.proofs.Common.{[], refl}
use Rattle.store.specs.State.{store_state}
use Rattle.lnsd_life.proofs.Decided.{nothing_committed}
use Rattle.lnsd_life.proofs.Ending.{unbegun}
use Rattle.lnsd_life.proofs.serving.failed.Goals as goal

-- nothing has happened to the store
pub returns-clause-served : goal.returns-clause-served
returns-clause-served g c =
    record {
      shares = tt {0};
      healthy = tt {0};
      committed = tt {0};
      decided = record {
        history = [];
        committed = [];
        next = ([], refl);
        commits = nothing_committed (store_state g.D.Disk.state c.args.store);
        all = tt {0};
      };
      refused = unbegun g.D.Disk c.args.store c.args.fault c.requires;
      lives = λ honest t number lives led. ([], led);
    }
