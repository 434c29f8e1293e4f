use Rattle.std.proofs.Common.{◌∙◌, length, inl, refl, ap, subst, sym}
use Rattle.sessions.specs.Table.{TableState}
use Rattle.session_core.specs.State.{new_decisions}
use Rattle.store.specs.State.{store_state}
use Rattle.world.specs.Commits.{at_rest}
use Rattle.world.specs.Course.{after_opening}
use Rattle.world.specs.Follows.{Survives}
use Rattle.world.proofs.Calling.{held}
use Rattle.session_core.specs.Core.{CoreState}
use Rattle.world.proofs.Listening.{listens-first}
use Rattle.world.proofs.Taking.{moved}
use Rattle.world.proofs.Opening.{life_opened}
use Rattle.world.proofs.condition.Condition.begin.Goals as goal

pub returns-in-Ok-clause-course : goal.returns-in-Ok-clause-course
returns-in-Ok-clause-course g c healthy settled origin course left =
    let state = g.D.Disk.state in
    let s = store_state state c.args.store in
    let life = c.in-Ok.life in
    let seq = c.seq-seq.ensures ∙ left.3 in
    let table = c.table.ensures ∙ left.2 in (
      (left.0, left.1, seq, ap length (c.devices-devices.ensures.devices ∙ ap (λ (t : TableState). t.devices) table)),
      λ image. (
        refl,
        (
          moved origin (after_opening origin course c.seq-seq.result) s (store_state state life.store) (new_decisions s.table s.seq) life.core.decisions at_rest life.commits
              c.in-Ok.ensures.store (ap (λ (k : CoreState). k.decisions) c.in-Ok.ensures.core) c.in-Ok.ensures.idle
              (life_opened origin course left.0 c.seq-seq.result s left.1 seq settled healthy left.2 left.3 (c.a_settled_store_is_on_its_disk.ensures s settled)),
          listens-first (after_opening origin course c.seq-seq.result) life.core life.links s.table s.seq c.in-Ok.ensures.core c.in-Ok.ensures.silent (c.no_copies_no_windows.ensures 0) refl refl refl refl,
        ),
      ),
    )

pub returns-in-Err-clause-course : goal.returns-in-Err-clause-course
returns-in-Err-clause-course g c healthy settled origin course left =
    let state = g.D.Disk.state in
    let s = store_state state c.args.store in
    let disk = c.in-Err.ensures.refused.0 in (
      inl c.in-Err.ensures.refused.1,
      λ image. (
        refl,
        subst (λ d. Survives origin course (state d)) (sym disk)
            (λ image p. (left.0, left.1, held s.table _ s.seq _ image left.2 left.3 (c.a_settled_store_is_on_its_disk.ensures s settled image p))),
      ),
    )
