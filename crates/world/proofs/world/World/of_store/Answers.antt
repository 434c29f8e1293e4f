use Rattle.std.proofs.Common.{refl, ap, sym}
use Rattle.flusher.specs.Released.{effects_of_all}
use Rattle.session_core.specs.Core.{CoreState}
use Rattle.session_core.specs.State.{new_decisions}
use Rattle.store.specs.State.{store_state}
use Rattle.world.specs.Commits.{at_rest}
use Rattle.world.specs.Course.{beginning}
use Rattle.world.proofs.Listening.{listens-first}
use Rattle.world.proofs.Opening.{life_begun}
use Rattle.world.proofs.Taking.{moved}
use Rattle.world.proofs.world.World.of_store.Goals as goal

pub returns-in-Ok-clause-course : goal.returns-in-Ok-clause-course
returns-in-Ok-clause-course g c healthy settled origin table number =
    let state = g.D.Disk.state in
    let first = beginning origin in
    let s = store_state state c.args.store in
    let life = c.in-Ok.life in
    record {
      condition = (
        refl,
        (
          moved origin first s (store_state state life.store) (new_decisions s.table s.seq) life.core.decisions at_rest life.commits
              c.in-Ok.ensures.store (ap (λ (k : CoreState). k.decisions) c.in-Ok.ensures.core) c.in-Ok.ensures.idle
              (life_begun origin s settled healthy table number (c.a_settled_store_is_on_its_disk.ensures s settled)),
          listens-first first life.core life.links s.table s.seq c.in-Ok.ensures.core c.in-Ok.ensures.silent (c.no_copies_no_windows.ensures 0) refl refl refl refl,
        ),
      );
      left = sym (ap effects_of_all c.new-in-Ok.ensures.items);
      emitted = refl;
      once = refl;
    }
