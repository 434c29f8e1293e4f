use denote.Param.Members.{Called}
use Rattle.std.proofs.Common.{◌≡◌, [], Vec, Global, List, subst, sym}
use Rattle.devices.specs.declared.effect.Effect.{Effect}
use Rattle.disk.specs.State.{EveryImage}
use Rattle.sessions.specs.Table.{empty_table}
use Rattle.store.specs.Image.{HoldsTable}
use Rattle.store.specs.State.{store_state}
use Rattle.flusher_lives.specs.OverLives.{AreFlusherLives}
use Rattle.flusher.specs.Released.{effects_of_all}
use Rattle.flusher.specs.declared.released.Released.{Released}
use Rattle.flusher_lives.proofs.over_lives.flush_new_store.Goals as goal

pub returns-in-Ok-clause-course : goal.returns-in-Ok-clause-course
returns-in-Ok-clause-course g c =
    let effects : Vec Released Global → List Effect = λ released. effects_of_all released.items in
    let step : g.row.C.Denot → Vec Released Global → g.row.C.Denot → Type 0 = λ before released after. Called g.C.FnMut before (released, tt) tt after in
    let last = c.flush_over_lives in
    let made = c.in-Ok.ensures.made in (
      c.in-Ok.store,
      (
        record {
          empty = made.empty;
          healthy = made.healthy;
          settled = made.settled;
          other_area = made.other_area;
          fits = made.fits;
          generation = made.generation;
          refused = made.refused;
          unarmed = made.unarmed;
        },
        subst (λ d. AreFlusherLives g.D.Disk g.F.Feed.gives effects step c.args.lives.now d last.result c.args.feed.now last.new.feed c.args.out.now last.new.out) c.close.ensures
            last.ensures.course,
      ),
    )

pub returns-in-Ok-clause-once : goal.returns-in-Ok-clause-once
returns-in-Ok-clause-once g c =
    let state = g.D.Disk.state in
    let s = store_state state c.in-Ok.store in
    let empty = empty_table c.args.net_id c.args.slots in
    let made = c.in-Ok.ensures.made in
    let is_empty : s.table ≡ empty = made.empty.0 in
    let is_first : s.seq ≡ 0 = made.empty.1 in
    let held : EveryImage s.log.disk (HoldsTable empty 0) = λ image permitted.
    subst (λ n. HoldsTable empty n image) is_first
    (subst (λ t. HoldsTable t s.seq image) is_empty (c.a_settled_store_is_on_its_disk.ensures s (made.settled g.met.D.Sim.is_honest) image permitted)) in
    let first = c.no_mark_stands_twice.ensures.at_first c.args.net_id c.args.slots in
    c.flush_over_lives.ensures.once empty 0 [] (subst (λ d. EveryImage (state d) (HoldsTable empty 0)) (sym c.close.ensures) held) first.covered first.distinct
