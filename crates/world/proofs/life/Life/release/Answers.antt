use Rattle.std.proofs.Common.{◌∙◌, ◌++◌, ◌≤◌, ◌+◌, sym, subst, ap, length, vec_capacity, arith, length-append}
use Rattle.std.proofs.lemmas.List.{length-map, map-append}
use Rattle.store.specs.State.{store_state}
use Rattle.flusher.specs.Released.{effect_of, effects_of_all}
use Rattle.flusher.specs.declared.room.TheConstants.{MOST_EFFECTS}
use Rattle.world.specs.Follows.{FollowsLife}
use Rattle.world.proofs.Listening.{listens-released}
use Rattle.world.proofs.Releasing.{answered, lets, releases, room_left, sound_left, taken_out}
use Rattle.world.proofs.Waiting.{holds_back}
use Rattle.world.proofs.life.Life.release.Goals as goal

pub returns-in-Some-clause-sound : goal.returns-in-Some-clause-sound
returns-in-Some-clause-sound g c =
    let life = c.args.self.now in
    sound_left (store_state g.D.Disk.state life.store) life.commits c.take_oldest.new.self c.in-Some.durable c.in-Some.ensures c.requires.sound.0

pub returns-in-Some-clause-room : goal.returns-in-Some-clause-room
returns-in-Some-clause-room g c =
    let life = c.args.self.now in
    let old = c.args.released.now in
    let new = c.add.new.released in
    let count = ap length c.add.ensures.items ∙ length-append old.items c.release-effects.result.items in
    let few = c.release-effects.ensures.few in
    let more : length new.items ≤ length old.items + MOST_EFFECTS = omega (arith, count, few) in
    room_left life.commits c.take_oldest.new.self c.in-Some.durable (length old.items) (vec_capacity old) (length new.items) (vec_capacity new) c.in-Some.ensures
    more c.add.ensures.capacity c.requires.room

pub returns-in-Some-clause-course : goal.returns-in-Some-clause-course
returns-in-Some-clause-course g c origin course f =
    let life = c.args.self.now in
    let laws = c.of_runs.ensures in
    let s = store_state g.D.Disk.state life.store in
    let next = c.take_oldest.new.self in
    let durable = c.in-Some.durable in
    let oldest = taken_out origin course s life.core.decisions life.commits next durable f.0 c.in-Some.ensures in
    let number = c.len-count.ensures in
    let all = c.release-effects.result.ok.0 in
    let told = length-map c.release-effects.result.items effect_of in
    let count = ap length c.release-effects.ensures.effects in (
      answered laws origin course durable oldest.rest oldest.first oldest.fit c.len-count.result (omega (arith, number, all, told, count)),
      (
        releases laws origin course durable oldest.rest oldest.first oldest.fit s life.core.decisions life.commits next f.0 oldest.at oldest.healthy,
        listens-released origin course course.flights life.core life.links f.1,
      ),
    )

pub returns-in-Some-clause-left : goal.returns-in-Some-clause-left
returns-in-Some-clause-left g c origin course f left =
    let life = c.args.self.now in
    let durable = c.in-Some.durable in
    let oldest = taken_out origin course (store_state g.D.Disk.state life.store) life.core.decisions life.commits c.take_oldest.new.self durable f.0 c.in-Some.ensures in
    lets c.of_runs.ensures origin course durable oldest.rest oldest.first oldest.fit c.args.released.now.items c.add.new.released.items
    (ap effects_of_all c.add.ensures.items
    ∙ (map-append effect_of c.args.released.now.items c.release-effects.result.items
    ∙ ap (λ l. effects_of_all c.args.released.now.items ++ l) c.release-effects.ensures.effects))
    left

pub returns-in-None-clause-course : goal.returns-in-None-clause-course
returns-in-None-clause-course g c origin course f =
    let life = c.args.self.now in
    let kept = c.in-None.ensures in (
      holds_back origin course (store_state g.D.Disk.state life.store) life.commits f.0.under_way kept.none_ahead kept.unfinished,
      subst (λ k. FollowsLife g.D.Disk.state origin course (record life { commits = k })) (sym kept.same) f,
    )
