use Rattle.std.proofs.Common.{◌∙◌, ◌++◌, inl, inr, ap, refl, subst, sym}
use Rattle.store.specs.State.{store_state, disk_of}
use Rattle.store.specs.UnderWay.{flights_in}
use Rattle.world.specs.declared.answer.Answer.TheVariants as answers
use Rattle.world.specs.declared.commit.LastCommit.TheVariants as commits
use Rattle.world.specs.Course.{after_failed_call, after_call}
use Rattle.world.specs.Commits.{IsBehind, MayGoOn, flights_ahead, flights_begun, flights_last}
use Rattle.world.specs.Follows.{FollowsLife, IsLife}
use Rattle.world.specs.Sound.{HasRoom, HasRoomForEach}
use Rattle.world.proofs.Calling.{call_answers, call_fails, call_succeeds, failed_behind, fewer_then, is_alone, is_on, room_fewer, sound_after}
use Rattle.world.proofs.Known.{call_passed, call_fell}
use Rattle.world.proofs.Listening.{listens-on}
use Rattle.world.proofs.Taking.{same_commits}
use Rattle.world.proofs.Waiting.{is_still, stays_still}
use Rattle.world.proofs.life.Life.call.Goals as goal

pub go_on-requires : goal.go_on-requires
go_on-requires g c =
    let life = c.args.self.now in
    let same = sym c.in-UnderWay.ensures.value in
    let e = c.in-Ok.ensures.next in
    is_alone life.commits.ahead c.in-UnderWay.under_way (store_state g.D.Disk.state life.store) (store_state g.D.Disk.state c.call.new.store)
    (subst (IsBehind life.commits.ahead) same c.requires.1) c.in-Ok.called e.flights e.calls

pub returns-in-Ok : goal.returns-in-Ok
returns-in-Ok g c =
    let state = g.D.Disk.state in
    let failures = g.D.Disk.failures in
    let outlook = g.D.Disk.outlook in
    let laws = c.of_runs.ensures in
    let life = c.args.self.now in
    let ahead = life.commits.ahead in
    let s = store_state state life.store in
    let s' = store_state state c.call.new.store in
    let u = c.in-UnderWay.under_way in
    let same = sym c.in-UnderWay.ensures.value in
    let e = c.in-Ok.ensures.next in
    let new = c.go_on.new.self in
    let behind = subst (IsBehind ahead) same c.requires.1 in
    let sound = sound_after ahead u s s' behind c.in-Ok.called new c.go_on.ensures e.flights e.calls e.way in
    record {
      sound = sound.0;
      room = λ there fit room.
          room_fewer (flights_ahead ahead ++ flights_in u) (flights_begun new) there fit sound.1
          (subst (λ m. HasRoomForEach (flights_ahead ahead ++ flights_last m) there fit) same room);
      course = λ origin course f.
          let f1 = subst (λ m. IsLife origin course s life.core.decisions (record { ahead = ahead; last = m })) same f.0 in
          let on = is_on laws origin course s s' life.core.decisions ahead u f1 in
          let honest = g.met.D.Sim.is_honest in (
            call_answers laws origin course s s' life.core.decisions ahead u f1 behind answers.Called (inl refl),
            (
              call_succeeds laws origin course s s' life.core.decisions ahead u f1 c.in-Ok.called new c.go_on.ensures
                  (is_alone ahead u s s' behind c.in-Ok.called e.flights e.calls) e.flights e.calls (e.on_disk honest on) e.durable (e.images honest on) c.in-Ok.ensures.call.failed,
              listens-on course (after_call course) life.core life.core life.links life.links refl refl refl refl refl refl refl f.1,
            ),
          );
      calls = λ calls are.
          call_passed calls (failures (disk_of life.store)) (failures (disk_of c.call.new.store)) (outlook (disk_of life.store)) (outlook (disk_of c.call.new.store)) are
          c.in-Ok.ensures.call.cause c.in-Ok.ensures.call.foreseen;
    }

pub returns-in-Err : goal.returns-in-Err
returns-in-Err g c =
    let state = g.D.Disk.state in
    let failures = g.D.Disk.failures in
    let outlook = g.D.Disk.outlook in
    let laws = c.of_runs.ensures in
    let life = c.args.self.now in
    let ahead = life.commits.ahead in
    let s = store_state state life.store in
    let s' = store_state state c.call.new.store in
    let u = c.in-UnderWay.under_way in
    let same = sym c.in-UnderWay.ensures.value in
    let stopped = sym c.replace.ensures.after in
    let e = c.in-Err.ensures.next in
    let one = c.in-Err.ensures.call in
    let behind = subst (IsBehind ahead) same c.requires.1 in
    record {
      sound = subst (λ m. MayGoOn s' m × IsBehind ahead m) stopped (tt, failed_behind ahead);
      room = λ there fit room.
          subst (λ m. HasRoom (record { ahead = ahead; last = m }) there fit) stopped
          (room_fewer (flights_ahead ahead ++ flights_in u) (flights_begun (record { ahead = ahead; last = commits.Failed })) there fit (fewer_then ahead u s s' behind)
          (subst (λ m. HasRoomForEach (flights_ahead ahead ++ flights_last m) there fit) same room));
      course = λ origin course f.
          let f1 = subst (λ m. IsLife origin course s life.core.decisions (record { ahead = ahead; last = m })) same f.0 in
          let on = is_on laws origin course s s' life.core.decisions ahead u f1 in
          let honest = g.met.D.Sim.is_honest in (
            call_answers laws origin course s s' life.core.decisions ahead u f1 behind (answers.Refused c.in-Err.refusal) (inr (ap answers.Refused one.failed.0)),
            (
              subst (λ m. IsLife origin (after_failed_call course) s' life.core.decisions (record { ahead = ahead; last = m })) stopped
                  (call_fails laws origin course s s' life.core.decisions ahead u f1 behind e.durable (e.images honest on)),
              listens-on course (after_failed_call course) life.core life.core life.links life.links refl refl refl refl refl refl refl f.1,
            ),
          );
      calls = λ calls are.
          let found =
          call_fell calls (failures (disk_of life.store)) (failures (disk_of c.call.new.store)) (outlook (disk_of life.store)) (outlook (disk_of c.call.new.store))
          are one.cause (g.met.D.Sim.is_foreseen (disk_of life.store)) one.foreseen in
          ((one.failed.0, found.0), found.1);
    }

pub returns-in_default : goal.returns-in_default
returns-in_default g c =
    let state = g.D.Disk.state in
    let life = c.args.self.now in
    let s = store_state state life.store in
    let new = c.set.new.self in
    let same = same_commits new life.commits c.set.ensures.ahead (c.set.ensures.last ∙ c.replace.ensures.value) in
    record {
      sound = subst (λ k. MayGoOn s k.last × IsBehind k.ahead k.last) (sym same) c.requires;
      room = λ there fit room. subst (λ k. HasRoom k there fit) (sym same) room;
      course = λ origin course f. (
        stays_still origin course.settled course.flights course.checkpoint s life.commits f.0.under_way
            (is_still life.commits.last (λ u is. c.in_default.not-UnderWay u (c.replace.ensures.value ∙ is))),
        subst (λ k. FollowsLife state origin course (record life { commits = k })) (sym same) f,
      );
      calls = λ calls are. (tt, are);
    }
