use Rattle.std.proofs.Common.{◌≡◌, ◌∙◌, ◌++◌, ◌∷◌, [], ap, arith, cond, is_ok, length, map, subst, sym, append_assoc}
use Rattle.std.proofs.lemmas.List.{length_push, map-append}
use Rattle.world.specs.declared.answer.EventTurn.{EventTurn}
use Rattle.world.specs.Answers.{event_of}
use Rattle.world.specs.Follows.{MovesThrough}
use Rattle.world.proofs.Piecing.{moves_on}
use Rattle.world.proofs.life.Life.go_through.Goals as goal

pub loop-event-preserved : goal.loop-event-preserved
loop-event-preserved g c =
    let state = g.D.Disk.state in
    let old = c.args.self.now in
    let new = c.event-closings.new.self in
    let before = c.loop-event.invariant in
    let told = c.loop-event.turns.items in
    let left = c.next.new.self.rest.items in
    let turn : EventTurn = record { event = c.in-Some.event; turn = c.event-closings.result.0; closings = c.event-closings.result.1 } in
    let added : c.push-pushed.new.self.items ≡ told ++ turn ∷ [] =
    c.push-pushed.ensures.items ∙ ap (λ r. cond (is_ok r) (told ++ turn ∷ []) told) c.unwrap.ensures in
    let done = c.event-closings.ensures in
    let next : c.loop-event.event-iterator.rest.items ≡ c.in-Some.event ∷ left = c.in-Some.ensures.steps.0 in
    let longer = ap length added ∙ length_push told turn in
    let fewer = ap length next in
    let grown = c.push-pushed.ensures.capacity in (
      done.sound,
      (
        done.commit ∙ before.1.0,
        (
          done.store ∙ before.1.1.0,
          (
            subst (λ l. MovesThrough state old c.args.moment l new) (sym added)
                (moves_on state old c.loop-event.self new c.args.moment told turn before.1.1.1.0 done.course),
            (
              ap (λ l. map event_of l ++ left) added
                  ∙ (ap (λ l. l ++ left) (map-append event_of told (turn ∷ []))
                  ∙ (append_assoc (map event_of told) (c.in-Some.event ∷ []) left ∙ (ap (λ l. map event_of told ++ l) (sym next) ∙ before.1.1.1.1.0))),
              omega (arith, longer, fewer, before.1.1.1.1.1, grown),
            ),
          ),
        ),
      ),
    )
