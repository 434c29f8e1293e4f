use Rattle.std.proofs.Common.{rules, ◌≡◌, ◌∙◌, ◌++◌, ◌∷◌, [], ap, length, map, subst, sym, append_assoc}
use Rattle.std.proofs.lemmas.List.{append-nil, map-append, nil_from_length}
use Rattle.world.specs.declared.answer.EventTurn.{EventTurn}
use Rattle.world.specs.Answers.{event_of}
use Rattle.world_model.proofs.Piecing.{Leads, goes_on, gone_through}
use Rattle.world_model.proofs.model.Plain.turns_of.Goals as goal

pub loop-event-preserved : goal.loop-event-preserved
loop-event-preserved c =
    let old = c.args.self.now in
    let new = c.event.new.self in
    let before = c.loop-event.invariant in
    let told = c.loop-event.turns.items in
    let left = c.next.new.self.rest.items in
    let turn : EventTurn = record { event = c.in-Some.event; turn = c.in_ok-turn.turn; closings = c.in_ok-turn.closings } in
    let added : c.push.new.self.items ≡ told ++ turn ∷ [] = c.in_ok-push.ensures.items in
    let next : c.loop-event.event-iterator.rest.items ≡ c.in-Some.event ∷ left = c.in-Some.ensures.steps.0 in
    let moved =
    goes_on old c.loop-event.self new c.args.moment told c.in-Some.event c.in_ok-turn.turn c.in_ok-turn.closings before.0 before.1.0
    c.in_ok-turn.ensures in (
      moved.0,
      (
        subst (λ l. Leads old c.args.moment l new.course) (sym added) moved.1,
        ap (λ l. map event_of l ++ left) added
            ∙ (ap (λ l. l ++ left) (map-append event_of told (turn ∷ []))
            ∙ (append_assoc (map event_of told) (c.in-Some.event ∷ []) left ∙ (ap (λ l. map event_of told ++ l) (sym next) ∙ before.1.1))),
      ),
    )

pub returns : goal.returns
returns c =
    let before = c.loop-event.invariant in
    let told = c.loop-event.turns.items in
    let left = c.loop-event.event-iterator.rest.items in
    let few : length left ≡ 0 = search rules in
    let none : left ≡ [] = nil_from_length left few in
    let all : map event_of told ≡ c.args.events.items =
    sym (append-nil (map event_of told)) ∙ (ap (λ l. map event_of told ++ l) (sym none) ∙ before.1.1) in
    gone_through c.args.self.now c.loop-event.self c.args.moment c.args.events.items told before.0 before.1.0 all
