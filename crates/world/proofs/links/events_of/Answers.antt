use Rattle.std.proofs.Common.{rules, length, ◌≡◌, ◌∙◌, ◌++◌, ◌∷◌, [], List, ap, refl, subst, sym, append_assoc}
use Rattle.std.proofs.lemmas.List.{append-nil, nil_from_length}
use Rattle.link_messages.specs.declared.message.Message.{Message}
use Rattle.world.specs.Links.{before_others, AreHandedIn}
use Rattle.world.proofs.Saying.{before_append, hands_nothing, nothing_in_each, of_error}
use Rattle.world.proofs.links.events_of.Goals as goal

pub loop-message-preserved : goal.loop-message-preserved
loop-message-preserved c =
    let speaker = c.loop-message.speaker in
    let event = c.in_ok-event.event in
    let next = c.in-Some.ensures.steps.0 in
    let left = c.next.new.self.rest.items in
    let told = c.in_ok-event.ensures in
    let so_far = c.loop-message.events.items in (
      λ others rest.
          let first : AreHandedIn speaker (c.in-Some.message ∷ left) (before_others event others) =
          (event, others, told.event, subst (λ peer. AreHandedIn peer left others) told.speaker rest, refl) in
          subst (AreHandedIn c.args.peer c.args.messages.items)
          (sym (ap (λ l. l ++ others) c.in_ok-add.ensures.added ∙ (append_assoc so_far (before_others event []) others ∙ ap (λ l. so_far ++ l) (before_append event others))))
          (c.loop-message.invariant.0 (before_others event others) (subst (λ l. AreHandedIn speaker l (before_others event others)) (sym next) first)),
      λ nothing.
          subst (λ peer. AreHandedIn peer left []) (sym told.speaker)
          (nothing_in_each speaker c.in-Some.message left (subst (λ l. AreHandedIn speaker l []) next (c.loop-message.invariant.1 nothing))).1,
    )

pub returns-clause-events : goal.returns-clause-events
returns-clause-events c =
    let left = c.loop-message.message-iterator.rest.items in
    let few : length left ≡ 0 = search rules in
    let none : left ≡ [] = nil_from_length left few in
    subst (AreHandedIn c.args.peer c.args.messages.items) (append-nil c.loop-message.events.items)
    (c.loop-message.invariant.0 [] (subst (λ (l : List Message). AreHandedIn c.loop-message.speaker l []) (sym none) refl))

pub returns-in_err-event-clause-wanted : goal.returns-in_err-event-clause-wanted
returns-in_err-event-clause-wanted c =
    let speaker = c.loop-message.speaker in
    let left = c.next.new.self.rest.items in
    of_error c.from_residual.result (¬ AreHandedIn c.args.peer c.args.messages.items [])
    (λ nothing. c.in_err-event.ensures.wanted (nothing_in_each speaker c.in-Some.message left
    (subst (λ l. AreHandedIn speaker l []) c.in-Some.ensures.steps.0 (c.loop-message.invariant.1 nothing))).0)

pub returns-in_err-add-clause-wanted : goal.returns-in_err-add-clause-wanted
returns-in_err-add-clause-wanted c =
    let speaker = c.loop-message.speaker in
    let left = c.next.new.self.rest.items in
    let message = c.in-Some.message in
    of_error c.from_residual-in_err-add.result (¬ AreHandedIn c.args.peer c.args.messages.items [])
    (λ nothing. c.in_err-add.ensures.wanted (hands_nothing speaker message c.in_ok-event.event
    (nothing_in_each speaker message left
    (subst (λ l. AreHandedIn speaker l []) c.in-Some.ensures.steps.0 (c.loop-message.invariant.1 nothing))).0
    c.in_ok-event.ensures.event))
