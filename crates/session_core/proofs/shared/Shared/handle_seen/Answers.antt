use Rattle.std.proofs.Common.{arith, ◌∙◌}
use Rattle.session_core.proofs.Counts.{event-grows}
use Rattle.session_core.proofs.Remembering.{event_whole, then_lacks}
use Rattle.session_core.proofs.shared.Shared.handle_seen.Goals as goal

pub count-requires-clause-order : goal.count-requires-clause-order
count-requires-clause-order g c =
    let h = c.handle_seen-turn.ensures.turn.0 in
    let grows = (event-grows c.args.event _ _ _ _ h).made in
    omega (arith, h.from, h.to, grows)

pub invariant_of-self-clause-taken_is : goal.invariant_of-self-clause-taken_is
invariant_of-self-clause-taken_is g c =
    let h = c.handle_seen-turn.ensures.turn.0 in
    (event-grows c.args.event _ _ _ _ h).taken ∙ c.args.self.now.taken_is

pub extend-self-requires : goal.extend-self-requires
extend-self-requires g c whole =
    let turn = c.handle_seen-turn.ensures.turn.0 in
    let old = c.args.self.now.core in
    let new = c.handle_seen-turn.new.self in
    then_lacks c.args.event old new c.handle_seen-turn.result c.handle_seen-turn.ensures.lawful
    (event_whole c.joining.ensures.continues c.args.event old new c.args.moment c.handle_seen-turn.result turn c.handle_seen-turn.ensures.lawful c.outcomes.ensures.few)
    (event-grows c.args.event _ _ _ _ turn).taken c.args.self.now.history (c.args.self.now.history_is whole)
