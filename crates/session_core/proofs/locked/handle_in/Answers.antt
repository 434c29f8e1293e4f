use Rattle.std.proofs.Common.{◌≤◌, Option, Some, None, IfSome, length, subst}
use Rattle.session_core.specs.Core.{CoreState, IsLawfulCore}
use Rattle.session_core.specs.declared.outcome.TheConstants.{MOST_OUTCOMES}
use Rattle.session_core.proofs.Counts.{event-grows}
use Rattle.session_core.proofs.Remembering.{event_whole, then_added}
use Rattle.session_core.proofs.Seen.{seen-frames}
use Rattle.session_core.proofs.locked.handle_in.Goals as goal

when_some : {T : Type 0} {P Q : T → Type 0} (r : Option T) → IfSome r P → ((x : T) → P x → Q x) → IfSome r Q
when_some (Some x) h then = then x h
when_some None h then = tt

pub returns-clause-added : goal.returns-clause-added
returns-clause-added g c =
    let turn = c.handle_seen-turn.ensures.turn.0 in
    let old = c.args.shared.now.core in
    let new = c.handle_seen-turn.new.self.core in
    let lawful : IsLawfulCore old = subst IsLawfulCore c.core-core.ensures c.made.ensures.lawful in
    let few : length old.outcomes ≤ MOST_OUTCOMES = subst (λ (s : CoreState). length s.outcomes ≤ MOST_OUTCOMES) c.core-core.ensures c.outcomes.ensures.few in
    when_some c.history.result c.history.ensures.history (λ history is.
    then_added c.args.event old new c.handle_seen-turn.result lawful
    (event_whole c.joining.ensures.continues c.args.event old new c.args.moment c.handle_seen-turn.result turn lawful few)
    (event-grows c.args.event _ _ _ _ turn).taken history is.1)

pub returns-clause-seen : goal.returns-clause-seen
returns-clause-seen g c =
    seen-frames c.args.shared.now.core c.handle_seen-turn.new.self.core c.args.moment c.args.event c.handle_seen-turn.result c.args.shared.now.is_observed
    c.observed-observed.result c.handle_seen-turn.new.observed c.into_frames-closed.result.0.items c.into_frames-closed.result.1
    c.observed-observed.ensures c.into_frames-closed.ensures.frames c.into_frames-closed.ensures.lacks c.handle_seen-turn.ensures.turn
