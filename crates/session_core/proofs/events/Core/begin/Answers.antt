use Rattle.std.proofs.Common.{◌≡◌, ◌-◌, ◌∙◌, length, ap, sym, subst, arith}
use Rattle.session_core.specs.Core.{CoreState}
use Rattle.session_core.specs.Events.{core_at_moment}
use Rattle.session_core.specs.KeptCore.{core_of}
use Rattle.session_core.specs.Observing.{ClosesSeen}
use Rattle.session_core.proofs.Seen.{closes-unseen, counted-seen}
use Rattle.session_core.proofs.Windows.{closes-length}
use Rattle.session_core.proofs.events.Core.begin.Goals as goal

pub overflow_sub-self : goal.overflow_sub-self
overflow_sub-self c =
    let before = c.len-open.ensures in
    let left = c.len.ensures ∙ ap (λ (s : CoreState). length s.windows) c.self-2.view_is in
    let closed = c.close_due-result.ensures.closed in
    let sum = closes-length closed.0 _ c.close_due-result.new.self (closes-unseen closed.0 _ _ _ _ closed.1) in
    omega (arith, before, left, sum)

pub returns-clause-closed : goal.returns-clause-closed
returns-clause-closed c =
    let before = c.len-open.ensures in
    let left = c.len.ensures ∙ ap (λ (s : CoreState). length s.windows) c.self-2.view_is in
    let seen = c.close_due-result.ensures.closed in
    let n = seen.0 in
    let start : CoreState = record (core_of c.self.inside) { clock = c.later-self-inside.result; closings = 0 } in
    let last = core_of c.self-2.inside in
    let first = c.args.observed.now in
    let then = c.close_due-result.new.observed in
    let sum = closes-length n start c.close_due-result.new.self (closes-unseen n start c.close_due-result.new.self first then seen.1) in
    let count : c.len-open.result - c.len.result ≡ n = omega (arith, before, left, sum) in
    let same : start ≡ core_at_moment c.args.self.now c.args.moment =
    ap (λ k. record (core_of c.self.inside) { clock = k; closings = 0 }) c.later-self-inside.ensures ∙ ap (λ (s : CoreState). core_at_moment s c.args.moment) c.self.view_is in
    let closes : ClosesSeen n (core_at_moment c.args.self.now c.args.moment) last first then =
    subst (λ (s : CoreState). ClosesSeen n s last first then) same (subst (λ (s : CoreState). ClosesSeen n start s first then) (sym c.self-2.view_is) seen.1) in
    counted-seen n (core_at_moment c.args.self.now c.args.moment) last _ first then closes (ap (λ k. record last { closings = k }) count)
