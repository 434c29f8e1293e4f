use Rattle.std.proofs.Common.{◌≡◌, ◌+◌, ap, arith, length, refl, subst}
use mathlib.Core.List.{IsPrefix}
use Rattle.session_core.specs.Taking.{TakerState}
use Rattle.session_core.proofs.Taking.{takes-next}
use Rattle.session_core.proofs.shared.Shared.take.Goals as goal

pub returns-clause-taken : goal.returns-clause-taken
returns-clause-taken g c =
    let s = c.args.self.now.core.decisions in
    let old = c.args.taker.now in
    let new : TakerState = record { taken = c.taker-2.inside.count; seen = c.in_ok-history.history } in
    let taken_is = c.args.self.now.taken_is in
    let whole = c.audit.ensures.whole c.taker.invariant.0 in
    let amount = c.taker.invariant.1 in
    let view = ap (λ (t : TakerState). t.taken) c.taker.view_is in
    let same : s.taken ≡ old.taken = omega (arith, taken_is, whole, amount, view) in
    let note = ap (λ (t : TakerState). t.taken) c.note.ensures.share in
    let after = ap (λ (t : TakerState). t.taken) c.taker-2.view_is in
    let len = c.len.ensures.len in
    let counted : new.taken ≡ old.taken + length c.in_ok-batch.batch = omega (arith, note, after, len, view) in
    let before = subst (λ l. IsPrefix l c.in_ok-history.history) (ap (λ (t : TakerState). t.seen) c.taker.view_is) c.in_ok-history.ensures.1.1 in
    takes-next s c.in_ok-history.history c.args.max c.in_ok-batch.batch old new c.made.ensures.lawful.decisions c.in_ok-history.ensures.1.0
    same c.in_ok-batch.ensures.taken.0 before counted refl
