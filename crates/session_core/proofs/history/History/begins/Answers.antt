use Rattle.std.proofs.Common.{◌≤◌, ap, subst, arith, length, List}
use Rattle.std.proofs.lemmas.Bool.{le-leb, leb-false, leb-true}
use mathlib.Core.List.{IsPrefix}
use Rattle.sessions.specs.declared.decision.Decision.{Decision}
use Rattle.session_core.proofs.Beginnings.{prefix_length, prefix_shorter}
use Rattle.session_core.proofs.history.History.begins.Goals as goal

pub returns-clause-exact : goal.returns-clause-exact
returns-clause-exact g c =
    let both = c.learn.new.self.log in
    let this : IsPrefix c.self.inside.seen.log both = subst (λ (l : List Decision). IsPrefix l both) (ap (λ s. s.log) c.again-both.ensures) c.learn.ensures.2 in (
      λ is.
          let short = leb-true c.self.inside.count c.other.inside.count is in
          let less : length c.self.inside.seen.log ≤ length c.other.inside.seen.log = omega (arith, c.self.invariant.0, c.other.invariant.0, short) in
          rw (← c.self.view_is, ← c.other.view_is) (prefix_shorter c.self.inside.seen.log c.other.inside.seen.log both this c.learn.ensures.3 less),
      λ begins.
          let less = prefix_length c.args.self.now c.args.other.now begins in
          let one = ap length c.self.view_is in
          let other = ap length c.other.view_is in
          le-leb c.self.inside.count c.other.inside.count (omega (arith, c.self.invariant.0, c.other.invariant.0, one, other, less)),
    )

pub returns-clause-otherwise : goal.returns-clause-otherwise
returns-clause-otherwise g c is =
    let both = c.learn.new.self.log in
    let this : IsPrefix c.self.inside.seen.log both = subst (λ (l : List Decision). IsPrefix l both) (ap (λ s. s.log) c.again-both.ensures) c.learn.ensures.2 in
    let long = leb-false c.self.inside.count c.other.inside.count is in
    let less : length c.other.inside.seen.log ≤ length c.self.inside.seen.log = omega (arith, c.self.invariant.0, c.other.invariant.0, long) in
    rw (← c.self.view_is, ← c.other.view_is) (prefix_shorter c.other.inside.seen.log c.self.inside.seen.log both c.learn.ensures.3 this less)
