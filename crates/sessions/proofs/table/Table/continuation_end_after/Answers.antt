use Rattle.std.proofs.Common.{◌≡◌, ◌∙◌, ◌+◌, ap, take, ◌≤◌, length, sym, subst, arith}
use Rattle.std.proofs.lemmas.Bool.{false≢true}
use Rattle.std.proofs.lemmas.List.{take_all}
use Rattle.sessions.specs.Decision.{Continues, ContinueAll, with_decisions}
use Rattle.sessions.proofs.Runs.{ContinueAll-next, ContinueAll-more}
use Rattle.sessions.proofs.table.Table.continuation_end_after.Goals as goal

pub loop-at-init : goal.loop-at-init
loop-at-init c = record { so_far = record { fit = tt; numbered = tt }; number = omega arith }

pub admits_after-requires-clause-own : goal.admits_after-requires-clause-own
admits_after-requires-clause-own c = c.loop-at.invariant.so_far.fit

pub returns-then-not-admits_after : goal.returns-then-not-admits_after
returns-then-not-admits_after c all =
    let t = with_decisions c.args.self.now c.args.earlier.now in
    let ds = c.args.decisions.now in
    let n = c.loop-at.at in
    let d = c.index-decisions-at.result in
    let next = ContinueAll-next t c.args.seq n d ds c.loop-at-test.true c.index-decisions-at.is all in
    let last : Continues (with_decisions t (take n ds)) c.loop-at.last d =
    subst (λ k. Continues (with_decisions t (take n ds)) k d) (sym c.loop-at.invariant.number) next in
    false≢true (sym c.if-not-admits_after.true ∙ c.admits_after.ensures.1 last)

pub loop-at-preserved : goal.loop-at-preserved
loop-at-preserved c =
    let t = with_decisions c.args.self.now c.args.earlier.now in
    let ds = c.args.decisions.now in
    let n = c.loop-at.at in
    let d = c.index-decisions-at.result in
    let held : Continues (with_decisions t (take n ds)) c.loop-at.last d = c.admits_after.ensures.0 c.if-not-admits_after.false in
    let next : Continues (with_decisions t (take n ds)) (c.args.seq + n) d =
    subst (λ k. Continues (with_decisions t (take n ds)) k d) c.loop-at.invariant.number held in
    record {
      so_far = ContinueAll-more t c.args.seq n d ds c.loop-at-test.true c.index-decisions-at.is c.loop-at.invariant.so_far next;
      number = next.number ∙ (omega arith);
    }

pub returns : goal.returns
returns c =
    let past : length c.args.decisions.now ≤ c.loop-at.at = c.loop-at-test.false in (
      subst (ContinueAll (with_decisions c.args.self.now c.args.earlier.now) c.args.seq) (take_all c.loop-at.at c.args.decisions.now past) c.loop-at.invariant.so_far,
      c.loop-at.invariant.number ∙ ap (λ k. c.args.seq + k) (let n : c.loop-at.at ≡ length c.args.decisions.now = omega (arith, past, c.loop-at.auto.at-end) in n),
    )
