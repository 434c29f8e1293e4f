use Rattle.std.proofs.Common.{◌≡◌, ◌++◌, ◌∷◌, [], Option, refl, subst, sym}
use Rattle.link_messages.specs.Feeding.{FeedState}
use Rattle.lnsd_links.specs.declared.allowance.Allowance.{Allowance}
use Rattle.lnsd_threads.specs.Hearing.{ArePaidFor, IsOneHeard, copies_in}
use Rattle.lnsd_threads.proofs.Heard.{one_more, split_on}
use Rattle.lnsd_threads.proofs.reading.Worker.handle_all.Goals as goal

-- the link is read no further after a message
pub returns-then-not-handle_message-clause-heard : goal.returns-then-not-handle_message-clause-heard
returns-then-not-handle_message-clause-heard g c =
    let ((heard, (split, are)), (same, paid)) = c.loop-message.invariant in
    let before = c.args.self.now in
    let now = c.loop-message.self in
    let after = c.handle_message.new.self in
    let feeder : now.feeder ≡ before.feeder = rw same refl in
    let one = subst (λ (f : FeedState). IsOneHeard f.peer c.in-Some.message now.seat now.refusals after.seat after.refusals) feeder c.handle_message.ensures.heard in (
      heard ++ c.in-Some.message ∷ [],
      (
        c.next.new.self.rest.items,
        (
          split_on c.args.fed.messages.items heard c.loop-message.message-iterator.rest.items c.next.new.self.rest.items c.in-Some.message split c.in-Some.ensures.steps.0,
          (one_more before.feeder.peer heard c.in-Some.message before.seat before.refusals now.seat now.refusals after.seat after.refusals are one, λ no. cc),
        ),
      ),
    )

-- one more message was handled
pub loop-message-preserved : goal.loop-message-preserved
loop-message-preserved g c =
    let ((heard, (split, are)), (same, paid)) = c.loop-message.invariant in
    let before = c.args.self.now in
    let now = c.loop-message.self in
    let after = c.handle_message.new.self in
    let kept : after.allowance ≡ now.allowance = rw c.handle_message.ensures.same refl in
    let kept_paid = subst (λ (a : Option Allowance). ArePaidFor (copies_in c.args.fed.messages.items) before.allowance a) (sym kept) paid in
    let feeder : now.feeder ≡ before.feeder = rw same refl in
    let one = subst (λ (f : FeedState). IsOneHeard f.peer c.in-Some.message now.seat now.refusals after.seat after.refusals) feeder c.handle_message.ensures.heard in (
      (
        heard ++ c.in-Some.message ∷ [],
        (
          split_on c.args.fed.messages.items heard c.loop-message.message-iterator.rest.items c.next.new.self.rest.items c.in-Some.message split c.in-Some.ensures.steps.0,
          one_more before.feeder.peer heard c.in-Some.message before.seat before.refusals now.seat now.refusals after.seat after.refusals are one,
        ),
      ),
      (rw c.handle_message.ensures.same (rw same refl), kept_paid),
    )
