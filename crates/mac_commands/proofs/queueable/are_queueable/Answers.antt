use Rattle.std.proofs.Common.{ℕ, ◌==◌, ◌↔◌, IsTrue, false, List, length, ◌∙◌, ap, sym, subst}
use Rattle.std.proofs.lemmas.Bool.{eqb-true, false≢true}
use Rattle.std.proofs.lemmas.List.{nil_from_length}
use Rattle.mac_commands.specs.Front.{front_command}
use Rattle.mac_commands.specs.Queueable.{AreQueueable}
use Rattle.mac_commands.proofs.Queues.{HasQueued, queued_more, not_queued, all_queued, ends_queue, tested}
use Rattle.mac_commands.proofs.queueable.are_queueable.Goals as goal

pub returns-then-not-may_be_queued : goal.returns-then-not-may_be_queued
returns-then-not-may_be_queued c =
    let bytes = c.args.bytes.now in
    let found = c.in-Some.ensures.found in
    let queue : IsTrue false ↔ AreQueueable bytes =
    (λ h. absurd (false≢true h), λ q. absurd (not_queued _ _ _ (front_command c.in-Some.front) c.loop-front.invariant found.whole found.spelled (λ may. false≢true (sym c.if-not-may_be_queued.true ∙ c.may_be_queued.ensures ∙ may)) q)) in
    record { queue = queue; value = tested bytes false queue }

pub loop-front-preserved : goal.loop-front-preserved
loop-front-preserved c =
    let found = c.in-Some.ensures.found in
    queued_more _ _ _ (front_command c.in-Some.front) c.loop-front.invariant found.whole found.spelled (sym c.may_be_queued.ensures ∙ c.if-not-may_be_queued.false)

pub returns : goal.returns
returns c =
    let bytes = c.args.bytes.now in
    let rest = c.loop-front.rest.now in
    let queue : IsTrue c.is_empty.result ↔ AreQueueable bytes = (
      λ yes. all_queued bytes (subst (HasQueued bytes) (nil_from_length rest (eqb-true (length rest) 0 (sym c.is_empty.ensures ∙ yes))) c.loop-front.invariant),
      λ q. c.is_empty.ensures ∙ ap (λ (left : List ℕ). length left == 0) (ends_queue bytes rest c.loop-front.invariant c.in_default.ensures.none q),
    ) in
    record { queue = queue; value = tested bytes c.is_empty.result queue }
