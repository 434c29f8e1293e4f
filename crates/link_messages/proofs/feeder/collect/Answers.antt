use Rattle.std.proofs.Common.{refl, sym, inl, inr, [], ◌∷◌, ◌++◌, ◌∙◌, ap, append_assoc, List, Ok, subst}
use Rattle.std.proofs.lemmas.List.{append-nil}
use Rattle.link_messages.specs.declared.message.Message.{Message}
use Rattle.link_messages.specs.declared.feeder.Next.{Next}
use Rattle.link_messages.specs.Stream.{Fault, Rest}
use Rattle.link_messages.specs.Steps.{IsNext}
use Rattle.link_messages.proofs.Hearing.{frame_shorter, so_far_end, so_far_start, so_far_step}
use Rattle.link_messages.proofs.Wanting.{begins-frame, begins-left}
use Rattle.link_messages.proofs.feeder.collect.Goals as goal

pub loop-fault-init : goal.loop-fault-init
loop-fault-init c = ([], sym (append-nil c.args.messages.now.items), so_far_start c.args.peer.now c.args.stream.now, inl (refl, refl))

pub returns-in-Nothing-clause-heard : goal.returns-in-Nothing-clause-heard
returns-in-Nothing-clause-heard c =
    let h = c.loop-fault.invariant in
    let end = subst (λ (n : Next). IsNext c.loop-fault.peer c.loop-fault.left.now (Ok n)) c.in-Nothing.is c.in_ok-next_message.ensures in
    (h.0, h.1, h.2.who, so_far_end c.args.peer.now c.args.stream.now h.0 c.loop-fault.peer c.loop-fault.left.now (Rest c.loop-fault.left.now) h.2 (refl, end))

pub returns-in-Fault-clause-heard : goal.returns-in-Fault-clause-heard
returns-in-Fault-clause-heard c =
    let h = c.loop-fault.invariant in
    let end = subst (λ (n : Next). IsNext c.loop-fault.peer c.loop-fault.left.now (Ok n)) c.in-Fault.is c.in_ok-next_message.ensures in
    (h.0, h.1, h.2.who, so_far_end c.args.peer.now c.args.stream.now h.0 c.loop-fault.peer c.loop-fault.left.now (Fault c.in-Fault.fault) h.2 end)

pub loop-fault-smaller : goal.loop-fault-smaller
loop-fault-smaller c =
    let next = subst (λ (n : Next). IsNext c.loop-fault.peer c.loop-fault.left.now (Ok n)) c.in-Message.is c.in_ok-next_message.ensures in
    frame_shorter c.loop-fault.left.now next.0 c.in-Message.behind.now next.1

pub loop-fault-preserved : goal.loop-fault-preserved
loop-fault-preserved c =
    let h = c.loop-fault.invariant in
    let m = c.in-Message.message in
    let next = subst (λ (n : Next). IsNext c.loop-fault.peer c.loop-fault.left.now (Ok n)) c.in-Message.is c.in_ok-next_message.ensures in
    let step = so_far_step c.args.peer.now c.args.stream.now h.0 c.loop-fault.peer c.loop-fault.left.now next.0 c.in-Message.behind.now m h.2 next.1 next.2 in (
      h.0 ++ m ∷ [],
      c.in_ok-push-in-Message.ensures.items ∙ (ap (λ (qs : List Message). qs ++ m ∷ []) h.1 ∙ append_assoc c.args.messages.now.items h.0 (m ∷ [])),
      rw c.greet.ensures step,
      inr (begins-left c.args.peer.now c.loop-fault.peer c.args.stream.now c.loop-fault.left.now h.3 (begins-frame c.loop-fault.peer c.loop-fault.left.now next.0 c.in-Message.behind.now m next.1 next.2)),
    )
