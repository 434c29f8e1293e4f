use Rattle.std.proofs.Common.{◌≡◌, sym, ap, [], ◌++◌, ◌∙◌, take, List, ℕ, Ok, Option, IfErr, rules, subst}
use Rattle.lw_types.specs.declared.refusal.Refusal.{Refusal}
use Rattle.link_messages.specs.declared.feeder.Next.{Next}
use Rattle.link_messages.specs.Feeding.{end_of}
use Rattle.link_messages.specs.Stream.{IsPart, WantsMemory}
use Rattle.link_messages.specs.Steps.{IsNext, Finishes, HasGathered}
use Rattle.link_messages.proofs.Wanting.{begins-frame, if-err, takes-front}
use Rattle.link_messages.proofs.Hearing.{heard_behind, heard_fault, if_ok}
use Rattle.link_messages.proofs.feeder.collect_piece.Goals as goal
use Rattle.link_messages.proofs.feeder.collect_piece.Goals.{After-clear, After-collect_and_keep-in-Message}

pub returns-in-Fault-clause-heard : goal.returns-in-Fault-clause-heard
returns-in-Fault-clause-heard c =
    let next = subst (λ (n : Next). IsNext c.args.peer.now c.joined-frame.result.now (Ok n)) c.in-Fault.is c.in_ok-next_message.ensures in (
      rw c.clear.ensures.items tt,
      heard_fault c.args.peer.now c.args.kept.now.items c.args.piece.now c.split_at.result.0.now c.split_at.result.1.now c.joined-frame.result.now c.args.messages.now.items c.in-Fault.fault
          (c.joined-frame.ensures ∙ ap (λ (k : List ℕ). k ++ c.split_at.result.0.now) c.as_slice-2.ensures.value) c.split_at.ensures.by_index.0 next,
    )

pub returns-in_ok-push-in-Message-clause-heard : goal.returns-in_ok-push-in-Message-clause-heard
returns-in_ok-push-in-Message-clause-heard c =
    let m = c.in-Message.message in
    let piece = c.args.piece.now in
    let kept = c.args.kept.now.items in
    let front = c.split_at.result.0.now in
    let behind = c.split_at.result.1.now in
    let more = c.joined-frame.result.now in
    let new = c.collect_and_keep-in-Message.new in
    let next = subst (λ (n : Next). IsNext c.args.peer.now more (Ok n)) c.in-Message.is c.in_ok-next_message.ensures in
    let joined : more ≡ kept ++ front = c.joined-frame.ensures ∙ ap (λ (k : List ℕ). k ++ front) c.as_slice-2.ensures.value in
    let same : c.as_slice.result.now ++ take c.finishing.result piece ≡ more =
    ap (λ (k : List ℕ). k ++ take c.finishing.result piece) c.as_slice.ensures.value ∙ (ap (λ (f : List ℕ). kept ++ f) (sym c.split_at.ensures.front) ∙ sym joined) in
    let finished : Finishes more behind =
    subst (λ (k : List ℕ). Finishes k behind) same (subst (λ (b : List ℕ). Finishes (c.as_slice.result.now ++ take c.finishing.result piece) b) (sym c.split_at.ensures.back) c.finishing.ensures.finished) in
    if_ok (λ (fault : Option Refusal). IsPart new.kept.items × HasGathered c.greet.new.peer behind c.push.new.self.items new.messages.items new.peer (end_of fault new.kept.items)) _ c.collect_and_keep-in-Message.result
    (λ fault h. (
      h.0,
      heard_behind c.args.peer.now kept piece front behind more next.0 c.in-Message.field-1.now m c.args.messages.now.items c.push.new.self.items new.messages.items c.greet.new.peer new.peer (end_of fault new.kept.items)
          joined c.split_at.ensures.by_index.0 finished next.1 next.2 c.greet.ensures c.in_ok-push-in-Message.ensures.items h.1,
    ))
    c.collect_and_keep-in-Message.ensures.heard

pub returns-then-is_empty-clause-wanted : goal.returns-then-is_empty-clause-wanted
returns-then-is_empty-clause-wanted c =
    let none : c.args.kept.now.items ≡ [] = search rules in
    subst (λ (k : List ℕ). IfErr c.collect_and_keep.result (λ _. WantsMemory c.args.peer.now (k ++ c.args.piece.now))) (sym none) c.collect_and_keep.ensures.wanted

pub returns-in_err-next_message-clause-wanted : goal.returns-in_err-next_message-clause-wanted
returns-in_err-next_message-clause-wanted c =
    if-err c.from_residual.result
    (takes-front c.args.peer.now c.args.kept.now.items c.args.piece.now c.split_at.result.0.now c.split_at.result.1.now c.joined-frame.result.now
    (c.joined-frame.ensures ∙ ap (λ (k : List ℕ). k ++ c.split_at.result.0.now) c.as_slice-2.ensures.value) c.split_at.ensures.by_index.0 c.in_err-next_message.ensures.1)

pub returns-in_err-push-in-Message-clause-wanted : goal.returns-in_err-push-in-Message-clause-wanted
returns-in_err-push-in-Message-clause-wanted c =
    let frame = c.joined-frame.result.now in
    let next = subst (λ (n : Next). IsNext c.args.peer.now frame (Ok n)) c.in-Message.is c.in_ok-next_message.ensures in
    if-err c.from_residual-in_err-push-in-Message.result
    (takes-front c.args.peer.now c.args.kept.now.items c.args.piece.now c.split_at.result.0.now c.split_at.result.1.now frame
    (c.joined-frame.ensures ∙ ap (λ (k : List ℕ). k ++ c.split_at.result.0.now) c.as_slice-2.ensures.value) c.split_at.ensures.by_index.0
    (begins-frame c.args.peer.now frame next.0 c.in-Message.field-1.now c.in-Message.message next.1 next.2))

pub returns-in_ok-push-in-Message-clause-wanted : goal.returns-in_ok-push-in-Message-clause-wanted
returns-in_ok-push-in-Message-clause-wanted c =
    let frame = c.joined-frame.result.now in
    let next = subst (λ (n : Next). IsNext c.args.peer.now frame (Ok n)) c.in-Message.is c.in_ok-next_message.ensures in
    if-err c.collect_and_keep-in-Message.result
    (takes-front c.args.peer.now c.args.kept.now.items c.args.piece.now c.split_at.result.0.now c.split_at.result.1.now frame
    (c.joined-frame.ensures ∙ ap (λ (k : List ℕ). k ++ c.split_at.result.0.now) c.as_slice-2.ensures.value) c.split_at.ensures.by_index.0
    (begins-frame c.args.peer.now frame next.0 c.in-Message.field-1.now c.in-Message.message next.1 next.2))
