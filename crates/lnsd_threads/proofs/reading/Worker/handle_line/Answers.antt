use Rattle.std.proofs.Common.{◌≡◌, ◌∙◌, Option, Some, sym, subst}
use Rattle.link_messages.specs.declared.message.Message.TheVariants.{Line}
use Rattle.link_messages.specs.declared.message.Peer.{Peer}
use Rattle.link_messages.specs.declared.message.Peer.TheVariants.{Application}
use Rattle.lnsd_threads.specs.Hearing.{IsAnswered, IsOneHeard}
use Rattle.lnsd_threads.proofs.Heard.{not_asked}
use Rattle.lnsd_threads.proofs.reading.Worker.handle_line.Goals as goal

-- the peer is no application
pub returns-in_default-clause-heard : goal.returns-in_default-clause-heard
returns-in_default-clause-heard g c =
    not_asked c.args.self.now.feeder.peer c.args.line.now c.args.self.now.seat c.args.self.now.refusals
    (λ application is.
    let found : c.asking.result ≡ Some application = c.asking.ensures.found application (c.peer.ensures ∙ is) in
    cc)

-- an application is answered
pub returns-clause-heard : goal.returns-clause-heard
returns-clause-heard g c =
    let before = c.args.self.now in
    let after = c.tell_asker.new.self in
    let only = rw c.in-Some.is at c.asking.ensures.only in
    let peer : before.feeder.peer ≡ Some (Application c.in-Some.application) = sym c.peer.ensures ∙ only in
    let answered : IsAnswered c.in-Some.application c.args.line.now before.seat after.seat c.answer-refused.result = rw c.tell_asker.ensures.same c.answer-refused.ensures.answered in
    let told = rw c.answer-refused.ensures.same at c.tell_asker.ensures.told in
    subst (λ (p : Option Peer). IsOneHeard p (Line c.args.line.now) before.seat before.refusals after.seat after.refusals) (sym peer)
    (c.answer-refused.result, (answered, told))
