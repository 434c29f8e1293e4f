use Rattle.std.proofs.Common.{◌≡◌, ◌∙◌, refl, sym}
use Rattle.lnsd_threads.proofs.Heard.{all_heard}
use Rattle.lnsd_threads.proofs.reading.Worker.handle_piece.Goals as goal

-- all messages that became whole were handled
pub returns-in-Ok-clause-heard : goal.returns-in-Ok-clause-heard
returns-in-Ok-clause-heard g c read_on =
    let (heard, (left, (split, (are, none)))) = c.handle_all.ensures.heard in
    let before = c.args.self.now in
    let after = c.handle_all.new.self in
    let messages = c.in-Ok.fed.messages.items in
    let feeder : after.feeder ≡ c.feed.new.self = rw c.handle_all.ensures.same refl in (
      messages,
      (
        rw feeder c.in-Ok.ensures.fed.0,
        (
          rw feeder (sym c.in-Ok.ensures.fed.1 ∙ c.handle_all.ensures.fault read_on),
          (
            rw feeder (all_heard c.feed.new.self.peer messages heard left before.seat before.refusals after.seat after.refusals split (none read_on) are),
            c.handle_all.ensures.whole read_on,
          ),
        ),
      ),
    )
