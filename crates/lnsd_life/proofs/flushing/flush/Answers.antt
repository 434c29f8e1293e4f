use Rattle.std.proofs.Common.{◌≡◌, ◌∙◌, ap}
use Rattle.session_core.specs.Taking.{TakerState}
use Rattle.lnsd_life.proofs.Ending.{counted_by, none_failed_by, refused_by}
use Rattle.lnsd_life.proofs.Decided.{seen_counted, seen_decided}
use Rattle.lnsd_life.proofs.flushing.flush.Goals as goal

pub returns-clause-healthy : goal.returns-clause-healthy
returns-clause-healthy g c =
    let (counts, (made, asks)) = c.serve-served.ensures.chains in
    none_failed_by _ _ _ _ _ _ _ _ _ _ _ counts _ made

pub returns-clause-committed : goal.returns-clause-committed
returns-clause-committed g c =
    let (counts, (made, asks)) = c.serve-served.ensures.chains in
    let seen = c.again.ensures ∙ (c.seen.ensures ∙ ap (λ (t : TakerState). t.seen) c.taker.ensures) in
    seen_counted _ _ _ _ _ _ _ _ _ c.serve-served.result c.args.taker c.again.result c.new-feed.ensures seen c.serve-served.ensures.next
    (counted_by _ _ _ _ _ _ _ _ _ _ _ counts _ made (λ feed. feed.taken) (λ p n batch q given. given.0))

pub returns-clause-decided : goal.returns-clause-decided
returns-clause-decided g c =
    seen_decided _ _ _ _ _ _ _ _ _ c.serve-served.result c.args.taker c.again.result c.new-feed.ensures
    (c.again.ensures ∙ (c.seen.ensures ∙ ap (λ (t : TakerState). t.seen) c.taker.ensures)) c.serve-served.ensures.next

pub returns-clause-refused : goal.returns-clause-refused
returns-clause-refused g c =
    let (counts, (made, asks)) = c.serve-served.ensures.chains in
    refused_by _ _ _ _ _ _ _ _ _ _ _ counts _ made (λ p n e q given. given.0)

pub returns-clause-lives : goal.returns-clause-lives
returns-clause-lives g c honest t number lives led =
    let on = c.serve-served.ensures.lives honest t number lives led in
    (on.0, on.1.0)
