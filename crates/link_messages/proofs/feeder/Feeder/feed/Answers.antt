use Rattle.std.proofs.Common.{◌≡◌, Option, None, rules, sym, subst}
use Rattle.lw_types.specs.declared.refusal.Refusal.{Refusal}
use Rattle.link_messages.specs.Feeding.{FeedState, FeedWantsMemory, WantsMemoryBehind, end_of}
use Rattle.link_messages.proofs.feeder.Feeder.feed.Goals as goal

pub returns-in-Ok-clause-fed : goal.returns-in-Ok-clause-fed
returns-in-Ok-clause-fed c = search rules

pub returns-in-Err-clause-wanted : goal.returns-in-Err-clause-wanted
returns-in-Err-clause-wanted c =
    let f = c.self.inside in
    let none : f.fault ≡ None = search rules in
    subst (λ (s : FeedState). FeedWantsMemory s c.args.piece.now) c.self.view_is
    (subst (λ (fault : Option Refusal). WantsMemoryBehind f.peer (end_of fault f.rest.items) c.args.piece.now) (sym none) c.in-Err.ensures.wanted)
