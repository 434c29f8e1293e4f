use Rattle.std.proofs.Common.{◌∙◌, Some, ap, subst, sym}
use Rattle.store.specs.declared.under_way.Called.TheVariants as calls
use Rattle.world.specs.declared.commit.LastCommit.TheVariants as commits
use Rattle.world.specs.Commits.{GoesOn}
use Rattle.world.proofs.Taking.{same_commits}
use Rattle.world.proofs.commit.Pipeline.go_on.Goals as goal

pub returns-in-None : goal.returns-in-None
returns-in-None c =
    let new = c.set-in-None.new.self in
    let ahead = c.args.self.now.ahead in
    subst (λ k. GoesOn ahead k new) (sym (c.in-Durable.is ∙ ap (calls.Durable c.in-Durable.durable c.in-Durable.room) c.in-None.is)) (
      c.new-durable.result,
      c.new-durable.ensures,
      same_commits new (record { ahead = ahead; last = commits.Durable c.new-durable.result }) c.set-in-None.ensures.ahead c.set-in-None.ensures.last,
    )

pub returns-in-Some : goal.returns-in-Some
returns-in-Some c =
    let new = c.set-in-Some.new.self in
    subst (λ k. GoesOn c.args.self.now.ahead k new) (sym (c.in-Durable.is ∙ ap (calls.Durable c.in-Durable.durable c.in-Durable.room) c.in-Some.is)) (
      c.new-durable.result,
      c.new-durable.ensures,
      same_commits new (record { ahead = Some c.new-durable.result; last = commits.UnderWay c.in-Some.next }) (c.set-in-Some.ensures.ahead ∙ c.put_ahead.ensures.ahead)
          c.set-in-Some.ensures.last,
    )
