use Rattle.std.proofs.Common.{sym, ◌∙◌}
use Rattle.link_messages.proofs.Finishing.{finishes_long, finishes_none, finishes_some}
use Rattle.link_messages.proofs.feeder.finishing.Goals as goal

pub returns-in-None-clause-finished : goal.returns-in-None-clause-finished
returns-in-None-clause-finished c =
    finishes_none c.args.kept.now c.args.piece.now c.requires.begun (sym c.stated_across.ensures ∙ c.in-None.is)

pub returns-in-Some-clause-finished : goal.returns-in-Some-clause-finished
returns-in-Some-clause-finished c =
    finishes_long c.args.kept.now c.args.piece.now c.in-Some.len c.up_to.result c.requires.begun c.requires.part
    (sym c.stated_across.ensures ∙ c.in-Some.is) c.if-len-gt-LONGEST_CONTENT.true c.up_to.ensures

pub returns-in-Some-2-clause-finished : goal.returns-in-Some-2-clause-finished
returns-in-Some-2-clause-finished c =
    finishes_some c.args.kept.now c.args.piece.now c.in-Some.len c.up_to-in-Some-2.result (λ i. (c.type_inv.kept i).fits) (λ i. (c.type_inv.piece i).fits)
    c.requires.begun c.requires.part (sym c.stated_across.ensures ∙ c.in-Some.is) c.if-len-gt-LONGEST_CONTENT.false c.up_to-in-Some-2.ensures
