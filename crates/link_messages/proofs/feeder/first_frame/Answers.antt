use Rattle.std.proofs.Common.{sym, ◌∙◌}
use Rattle.link_messages.proofs.Finishing.{begins_cut}
use Rattle.link_messages.proofs.feeder.first_frame.Goals as goal

pub returns-in-Some-2 : goal.returns-in-Some-2
returns-in-Some-2 c =
    begins_cut c.args.stream.now c.in-Some.len c.split_at_checked.result (λ i. (c.type_inv.stream i).fits)
    (sym c.stated_length.ensures ∙ c.in-Some.is) c.if-len-gt-LONGEST_CONTENT.false c.split_at_checked.ensures.cases
