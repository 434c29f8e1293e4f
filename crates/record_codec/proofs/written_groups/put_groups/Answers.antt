use Rattle.std.proofs.Common.{◌∷◌, ◌++◌, [], ap, ◌∙◌}
use Rattle.record_codec.specs.Change.{change_bytes}
use Rattle.record_codec.proofs.Loop.{eight_written}
use Rattle.record_codec.proofs.Writing.{keeps_more}
use Rattle.record_codec.proofs.written_groups.put_groups.Goals as goal

pub returns-clause-written : goal.returns-clause-written
unfolding change_bytes
returns-clause-written c =
    let mask = c.in_ok-push.ensures.items ∙ ap (λ bits. c.args.out.now.items ++ bits ∷ []) c.mask.ensures in
    eight_written _ _ _ _ _ _ _ _ _ _ _ _ _ _ _ _ _ mask c.in_ok-put_nonces.ensures.written c.in_ok-put_current.ensures.written c.in_ok-put_counts.ensures.written c.in_ok-put_pending.ensures.written c.in_ok-put_tag.ensures.written c.in_ok-put_commands.ensures.written c.in_ok-put_items.ensures.written

pub returns-in_err-put_counts-clause-keeps : goal.returns-in_err-put_counts-clause-keeps
returns-in_err-put_counts-clause-keeps c = keeps_more _ _ _ _ c.in_ok-push.ensures.items (keeps_more _ _ _ _ c.in_ok-put_nonces.ensures.written (keeps_more _ _ _ _ c.in_ok-put_current.ensures.written c.in_err-put_counts.ensures.keeps))

pub returns-in_err-put_pending-clause-keeps : goal.returns-in_err-put_pending-clause-keeps
returns-in_err-put_pending-clause-keeps c = keeps_more _ _ _ _ c.in_ok-push.ensures.items (keeps_more _ _ _ _ c.in_ok-put_nonces.ensures.written (keeps_more _ _ _ _ c.in_ok-put_current.ensures.written (keeps_more _ _ _ _ c.in_ok-put_counts.ensures.written c.in_err-put_pending.ensures.keeps)))

pub returns-in_err-put_tag-clause-keeps : goal.returns-in_err-put_tag-clause-keeps
returns-in_err-put_tag-clause-keeps c = keeps_more _ _ _ _ c.in_ok-push.ensures.items (keeps_more _ _ _ _ c.in_ok-put_nonces.ensures.written (keeps_more _ _ _ _ c.in_ok-put_current.ensures.written (keeps_more _ _ _ _ c.in_ok-put_counts.ensures.written (keeps_more _ _ _ _ c.in_ok-put_pending.ensures.written c.in_err-put_tag.ensures.keeps))))

pub returns-in_err-put_commands-clause-keeps : goal.returns-in_err-put_commands-clause-keeps
returns-in_err-put_commands-clause-keeps c = keeps_more _ _ _ _ c.in_ok-push.ensures.items (keeps_more _ _ _ _ c.in_ok-put_nonces.ensures.written (keeps_more _ _ _ _ c.in_ok-put_current.ensures.written (keeps_more _ _ _ _ c.in_ok-put_counts.ensures.written (keeps_more _ _ _ _ c.in_ok-put_pending.ensures.written (keeps_more _ _ _ _ c.in_ok-put_tag.ensures.written c.in_err-put_commands.ensures.keeps)))))

pub returns-in_err-put_items-clause-keeps : goal.returns-in_err-put_items-clause-keeps
returns-in_err-put_items-clause-keeps c = keeps_more _ _ _ _ c.in_ok-push.ensures.items (keeps_more _ _ _ _ c.in_ok-put_nonces.ensures.written (keeps_more _ _ _ _ c.in_ok-put_current.ensures.written (keeps_more _ _ _ _ c.in_ok-put_counts.ensures.written (keeps_more _ _ _ _ c.in_ok-put_pending.ensures.written (keeps_more _ _ _ _ c.in_ok-put_tag.ensures.written (keeps_more _ _ _ _ c.in_ok-put_commands.ensures.written c.in_err-put_items.ensures.keeps))))))

pub returns-clause-keeps : goal.returns-clause-keeps
returns-clause-keeps c = keeps_more _ _ _ _ c.in_ok-push.ensures.items (keeps_more _ _ _ _ c.in_ok-put_nonces.ensures.written (keeps_more _ _ _ _ c.in_ok-put_current.ensures.written (keeps_more _ _ _ _ c.in_ok-put_counts.ensures.written (keeps_more _ _ _ _ c.in_ok-put_pending.ensures.written (keeps_more _ _ _ _ c.in_ok-put_tag.ensures.written (keeps_more _ _ _ _ c.in_ok-put_commands.ensures.written c.in_ok-put_items.ensures.keeps))))))
