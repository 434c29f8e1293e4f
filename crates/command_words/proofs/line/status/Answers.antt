use Rattle.std.proofs.Common.{◌∙◌, ap, codes}
use Rattle.command_words.specs.CommandLine.{or_else}
use Rattle.command_words.proofs.line.status.Goals as goal

pub returns : goal.returns
returns c =
    let one = c.file_command-status.ensures _ c.store_file.ensures.rule in
    c.with_arg.ensures _ _ one (c.or_else.ensures.rule ∙ ap (λ r. or_else r (codes "0")) c.number_option-wait.ensures.rule)
