use Rattle.std.proofs.Common.{◌∙◌, ap, codes}
use Rattle.command_words.specs.CommandLine.{left_out, or_else}
use Rattle.command_words.proofs.line.run_command.Goals as goal

pub returns : goal.returns
returns c =
    let one = c.file_command-run.ensures _ c.store_file.ensures.rule in
    let two = c.with_arg.ensures _ _ one c.listen.ensures.rule in
    let three = c.with_arg-run.ensures _ _ two (c.or_else.ensures.rule ∙ ap (λ r. or_else r (codes "96")) c.number_option-links.ensures.rule) in
    c.with_arg-2.ensures _ _ three (c.left_out.ensures.rule ∙ ap left_out c.option-names.ensures.rule)
