use Rattle.command_words.proofs.line.serve.Goals as goal

pub returns : goal.returns
returns c =
    let one = c.file_command-serve.ensures _ c.store_file.ensures.rule in
    let two = c.with_arg.ensures _ _ one c.listen.ensures.rule in
    c.with_arg-2.ensures _ _ two c.number_option-links.ensures.rule
