use Rattle.command_words.proofs.line.copy_command.Goals as goal

pub returns : goal.returns
returns c =
    let one = c.file_command-copy.ensures _ c.store_file.ensures.rule in
    c.with_arg.ensures _ _ one c.word-new.ensures.rule
