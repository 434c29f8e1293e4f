use Rattle.command_words.proofs.line.export_command.Goals as goal

pub returns : goal.returns
returns c =
    let one = c.file_command-export.ensures _ c.store_file.ensures.rule in
    c.with_arg.ensures _ _ one c.flag_option-keys.ensures.rule
