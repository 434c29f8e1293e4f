use Rattle.command_words.proofs.line.format.Goals as goal

pub returns : goal.returns
returns c =
    let one = c.file_command-format.ensures _ c.word-file.ensures.rule in
    let two = c.with_arg.ensures _ _ one c.option-net_id.ensures.rule in
    c.with_arg-2.ensures _ _ two c.slots.ensures.rule
