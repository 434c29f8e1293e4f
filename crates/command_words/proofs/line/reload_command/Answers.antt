use Rattle.command_words.proofs.line.reload_command.Goals as goal

pub returns : goal.returns
returns c = c.file_command.ensures _ c.store_file.ensures.rule
