use Rattle.command_words.proofs.line.lnsd.Goals as goal

pub returns : goal.returns
returns c =
    let one = c.with_command-lnsd.ensures _ _ c.serving_commands.ensures c.export_command.ensures in
    let two = c.with_command-lnsd-2.ensures _ _ one c.import_command.ensures in
    let three = c.with_command-lnsd-3.ensures _ _ two c.amend_command.ensures in
    let four = c.with_command-lnsd-4.ensures _ _ three c.retire_command.ensures in
    c.with_command.ensures _ _ four c.grow_command.ensures
