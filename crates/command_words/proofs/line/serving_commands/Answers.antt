use Rattle.command_words.proofs.line.serving_commands.Goals as goal

pub returns : goal.returns
returns c =
    let one = c.with_command-lnsd.ensures _ _ c.without_commands.ensures c.format.ensures in
    let two = c.with_command-lnsd-2.ensures _ _ one c.list.ensures in
    let three = c.with_command-lnsd-3.ensures _ _ two c.serve.ensures in
    let four = c.with_command-lnsd-4.ensures _ _ three c.run_command.ensures in
    let five = c.with_command-lnsd-5.ensures _ _ four c.stop.ensures in
    let six = c.with_command-lnsd-6.ensures _ _ five c.status.ensures in
    let seven = c.with_command-lnsd-7.ensures _ _ six c.restore.ensures in
    let eight = c.with_command-lnsd-8.ensures _ _ seven c.devices.ensures in
    let nine = c.with_command-lnsd-9.ensures _ _ eight c.watch.ensures in
    let ten = c.with_command-lnsd-10.ensures _ _ nine c.reload_command.ensures in
    c.with_command.ensures _ _ ten c.copy_command.ensures
