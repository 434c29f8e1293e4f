use Rattle.clap.specs.Words.{found_of}
use Rattle.command_words.proofs.Rows.{flag_met}
use Rattle.command_words.proofs.asked.is_given.Goals as goal

pub returns : goal.returns
returns c =
    let told = c.get_flag.ensures in
    flag_met (found_of c.args.matches.now) c.args.id.now c.get_flag.result told.none told.value told.other
