use Rattle.std.proofs.Common.{None, codes, refl, rules}
use Rattle.clap.specs.Words.{found_of, rows_of, subcommand_rows_of}
use Rattle.command_words.proofs.Rows.{command_met, mode_met, no_file, text_met, text_missed}
use Rattle.command_words.proofs.read.mode_of.Goals as goal

pub returns-in_default-get_str : goal.returns-in_default-get_str
returns-in_default-get_str c =
    let found = found_of c.in-Some.matches.now in
    let word = c.in-Some.name.now in
    mode_met (subcommand_rows_of c.args.matches.now) word (rows_of found) None
    (command_met c.args.matches.now word word (rows_of found) refl c.in-Some.ensures.name c.in-Some.ensures.rows)
    (no_file word (rows_of found) (text_missed found (codes "file") (search rules)))

pub invariant_of-mode : goal.invariant_of-mode
invariant_of-mode c = record {
  is_found = text_met (found_of c.in-Some.matches.now) (codes "file") c.in-Some-get_str.file.now c.in-Some-get_str.ensures;
}
