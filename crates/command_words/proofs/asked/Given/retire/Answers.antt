use Rattle.std.proofs.Common.{◌∙◌, codes, refl, rules, sym, map}
use Rattle.std.proofs.lemmas.Option.{none-some}
use Rattle.lw_types.specs.Hex.{eui_text}
use Rattle.clap.specs.Words.{found_of, rows_of}
use Rattle.command_words.proofs.Rows.{in_none, no_retire, raw_met, same}
use Rattle.command_words.proofs.asked.Given.retire.Goals as goal

pub returns-in_default : goal.returns-in_default
returns-in_default c =
    let found = found_of c.args.self.now.matches.now in
    let none = raw_met found (codes "deveui") c.get_raw.result c.get_raw.ensures in
    no_retire (rows_of found) (λ euis all h. none-some (map eui_text euis) (search rules))

pub returns-in-Some-2 : goal.returns-in-Some-2
returns-in-Some-2 c =
    let found = found_of c.args.self.now.matches.now in
    let given = raw_met found (codes "deveui") c.get_raw.result c.get_raw.ensures in
    (refl, c.args.self.now.is_found, (search rules, c.is_given-dry_run.ensures))

pub returns-in-None : goal.returns-in-None
returns-in-None c =
    let found = found_of c.args.self.now.matches.now in
    let given = raw_met found (codes "deveui") c.get_raw.result c.get_raw.ensures in
    no_retire (rows_of found) (λ euis all h. in_none _ _ _ c.in-None.is c.in_ok-dev_euis.ensures euis all (same _ _ (sym h ∙ search rules)))
