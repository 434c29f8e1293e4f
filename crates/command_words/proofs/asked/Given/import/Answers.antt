use Rattle.std.proofs.Common.{◌∙◌, codes, refl, rules, sym}
use Rattle.std.proofs.lemmas.Option.{none-some}
use Rattle.clap.specs.Words.{found_of, rows_of}
use Rattle.command_words.proofs.Rows.{missed, no_import, text_met, text_missed}
use Rattle.command_words.proofs.asked.Given.import.Goals as goal

pub returns-in_err-csv : goal.returns-in_err-csv
returns-in_err-csv c =
    let found = found_of c.args.self.now.matches.now in
    missed (codes "import") (rows_of found) c.from_residual.result (search rules)
    (no_import (rows_of found) (λ t h _. none-some t (sym (text_missed found (codes "csv") (search rules)) ∙ h))
    (λ t n s _ _ h _. none-some t (sym (text_missed found (codes "csv") (search rules)) ∙ h)))

pub returns-in_err-net_id : goal.returns-in_err-net_id
returns-in_err-net_id c =
    let found = found_of c.args.self.now.matches.now in
    missed (codes "import") (rows_of found) c.from_residual-in_err-net_id.result (search rules)
    (no_import (rows_of found) (λ t _ h. c.if-is_without_new_store.ensures h)
    (λ t n s fits range _ h. c.new_store_options.ensures.none c.in_err-net_id.was n s fits range h))

pub returns-then-is_without_new_store : goal.returns-then-is_without_new_store
returns-then-is_without_new_store c =
    let found = found_of c.args.self.now.matches.now in
    let csv = text_met found (codes "csv") c.in_ok-csv.csv.now c.in_ok-csv.ensures in
    (refl, c.args.self.now.is_found, (csv, c.if-is_without_new_store.ensures, c.is_given-dry_run.ensures))

pub returns : goal.returns
returns c =
    let found = found_of c.args.self.now.matches.now in
    let csv = text_met found (codes "csv") c.in_ok-csv.csv.now c.in_ok-csv.ensures in
    (refl, c.args.self.now.is_found, (csv, c.in_ok-net_id.ensures.some, c.is_given-dry_run.ensures))
