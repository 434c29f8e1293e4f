use Rattle.std.proofs.Common.{◌∙◌, codes, rules, sym}
use Rattle.std.proofs.lemmas.Option.{none-some}
use Rattle.clap.specs.Words.{found_of}
use Rattle.lw_types.specs.Hex.{net_id_text}
use Rattle.command_words.proofs.Rows.{same, text_met, text_missed}
use Rattle.command_words.proofs.asked.new_store_options.Goals as goal

pub returns-in_err-get_str-clause-none : goal.returns-in_err-get_str-clause-none
returns-in_err-get_str-clause-none c _ n s fits range h =
    none-some (net_id_text n) (sym (text_missed (found_of c.args.matches.now) (codes "netid") (search rules)) ∙ h.0)

pub returns-in_err-net_id-clause-none : goal.returns-in_err-net_id-clause-none
returns-in_err-net_id-clause-none c _ n s fits range h =
    let found = found_of c.args.matches.now in
    let given = text_met found (codes "netid") c.in_ok-get_str.field-0.now c.in_ok-get_str.ensures in
    none-some n (sym (search rules) ∙ c.from_text.ensures.only n fits (same _ _ (sym given ∙ h.0)))

pub returns-in_err-number_given-clause-none : goal.returns-in_err-number_given-clause-none
returns-in_err-number_given-clause-none c _ n s fits range h =
    c.number_given.ensures.none c.in_err-number_given.was s range.0 range.1 h.1

pub returns-clause-some : goal.returns-clause-some
returns-clause-some c =
    let found = found_of c.args.matches.now in (
      text_met found (codes "netid") c.in_ok-get_str.field-0.now c.in_ok-get_str.ensures ∙ search rules,
      c.in_ok-number_given.ensures.some,
    )
