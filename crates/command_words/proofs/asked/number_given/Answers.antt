use Rattle.std.proofs.Common.{arith, rules, subst}
use Rattle.std.specs.Str.Parse.{ParsesUnsigned, ExplainsUnsignedError, HasUnsignedDigitsIfOk}
use Rattle.clap.specs.Words.{found_of, rows_of}
use Rattle.command_words.specs.Asked.{IsNumberOf}
use Rattle.command_words.proofs.Rows.{number_met, number_missed, number_within, number_without}
use Rattle.command_words.proofs.asked.number_given.Goals as goal

pub returns-clause-some : goal.returns-clause-some
returns-clause-some g c =
    let found = found_of c.args.matches.now in
    let spelled = number_met _ (λ bs r. ParsesUnsigned 32 10 bs r × ExplainsUnsignedError 10 bs r × HasUnsignedDigitsIfOk bs r)
    (λ _ _ g. g.0) found c.args.id.now c.get_one.result c.in_ok-number.number
    c.get_one.ensures.none c.get_one.ensures.value c.in_ok-number.was in
    number_within c.args.id.now (rows_of found) _ _ _ _ c.new.ensures (subst (λ n. IsNumberOf c.args.id.now (rows_of found) n) (search rules) spelled)

pub returns-clause-none : goal.returns-clause-none
returns-clause-none g c none n from to h =
    let found = found_of c.args.matches.now in
    let spelled = number_met _ (λ bs r. ParsesUnsigned 32 10 bs r × ExplainsUnsignedError 10 bs r × HasUnsignedDigitsIfOk bs r)
    (λ _ _ g. g.0) found c.args.id.now c.get_one.result c.in_ok-number.number
    c.get_one.ensures.none c.get_one.ensures.value c.in_ok-number.was in
    number_without c.args.id.now (rows_of found) _ _ _ _ c.new.ensures (subst (λ n. IsNumberOf c.args.id.now (rows_of found) n) (search rules) spelled) none n from to h

pub returns-in_err-number-clause-none : goal.returns-in_err-number-clause-none
returns-in_err-number-clause-none g c _ n from to spelled =
    let found = found_of c.args.matches.now in
    number_missed _ (λ bs r. ParsesUnsigned 32 10 bs r × ExplainsUnsignedError 10 bs r × HasUnsignedDigitsIfOk bs r)
    (λ _ _ g. g.0) found c.args.id.now c.get_one.result n
    c.get_one.ensures.value c.in_err-number.was spelled (omega (arith, to, c.requires))
