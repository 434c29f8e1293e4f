use Rattle.std.proofs.Common.{rules, subst}
use Rattle.std.specs.Bool.{MatchBool}
use Rattle.clap.specs.Words.{found_of, rows_of}
use Rattle.command_words.specs.Asked.{HasNoNewStore}
use Rattle.command_words.proofs.Rows.{with_net_id, without_new_store}
use Rattle.command_words.proofs.asked.is_without_new_store.Goals as goal

pub returns-then-is_none : goal.returns-then-is_none
returns-then-is_none c =
    let found = found_of c.args.matches.now in
    let both = without_new_store found c.get_str.result c.get_str-then-is_none.result c.get_str.ensures c.get_str-then-is_none.ensures in
    subst (λ b. MatchBool b (HasNoNewStore (rows_of found)) (HasNoNewStore (rows_of found) → ⊥)) (search rules) both

pub returns-else-is_none : goal.returns-else-is_none
returns-else-is_none c =
    with_net_id (found_of c.args.matches.now) c.get_str.result c.is_none.result c.get_str.ensures (search rules) c.if-is_none.false
