use Rattle.std.proofs.Common.{sym, ◌∙◌}
use Rattle.backend_json.proofs.Equal.{same_value}
use Rattle.backend_json.proofs.OneMessage.{same_answer, same_question}
use Rattle.backend_json.proofs.laws.each_text_is_of_one_message.Goals as goal

-- src/laws.rt:9:1
pub returns-clause-questions : goal.returns-clause-questions
returns-clause-questions c text a b ia ib ra rb =
    let laws = c.each_text_is_of_one_value.ensures in
    same_question (record { hex = laws.hex; euis = laws.euis; addresses = laws.addresses; networks = laws.networks; keys = laws.keys }) a b ia ib (same_value (sym ra ∙ rb))

pub returns-clause-answers : goal.returns-clause-answers
returns-clause-answers c text a b ia ib ra rb =
    let laws = c.each_text_is_of_one_value.ensures in
    same_answer (record { hex = laws.hex; euis = laws.euis; addresses = laws.addresses; networks = laws.networks; keys = laws.keys }) a b ia ib (same_value (sym ra ∙ rb))
