use Rattle.std.proofs.Common.{◌∙◌, sym}
use Rattle.std.proofs.lemmas.Option.{none-some}
use Rattle.command_words.proofs.Rows.{eui_at}
use Rattle.command_words.proofs.asked.euis_of.Goals as goal

pub returns-in-None : goal.returns-in-None
returns-in-None c euis all same_texts =
    let at = eui_at c.args.texts.now euis c.loop-text.text-index _ c.loop-text-test.true all same_texts in
    none-some at.0 (sym c.in-None.is ∙ c.from_text.ensures.only at.0 at.1 (sym at.2))
