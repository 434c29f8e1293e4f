use Rattle.std.proofs.Common.{sym, ◌∙◌}
use Rattle.std.proofs.lemmas.Str.{IsUtf8-from_ascii}
use Rattle.link_messages.proofs.Lines.{is_ok_where, line_is_ascii}
use Rattle.link_messages.proofs.read_message.line.Goals as goal

pub unwrap-text-requires : goal.unwrap-text-requires
unwrap-text-requires c =
    is_ok_where _ _ _ c.from_utf8.result c.from_utf8.ensures.cases (IsUtf8-from_ascii c.args.bytes.now (line_is_ascii c.args.bytes.now (sym c.is_line.ensures ∙ c.if-not-is_line.false)))
