use Rattle.std.proofs.Common.{inl}
use Rattle.backend_json.proofs.answer.reply_to.Goals as goal

pub returns-in-Ok : goal.returns-in-Ok
returns-in-Ok c = inl (c.in-Ok.ask, c.in-Ok.ensures.found.0, c.in-Ok.ensures.found.1, c.reply.ensures)
