use Rattle.std.proofs.Common.{rules, ◌∙◌}
use Rattle.devices.proofs.MacCommands.{is_some_queue}
use Rattle.devices.proofs.mac_queue.MacQueue.takes.Goals as goal

pub returns-then-not-is_empty-clause-value : goal.returns-then-not-is_empty-clause-value
returns-then-not-is_empty-clause-value c = c.are_queueable.ensures.value ∙ is_some_queue c.args.bytes.now (search rules)
