use Rattle.std.proofs.Common.{◌≡◌, ◌++◌, length, sym, ap, subst, arith}
use Rattle.std.proofs.lemmas.List.{length-append}
use Rattle.mac_commands.specs.Queueable.{AreQueueable}
use Rattle.devices.proofs.MacCommands.{queueable, queues_joined}
use Rattle.devices.proofs.mac_queue.MacQueue.append.Goals as goal

pub invariant_of-self-2 : goal.invariant_of-self-2
invariant_of-self-2 c =
    let was = c.self.inside.bytes.items in
    let items : c.extend_from_slice.new.self.items ≡ was ++ c.args.commands.now = c.in_ok-extend_from_slice.ensures.items in
    let long = length-append was c.args.commands.now in
    let same : length was ≡ length c.args.self.now = ap length c.self.view_is in (
      rw items (omega (arith, long, same, c.requires.room)),
      subst AreQueueable (sym items) (queues_joined c.whole_commands_join_and_part.ensures.join was c.args.commands.now c.self.invariant.1 (queueable c.queues_are_found.ensures c.args.commands.now c.requires.whole)),
    )
