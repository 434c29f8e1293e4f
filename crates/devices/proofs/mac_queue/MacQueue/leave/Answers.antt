use Rattle.std.proofs.Common.{◌≡◌, ℕ, List, drop, rules, sym, subst, arith}
use Rattle.std.proofs.lemmas.List.{length-drop}
use Rattle.mac_commands.specs.Commands.{IsLongestFit}
use Rattle.mac_commands.specs.Queueable.{AreQueueable}
use Rattle.devices.proofs.mac_queue.MacQueue.leave.Goals as goal

pub invariant_of-self : goal.invariant_of-self
invariant_of-self c =
    let was = c.self.inside.bytes.items in
    let n = c.fit15-fits.result in
    let fits : IsLongestFit was c.args.room n = subst (λ (q : List ℕ). IsLongestFit q c.args.room n) c.as_slice.ensures.value c.fit15-fits.ensures.longest in
    let items : c.drop-drain.new.self.0.items ≡ drop n was = search rules in (
      rw items (omega (arith, length-drop n was, c.self.invariant.0)),
      subst AreQueueable (sym items) (c.what_fits_leaves_a_queue.ensures was c.args.room n c.self.invariant.1 fits).1,
    )
