use Rattle.std.proofs.Common.{◌≡◌, ℕ, ◌≤◌, ◌+◌, List, length, drop, sym, ◌∙◌, ap, subst, arith}
use Rattle.std.proofs.lemmas.List.{take_at}
use Rattle.std.proofs.lemmas.Grind.{common_steps}
use Rattle.disk.specs.State.{bytes_after_write}
use Rattle.disk.specs.Tracking.{IsTracked}
use Rattle.disk.proofs.Written.{tracked_write, length-written}
use Rattle.disk.proofs.mem_disk.MemDiskDisk.write_at.Goals as goal

pub invariant_of-self-2 : goal.invariant_of-self-2
invariant_of-self-2 c =
    let disk = c.open.new.self in
    let is_written : c.put.new.target ≡ bytes_after_write disk.content.items c.args.at c.args.bytes.now =
    c.put.ensures ∙ ap (λ (l : List ℕ). bytes_after_write l c.args.at c.args.bytes.now) c.deref_mut.ensures.value in
    let within : c.args.at + length c.args.bytes.now ≤ length disk.content.items = grind (arith, common_steps) in
    let size : disk.content.len ≡ length c.put.new.target = grind (arith, common_steps, length-written disk.content.items c.args.bytes.now c.args.at within) in
    let whole = take_at c.put.new.target (drop (length c.put.new.target) disk.content.items) disk.content.len (sym size) ∙ is_written in
    let tracked = tracked_write disk.content.items disk.synced.items c.args.bytes.now disk.marks.items disk.low disk.high c.args.at disk.tracked (omega (arith, c.open.ensures.covers_from)) (omega (arith, c.open.ensures.covers_to)) in
    record { tracked = subst (λ (l : List ℕ). IsTracked l disk.synced.items disk.marks.items disk.low disk.high) (sym whole) tracked }
