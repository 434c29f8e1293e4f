use Rattle.std.proofs.Common.{◌≡◌, ◌<◌, ℕ, ◌+◌, List, length, ◌∙◌, sym, ap, arith}
use Rattle.disk.specs.State.{bytes_after_write}
use Rattle.gate_log.specs.Log.{log_state}
use Rattle.gate_log.specs.Phases.{bytes_of}
use Rattle.gate_log.proofs.Pairs.{pair_images, pair_written}
use Rattle.gate_log.proofs.phases.GateWritten.write_next.Goals as goal

pub returns-in_err-write_at-clause-images : goal.returns-in_err-write_at-clause-images
returns-in_err-write_at-clause-images g c honest held b is =
    let log = log_state g.D.Disk.state c.args.log.now in
    let room : log.next + c.args.self.size + length c.deref.result.now < log.areas.live.end = omega (arith, ap length c.deref.ensures.value, c.requires) in
    pair_images c.a_write_tears_an_image.ensures log held b c.args.self.size (g.D.Disk.state c.write_at.new.self) (length c.deref.result.now) is
    (c.write_at.ensures.opens honest) room

pub returns-clause-images : goal.returns-clause-images
returns-clause-images g c honest held b is =
    let log = log_state g.D.Disk.state c.args.log.now in
    let room : log.next + c.args.self.size + length c.deref.result.now < log.areas.live.end = omega (arith, ap length c.deref.ensures.value, c.requires) in
    pair_images c.a_write_tears_an_image.ensures log held b c.args.self.size (g.D.Disk.state c.write_at.new.self) (length c.deref.result.now) is
    (c.write_at.ensures.opens honest) room

pub returns-clause-next : goal.returns-clause-next
returns-clause-next g c honest held b n is begun =
    let log = log_state g.D.Disk.state c.args.log.now in
    let after = g.D.Disk.state c.write_at.new.self in
    let at = log.next + c.args.self.size + 1 in
    let room : log.next + c.args.self.size + length c.deref.result.now < log.areas.live.end = omega (arith, ap length c.deref.ensures.value, c.requires) in
    let written : after.content ≡ bytes_after_write log.disk.content at (bytes_of c.args.following) =
    c.in_ok-write_at.ensures.written honest ∙ ap (λ (l : List ℕ). bytes_after_write log.disk.content at l) c.deref.ensures.value in
    let len : length (bytes_of c.args.following) ≡ length c.deref.result.now = sym (ap length c.deref.ensures.value) in
    pair_written c.a_write_tears_an_image.ensures log held b c.args.self.size after (length c.deref.result.now) is (c.write_at.ensures.opens honest) room n
    c.args.following _ begun len (omega (arith, c.len.ensures, c.deref.ensures.len)) written
