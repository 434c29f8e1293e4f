use Rattle.std.proofs.Common.{◌≡◌, ◌<◌, ℕ, ◌+◌, List, length, ◌∙◌, sym, ap, arith}
use Rattle.disk.specs.State.{bytes_after_write}
use Rattle.gate_log.specs.Log.{log_state}
use Rattle.gate_log.specs.Phases.{bytes_of}
use Rattle.gate_log.proofs.Steps.{body_images, body_written}
use Rattle.gate_log.proofs.phases.Begun.write.Goals as goal

pub returns-in_err-write_at-clause-images : goal.returns-in_err-write_at-clause-images
returns-in_err-write_at-clause-images g c honest held rest =
    let room : c.args.log.now.next + length c.deref.result.now < c.args.log.now.areas.live.end = omega (arith, ap length c.deref.ensures.value, c.requires) in
    body_images c.a_write_tears_an_image.ensures c.settled_disk_keeps_its_content.ensures (log_state g.D.Disk.state c.args.log.now) held (g.D.Disk.state c.write_at.new.self) (length c.deref.result.now) rest (c.write_at.ensures.opens honest) room

pub returns-clause-images : goal.returns-clause-images
returns-clause-images g c honest held rest =
    let room : c.args.log.now.next + length c.deref.result.now < c.args.log.now.areas.live.end = omega (arith, ap length c.deref.ensures.value, c.requires) in
    body_images c.a_write_tears_an_image.ensures c.settled_disk_keeps_its_content.ensures (log_state g.D.Disk.state c.args.log.now) held (g.D.Disk.state c.write_at.new.self) (length c.deref.result.now) rest (c.write_at.ensures.opens honest) room

pub returns-clause-next : goal.returns-clause-next
returns-clause-next g c honest held b rest begun =
    let log = log_state g.D.Disk.state c.args.log.now in
    let after = g.D.Disk.state c.write_at.new.self in
    let room : c.args.log.now.next + length c.deref.result.now < c.args.log.now.areas.live.end = omega (arith, ap length c.deref.ensures.value, c.requires) in
    let is_written : after.content ≡ bytes_after_write log.disk.content (log.next + 1) (bytes_of c.args.self) =
    c.in_ok-write_at.ensures.written honest ∙ ap (λ (l : List ℕ). bytes_after_write log.disk.content (log.next + 1) l) c.deref.ensures.value in
    let len : length (bytes_of c.args.self) ≡ length c.deref.result.now = sym (ap length c.deref.ensures.value) in
    body_written c.a_write_tears_an_image.ensures c.settled_disk_keeps_its_content.ensures log held after (length c.deref.result.now) rest (c.write_at.ensures.opens honest) room b c.args.self _ begun len (omega (arith, c.len.ensures, c.deref.ensures.len)) is_written
