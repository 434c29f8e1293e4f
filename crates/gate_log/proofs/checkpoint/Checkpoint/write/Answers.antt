use Rattle.std.proofs.Common.{◌≡◌, ◌<◌, ℕ, ◌+◌, List, length, ◌∙◌, sym, ap, arith}
use Rattle.disk.specs.State.{bytes_after_write}
use Rattle.gate_log.specs.Checkpointing.{checkpoint_bytes}
use Rattle.gate_log.specs.Log.{log_state}
use Rattle.gate_log.proofs.Steps.{checkpoint_images, checkpoint_written}
use Rattle.gate_log.proofs.checkpoint.Checkpoint.write.Goals as goal

pub returns-in_err-write_at-clause-images : goal.returns-in_err-write_at-clause-images
returns-in_err-write_at-clause-images g c honest held rest is_shut =
    let room : c.args.log.now.areas.other.start + length c.deref.result.now < c.args.log.now.areas.other.end = omega (arith, ap length c.deref.ensures.value, c.requires) in
    checkpoint_images c.a_write_tears_an_image.ensures c.settled_disk_keeps_its_content.ensures (log_state g.D.Disk.state c.args.log.now) held (g.D.Disk.state c.write_at.new.self) (length c.deref.result.now) rest is_shut (c.write_at.ensures.opens honest) room

pub returns-clause-images : goal.returns-clause-images
returns-clause-images g c honest held rest is_shut =
    let room : c.args.log.now.areas.other.start + length c.deref.result.now < c.args.log.now.areas.other.end = omega (arith, ap length c.deref.ensures.value, c.requires) in
    checkpoint_images c.a_write_tears_an_image.ensures c.settled_disk_keeps_its_content.ensures (log_state g.D.Disk.state c.args.log.now) held (g.D.Disk.state c.write_at.new.self) (length c.deref.result.now) rest is_shut (c.write_at.ensures.opens honest) room

pub returns-clause-next : goal.returns-clause-next
returns-clause-next g c honest held header records rest is_shut is follows =
    let log = log_state g.D.Disk.state c.args.log.now in
    let after = g.D.Disk.state c.write_at.new.self in
    let room : c.args.log.now.areas.other.start + length c.deref.result.now < c.args.log.now.areas.other.end = omega (arith, ap length c.deref.ensures.value, c.requires) in
    let is_written : after.content ≡ bytes_after_write log.disk.content (log.areas.other.start + 1) (checkpoint_bytes c.args.self) =
    c.in_ok-write_at.ensures.written honest ∙ ap (λ (l : List ℕ). bytes_after_write log.disk.content (log.areas.other.start + 1) l) c.deref.ensures.value in
    let len : length (checkpoint_bytes c.args.self) ≡ length c.deref.result.now = sym (ap length c.deref.ensures.value) in
    let size : c.len-len.result ≡ length (checkpoint_bytes c.args.self) = omega (arith, c.len-len.ensures, c.deref.ensures.len, ap length c.deref.ensures.value) in
    checkpoint_written c.a_write_tears_an_image.ensures c.settled_disk_keeps_its_content.ensures log held after (length c.deref.result.now) rest is_shut (c.write_at.ensures.opens honest) room c.args.self header records _ is follows len (λ i. record { generation = c.args.self.generation; len = size i }) is_written
