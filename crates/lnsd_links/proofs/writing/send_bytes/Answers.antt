use Rattle.std.proofs.Common.{◌++◌, take}
use Rattle.std.proofs.KnownBytes.{Appends-trans}
use Rattle.lnsd_links.proofs.Written.{taken_front}
use Rattle.lnsd_links.proofs.writing.send_bytes.Goals as goal

pub loop-preserved-in-Ok : goal.loop-preserved-in-Ok
loop-preserved-in-Ok g c =
    let ((done, (split, appended)), same) = c.loop.invariant in
    let rest = c.loop.rest.now in
    let n = c.in-Ok.count in
    ((done ++ take n rest, (taken_front c.args.bytes.now done rest n split, Appends-trans _ _ _ _ _ appended c.in-Ok.ensures.bytes)), same)
