use Rattle.std.proofs.Common.{◌≡◌, length, drop, length-drop, ◌∙◌, arith}
use Rattle.std.proofs.lemmas.List.{take_all}
use Rattle.gate_log.proofs.Spelling.{header_at}
use Rattle.gate_log.proofs.reading.read_header.Goals as goal

pub returns-clause-header : goal.returns-clause-header
returns-clause-header g c honest =
    let buffer = c.read_at.new.buffer in
    let size : length buffer ≡ 30 = omega arith in
    let spelled = c.from_bytes.ensures.spelled ∙ take_all 29 (drop 1 buffer) (omega (arith, length-drop 1 buffer)) in
    header_at (g.D.Disk.state c.args.disk.now).content buffer c.args.at c.from_bytes.result (c.in_ok-read_at.ensures.bytes honest) c.requires c.if-bytes.false spelled c.from_bytes.ensures.in_range
