use Rattle.std.proofs.Common.{arith}
use Rattle.phy_payload.specs.declared.phy.Phy.TheVariants.{DataFrame}
use Rattle.sessions.proofs.Frames.{uplink-read}
use Rattle.sessions.proofs.table.hear.without_mic.Goals as goal

pub slice_bounds-result-count : goal.slice_bounds-result-count
slice_bounds-result-count c =
    let frame = DataFrame c.args.uplink.now.frame in
    let is = c.reading_is_the_grammar.ensures.read c.args.bytes.now frame (λ i. omega (arith, c.type_inv.bytes i)) (uplink-read c.args.bytes.now c.args.uplink.now c.requires) in
    omega (arith, c.frames_are_short.ensures.least c.args.bytes.now frame is)

pub returns : goal.returns
returns c =
    let frame = DataFrame c.args.uplink.now.frame in
    let is = c.reading_is_the_grammar.ensures.read c.args.bytes.now frame (λ i. omega (arith, c.type_inv.bytes i)) (uplink-read c.args.bytes.now c.args.uplink.now c.requires) in
    (c.a_mic_stands_behind_its_input.ensures.data_frames c.args.bytes.now c.args.uplink.now.frame is).0
