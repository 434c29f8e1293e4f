use Rattle.std.proofs.Common.{◌++◌, ap, ◌∙◌}
use Rattle.std.specs.Int.{w32, w64, to_be_bytes}
use Rattle.record_codec.proofs.Loop.{two_written}
use Rattle.record_codec.proofs.activation_fields.put_counters.Goals as goal

pub returns-clause-written : goal.returns-clause-written
returns-clause-written c =
    let up = c.in_ok-extend_from_slice.ensures.items ∙ ap (λ bytes. c.args.out.now.items ++ bytes) c.to_be_bytes.ensures in
    let down = c.in_ok-extend_from_slice-2.ensures.items ∙ ap (λ bytes. c.extend_from_slice.new.self.items ++ bytes) (c.to_be_bytes-2.ensures ∙ ap (to_be_bytes w64) c.get.ensures.value) in
    two_written _ (to_be_bytes w32 c.args.last_up) (to_be_bytes w64 c.args.next_down) _ _ up down
