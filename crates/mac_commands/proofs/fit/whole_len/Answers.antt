use Rattle.std.proofs.Common.{◌++◌, ◌∷◌, []}
use Rattle.mac_commands.specs.Front.{front_command}
use Rattle.mac_commands.proofs.Reading.{reads_more}
use Rattle.mac_commands.proofs.fit.whole_len.Goals as goal

pub loop-front-preserved : goal.loop-front-preserved
loop-front-preserved c =
    let found = c.in-Some.ensures.found in
    (c.loop-front.invariant.0 ++ front_command c.in-Some.front ∷ [], reads_more _ _ _ _ _ _ c.loop-front.invariant.1 found.whole found.spelled)
