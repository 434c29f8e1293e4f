-- What was removed from the bytes was written.
use Rattle.std.proofs.Common.{◌≡◌, ◌++◌, ℕ, List}
use Rattle.std.specs.Io.KnownBytes.{Appends}
use Rattle.outbox.specs.Ring.{taken_from}
use Rattle.lnsd_links.proofs.writing.send_bytes.Given as goal

abbrev pub invariant-loop : goal.invariant-loop
invariant-loop g l =
    ((done : List ℕ) × ((l.initial.rest ≡ done ++ l.rest)
    × Appends (g.W.Write.contents l.initial.stream) (g.W.Write.contents l.stream) done))
    × (taken_from l.inlet ≡ taken_from l.initial.inlet)
