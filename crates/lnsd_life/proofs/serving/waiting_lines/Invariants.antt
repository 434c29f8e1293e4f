-- Those that are under locks, and those that are left.
use Rattle.std.proofs.Common.{◌≡◌, ◌++◌, map}
use Rattle.lnsd_links.specs.declared.rings.OwnRing.{OwnRing}
use Rattle.lnsd_links.specs.declared.rings.WaitingLines.{WaitingLines}
use Rattle.lnsd_life.proofs.serving.waiting_lines.Given as goal

abbrev pub invariant-loop-own : goal.invariant-loop-own
invariant-loop-own l =
    map (λ (waiting : WaitingLines). waiting.application) l.all.items
    ++ map (λ (own : OwnRing). own.application) l.own-iterator.rest.items
    ≡ map (λ (own : OwnRing). own.application) l.fn.rings.items
