-- the copies so far come before those that are left
use Rattle.std.proofs.Common.{◌≡◌, ◌++◌, drop, filter, not}
use Rattle.dedup.specs.Groups.{is_in_group}
use Rattle.world_model.proofs.gathering.part.Given as goal

abbrev pub invariant-loop-arrival : goal.invariant-loop-arrival
invariant-loop-arrival l =
    (l.joined.items ++ filter (is_in_group l.first) (drop l.arrival-index l.rest) ≡ filter (is_in_group l.first) l.rest)
    × (l.others.items ++ filter (λ a. not (is_in_group l.first a)) (drop l.arrival-index l.rest) ≡ filter (λ a. not (is_in_group l.first a)) l.rest)
