-- The events that have had their turns and those that are left are all events, and there is room
-- for the other turns.
use Rattle.std.proofs.Common.{◌≡◌, ◌≤◌, ◌+◌, ◌++◌, length, map, vec_capacity}
use Rattle.world.specs.Answers.{event_of}
use Rattle.world.specs.Follows.{MovesThrough}
use Rattle.world.specs.Sound.{IsSoundLife}
use Rattle.world.proofs.life.Life.go_through.Given as goal

abbrev pub invariant-loop-event : goal.invariant-loop-event
invariant-loop-event g l =
    let state = g.D.Disk.state in
    IsSoundLife state l.self
    × ((l.self.commits ≡ l.fn.self.commits)
    × ((l.self.store ≡ l.fn.self.store)
    × (MovesThrough state l.fn.self l.moment l.turns.items l.self
    × ((map event_of l.turns.items ++ l.event-iterator.rest.items ≡ l.fn.events.items)
    × (length l.turns.items + length l.event-iterator.rest.items ≤ vec_capacity l.turns)))))
