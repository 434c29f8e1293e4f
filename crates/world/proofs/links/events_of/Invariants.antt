-- the events of the messages that are left come after the events so far; if all messages have none,
-- so have those that are left
use Rattle.std.proofs.Common.{◌++◌, [], List}
use Rattle.session_core.specs.declared.event.Event.{Event}
use Rattle.world.specs.Links.{AreHandedIn}
use Rattle.world.proofs.links.events_of.Given as goal

abbrev pub invariant-loop-message : goal.invariant-loop-message
invariant-loop-message l =
    ((others : List Event) → AreHandedIn l.speaker l.message-iterator.rest.items others
    → AreHandedIn l.fn.peer l.fn.messages.items (l.events.items ++ others))
    × (AreHandedIn l.fn.peer l.fn.messages.items []
    → AreHandedIn l.speaker l.message-iterator.rest.items [])
