-- How many of the messages so far are copies.
use Rattle.std.proofs.Common.{◌≡◌, ◌≤◌, take}
use Rattle.lnsd_threads.specs.Hearing.{copies_in}
use Rattle.lnsd_threads.proofs.reading.copies_in.Given as goal

abbrev pub invariant-loop-message : goal.invariant-loop-message
invariant-loop-message l =
    (l.copies ≡ copies_in (take l.message-index l.messages.items)) × (l.copies ≤ l.message-index)
