-- What went into a ring, and what came out of it.
use Rattle.std.specs.Prelude.{◌≡◌, ℕ, List}
use Rattle.devices.specs.declared.effect.Effect.{Effect}
use Rattle.flusher.specs.Released.{effects_of_all}
use Rattle.rtrb.specs.Ends.{SameRing}
use Rattle.rtrb.specs.Ring.{sent, received, known_free, known_items, all_sent, IsFinishedOf, IsPair}
use Rattle.rtrb.specs.Ring.{SameConsumer, SameProducer}
use Rattle.outbox.specs.declared.ends.Outlet.{Outlet}
use Rattle.outbox.specs.declared.ends.Inlet.{Inlet}
use Rattle.outbox.specs.declared.ends.Ended.{Ended}

-- the effects that were put, in order
abbrev pub put_in : Outlet → List Effect
put_in outlet = effects_of_all (sent outlet.producer)

-- for how many more effects room is known to exist
abbrev pub room_of : Outlet → ℕ
room_of outlet = known_free outlet.producer

-- the effects that were taken, in order
abbrev pub taken_from : Inlet → List Effect
taken_from inlet = effects_of_all (received inlet.consumer)

-- those that are seen in the ring, in order
abbrev pub seen_by : Inlet → List Effect
seen_by inlet = effects_of_all (known_items inlet.consumer)

-- everything that was ever put
abbrev pub all_put : Ended → List Effect
all_put ended = effects_of_all (all_sent ended.finished)

-- the two ends of one ring
abbrev pub AreEnds : Outlet → Inlet → Type 0
AreEnds outlet inlet = IsPair outlet.producer inlet.consumer

-- the word is of this end, and says what was put
abbrev pub Ends : Outlet → Ended → Type 0
Ends outlet ended =
    SameRing outlet.producer.end ended.finished.end × (all_put ended ≡ put_in outlet)

-- the word is of this inlet's ring
abbrev pub IsEndOf : Ended → Inlet → Type 0
IsEndOf ended inlet = IsFinishedOf ended.finished inlet.consumer

-- an end remains the end of its ring
abbrev pub SameOutlet : Outlet → Outlet → Type 0
SameOutlet old new = SameProducer old.producer new.producer

abbrev pub SameInlet : Inlet → Inlet → Type 0
SameInlet old new = SameConsumer old.consumer new.consumer

abbrev pub SameEnded : Ended → Ended → Type 0
SameEnded old new = SameRing old.finished.end new.finished.end
