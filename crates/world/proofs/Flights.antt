-- What the batches under way leave.
use Rattle.std.proofs.Common.{◌≡◌, ◌∙◌, ◌⊎◌, inl, inr, arith, List, [], ◌∷◌, ◌++◌, length, take, sym, ap, subst, refl, append_assoc}
use Rattle.std.proofs.lemmas.List.{append-nil, take_at}
use Rattle.devices.specs.declared.command.Command.{Command}
use Rattle.devices.specs.declared.effect.Effect.{Effect}
use Rattle.sessions.specs.Table.{effects_of}
use Rattle.world.specs.Folding.{RunLaws}
use Rattle.store.specs.Flights.{ByStage, Flight, MayLeave, Stage, all_failed, all_succeeded, durable_in, in_flight, with_durable}
use Rattle.store.specs.Flights.Stage.{Begun, GateWritten, Durable, Unsure}
use Rattle.world.specs.Course.{Origin, Course, decided_commands, table_from, effects_from}
use Rattle.world.specs.Answers.{Leaves}
use Rattle.sessions.specs.Marks.{IsSubsequence}

-- a call changes nothing of what is in the batches
pub flying_moved : {X : Type 0} (flights : List (Flight X)) → in_flight (all_succeeded flights) ≡ in_flight flights
flying_moved [] = refl
flying_moved (flight ∷ []) = refl
flying_moved (flight ∷ next ∷ rest) = ap (λ l. flight.batch ++ l) (flying_moved (next ∷ rest))

pub flying_failed : {X : Type 0} (flights : List (Flight X)) → in_flight (all_failed flights) ≡ in_flight flights
flying_failed [] = refl
flying_failed (flight ∷ flights) = ap (λ l. flight.batch ++ l) (flying_failed flights)

-- nor of how many there are
pub as_many : {X : Type 0} (flights : List (Flight X)) → length (all_succeeded flights) ≡ length flights
as_many [] = refl
as_many (flight ∷ []) = refl
as_many (flight ∷ next ∷ rest) = let more = as_many (next ∷ rest) in omega (arith, more)

pub as_many_failed : {X : Type 0} (flights : List (Flight X)) → length (all_failed flights) ≡ length flights
as_many_failed [] = refl
as_many_failed (flight ∷ flights) = let more = as_many_failed flights in omega (arith, more)

with_behind : {X : Type 0} (stage : Stage) (a b more rest : List X) → more ≡ a ++ rest → with_durable stage (a ++ b) more ≡ a ++ with_durable stage b rest
with_behind Durable a b more rest is = is
with_behind stage a b more rest is = refl

stored_behind : {X : Type 0} (a b : List X) (flights : List (Flight X)) → durable_in (a ++ b) flights ≡ a ++ durable_in b flights
stored_behind a b [] = refl
stored_behind a b (flight ∷ flights) =
    with_behind flight.stage a b _ _ (ap (λ l. durable_in l flights) (append_assoc a b flight.batch) ∙ stored_behind a (b ++ flight.batch) flights)

-- what is stored, after what is settled
pub stored_from : {X : Type 0} (settled : List X) (flights : List (Flight X)) → durable_in settled flights ≡ settled ++ durable_in [] flights
stored_from settled flights = ap (λ l. durable_in l flights) (sym (append-nil settled)) ∙ stored_behind settled [] flights

pub by_stage : (stage : Stage) (X Y Z X' Y' Z' : Type 0) → (X → X') → (Y → Y') → (Z → Z') → ByStage stage X Y Z → ByStage stage X' Y' Z'
by_stage Durable X Y Z X' Y' Z' f g h x = f x
by_stage GateWritten X Y Z X' Y' Z' f g h x = g x
by_stage Unsure X Y Z X' Y' Z' f g h x = g x
by_stage stage X Y Z X' Y' Z' f g h x = h x

leaves_behind : {X : Type 0} (a b : List X) (flights : List (Flight X)) (kept : List X) → MayLeave b flights kept → MayLeave (a ++ b) flights (a ++ kept)
leaves_behind a b [] kept h = ap (λ l. a ++ l) h
leaves_behind a b (flight ∷ flights) kept h =
    let back : (a ++ b) ++ flight.batch ≡ a ++ (b ++ flight.batch) = append_assoc a b flight.batch in
    by_stage flight.stage _ _ _ _ _ _
    (λ there. subst (λ l. MayLeave l flights (a ++ kept)) (sym back) (leaves_behind a (b ++ flight.batch) flights kept there))
    (λ doubtful. elim doubtful [
      | inl is ↦ inl (ap (λ l. a ++ l) is)
      | inr is ↦ inr (ap (λ l. a ++ l) is ∙ sym back)
    ])
    (λ is. ap (λ l. a ++ l) is) h

-- what may be left, after what is settled
pub leaves_from : {X : Type 0} (settled : List X) (flights : List (Flight X)) (kept : List X) → MayLeave [] flights kept → MayLeave settled flights (settled ++ kept)
leaves_from settled flights kept h = subst (λ l. MayLeave l flights (settled ++ kept)) (append-nil settled) (leaves_behind settled [] flights kept h)

-- what is left are the settled commands and the first n of those under way, for some n
pub record Beginning (settled flying kept : List Command) : Type 0 where
  pub more : List Command
  pub rest : List Command
  pub kept_is : kept ≡ settled ++ more
  pub flying_is : flying ≡ more ++ rest

pub by_case : (stage : Stage) (X Y Z P : Type 0) → (X → P) → (Y → P) → (Z → P) → ByStage stage X Y Z → P
by_case Durable X Y Z P f g h x = f x
by_case GateWritten X Y Z P f g h x = g x
by_case Unsure X Y Z P f g h x = g x
by_case stage X Y Z P f g h x = h x

without : (settled first others kept : List Command) → kept ≡ settled → Beginning settled (first ++ others) kept
without settled first others kept is = record { more = []; rest = first ++ others; kept_is = is ∙ sym (append-nil settled); flying_is = refl }

behind : (settled first others kept : List Command) → Beginning (settled ++ first) others kept → Beginning settled (first ++ others) kept
behind settled first others kept found = record {
  more = first ++ found.more;
  rest = found.rest;
  kept_is = found.kept_is ∙ append_assoc settled first found.more;
  flying_is = ap (λ l. first ++ l) found.flying_is ∙ sym (append_assoc first found.more found.rest);
}

begins : (settled : List Command) (flights : List (Flight Command)) (kept : List Command) → MayLeave settled flights kept → Beginning settled (in_flight flights) kept
begins settled [] kept is = record { more = []; rest = []; kept_is = is ∙ sym (append-nil settled); flying_is = refl }
begins settled (flight ∷ flights) kept h =
    by_case flight.stage _ _ _ (Beginning settled (flight.batch ++ in_flight flights) kept)
    (λ there. behind settled flight.batch (in_flight flights) kept (begins (settled ++ flight.batch) flights kept there))
    (λ doubtful. elim doubtful [
      | inl is ↦ without settled flight.batch (in_flight flights) kept is
      | inr is ↦ record { more = flight.batch; rest = in_flight flights; kept_is = is; flying_is = refl }
    ])
    (without settled flight.batch (in_flight flights) kept) h

-- what a crash leaves is the first n decided commands, for some n
pub kept_front : (c : Course) (kept : List Command) → Leaves c kept → take (length kept) (decided_commands c) ≡ kept
kept_front c kept leaves =
    let found = begins c.settled c.flights kept leaves in
    let lost = c.given_up ++ c.untaken in
    let whole : decided_commands c ≡ kept ++ (found.rest ++ lost) =
    ap (λ l. c.settled ++ (l ++ lost)) found.flying_is
    ∙ (ap (λ l. c.settled ++ l) (append_assoc found.more found.rest lost)
    ∙ (sym (append_assoc c.settled found.more (found.rest ++ lost)) ∙ ap (λ l. l ++ (found.rest ++ lost)) (sym found.kept_is))) in
    ap (take (length kept)) whole ∙ take_at kept (found.rest ++ lost) (length kept) refl

-- all that is settled is part of it
pub kept_settled : (c : Course) (kept : List Command) → Leaves c kept → take (length c.settled) kept ≡ c.settled
kept_settled c kept leaves =
    let found = begins c.settled c.flights kept leaves in
    ap (take (length c.settled)) found.kept_is ∙ take_at c.settled found.more (length c.settled) refl

-- it holds every command of which an effect has left
pub kept_once : (laws : RunLaws) (origin : Origin) (c : Course) (left : List Effect) (kept : List Command) → Leaves c kept
    → IsSubsequence left (effects_from origin c.settled) → IsSubsequence left (effects_from origin kept)
kept_once laws origin c left kept leaves once =
    let found = begins c.settled c.flights kept leaves in
    let more = effects_of (table_from origin c.settled) found.more in
    let whole : effects_from origin kept ≡ effects_from origin c.settled ++ more =
    ap (effects_from origin) found.kept_is
    ∙ laws.joined_effects origin.table c.settled found.more in
    subst (IsSubsequence left) (sym whole) (laws.longer left (effects_from origin c.settled) more once)

-- a batch that is begun after others changes nothing of these
pub stored_begun : {X : Type 0} (settled : List X) (flights : List (Flight X)) (batch : List X)
    → durable_in settled (flights ++ record { batch = batch; stage = Begun } ∷ []) ≡ durable_in settled flights
stored_begun settled [] batch = refl
stored_begun settled (flight ∷ flights) batch = ap (with_durable flight.stage settled) (stored_begun (settled ++ flight.batch) flights batch)

pub leaves_begun : {X : Type 0} (settled : List X) (flights : List (Flight X)) (batch kept : List X) → MayLeave settled flights kept
    → MayLeave settled (flights ++ record { batch = batch; stage = Begun } ∷ []) kept
leaves_begun settled [] batch kept is = is
leaves_begun settled (flight ∷ flights) batch kept h =
    by_stage flight.stage _ _ _ _ _ _ (λ there. leaves_begun (settled ++ flight.batch) flights batch kept there) (λ doubtful. doubtful) (λ gone. gone) h

pub flying_begun : {X : Type 0} (flights : List (Flight X)) (batch : List X)
    → in_flight (flights ++ record { batch = batch; stage = Begun } ∷ []) ≡ in_flight flights ++ batch
flying_begun [] batch = append-nil batch
flying_begun (flight ∷ flights) batch = ap (λ l. flight.batch ++ l) (flying_begun flights batch) ∙ sym (append_assoc flight.batch (in_flight flights) batch)

-- what is durable may be left
durable_at : {X : Type 0} (stage : Stage) (settled batch : List X) (flights : List (Flight X))
    → MayLeave (settled ++ batch) flights (durable_in (settled ++ batch) flights)
    → ByStage stage (MayLeave (settled ++ batch) flights (with_durable stage settled (durable_in (settled ++ batch) flights)))
    ((with_durable stage settled (durable_in (settled ++ batch) flights) ≡ settled)
    ⊎ (with_durable stage settled (durable_in (settled ++ batch) flights) ≡ settled ++ batch))
    (with_durable stage settled (durable_in (settled ++ batch) flights) ≡ settled)
durable_at Durable settled batch flights h = h
durable_at GateWritten settled batch flights h = inl refl
durable_at Unsure settled batch flights h = inl refl
durable_at stage settled batch flights h = refl

pub durable_left : {X : Type 0} (settled : List X) (flights : List (Flight X)) → MayLeave settled flights (durable_in settled flights)
durable_left settled [] = refl
durable_left settled (flight ∷ flights) = durable_at flight.stage settled flight.batch flights (durable_left (settled ++ flight.batch) flights)
