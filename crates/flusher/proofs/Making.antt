-- How many calls of the disk a chain has made.
use Rattle.std.proofs.Common.{◌≡◌, ◌≢◌, ◌⊎◌, ◌≤◌, ◌+◌, ◌-◌, ◌*◌, ◌∙◌, ℕ, List, [], ◌∷◌, length, Some, None, Ok, Err, inl, inr, ap, sym, subst, refl, arith}
use Rattle.std.proofs.lemmas.Bool.{le-leb, lt-leb}
use Rattle.std.specs.Prelude.{if◌then◌else◌}
use Rattle.disk.specs.declared.disk.Disk.{Ghosts}
use Rattle.lw_types.specs.declared.refusal.Refusal.{Refusal}
use Rattle.sessions.specs.declared.decision.Decision.{Decision}
use Rattle.store.specs.Flights.{Stage, all_succeeded}
use Rattle.store.specs.State.{IsOneCall, IsRoomy, StoreState, disk_of, store_state}
use Rattle.store.specs.UnderWay.{IsNextCall, flight, flights_in}
use Rattle.store.specs.declared.phases.Begun.{Begun as BegunBatch}
use Rattle.store.specs.declared.phases.Durable.{Durable}
use Rattle.store.specs.declared.phases.GateWritten.{GateWritten as Opened}
use Rattle.store.specs.declared.store.Store.{Store}
use Rattle.store.specs.declared.store.TheConstants.{LARGEST_BATCH}
use Rattle.store.specs.declared.under_way.Called.TheVariants as called
use Rattle.store.specs.declared.under_way.UnderWay.{UnderWay}
use Rattle.store.specs.declared.under_way.UnderWay.TheVariants.{Begun, Written, BodySynced, GateWritten, Following, Paired, Checkpoint}
use Rattle.flusher.specs.declared.room.Room.{Room}
use Rattle.flusher.specs.Calls.{HasFailedWithin, HaveSucceeded, calls_of_room}
use Rattle.flusher.specs.Chain.{calls_of_batches}
use Rattle.flusher.proofs.Calling.{one_more, then_fails}
use Rattle.flusher.proofs.Chains.{rank_of}
use Rattle.flusher.proofs.Links.{next_length, rank_durable, rank_less, rank_succeeded}

-- ---- those that make room

pub no_calls_of_room : (s : StoreState) → IsRoomy s → calls_of_room s ≡ 0
no_calls_of_room s roomy =
    ap (λ b. if b then 0 else (if s.log.other_open then 6 else 4)) (le-leb (s.log.next + LARGEST_BATCH) s.log.areas.live.end roomy)

pub all_calls_of_room : (s : StoreState) → ¬ (IsRoomy s) → calls_of_room s ≡ (if s.log.other_open then 6 else 4)
all_calls_of_room s full =
    ap (λ b. if b then 0 else (if s.log.other_open then 6 else 4))
    (lt-leb (s.log.next + LARGEST_BATCH) s.log.areas.live.end (omega (arith, full)))

-- ---- those that commit batches

pub some_calls : (batches : List (List Decision)) → batches ≢ [] → calls_of_batches batches ≡ 3 * length batches + 1
some_calls [] some = absurd (some refl)
some_calls (batch ∷ batches) some = refl

calls_at_least : (batches : List (List Decision)) (n : ℕ) → (length batches ≡ 0) ⊎ (3 * length batches + 1 ≤ n) → calls_of_batches batches ≤ n
calls_at_least [] n is = omega arith
calls_at_least (batch ∷ batches) n (inl none) = absurd (omega (arith, none))
calls_at_least (batch ∷ batches) n (inr less) = less

-- with those that are left, four for the youngest batch, these are as many as are made in total
pub record HasMade {D : Type 0} (disk : Ghosts D) (old now : Store D disk) (under_way : UnderWay Room) (most more : ℕ) : Type 0 where
  pub made : ℕ
  pub foreseen : HaveSucceeded made (disk.outlook (disk_of old)) (disk.outlook (disk_of now))
  pub left : made + rank_of (flights_in under_way) + 3 * more ≡ 3 * most + 1
  pub late : (made ≡ 0) ⊎ (rank_of (flights_in under_way) ≤ 3 * length (flights_in under_way))

rank_most : (under_way : UnderWay Room) → rank_of (flights_in under_way) ≤ 4
rank_most (Begun phase along) = omega arith
rank_most (Written phase along) = omega arith
rank_most (BodySynced phase along) = omega arith
rank_most (GateWritten phase along) = omega arith
rank_most (Following opened along following behind) = omega arith
rank_most (Paired phase along behind) = omega arith
rank_most (Checkpoint phase) = omega arith

-- a second batch is begun or written
rank_least : (under_way : UnderWay Room) → 3 * length (flights_in under_way) ≤ rank_of (flights_in under_way) + 3
rank_least (Begun phase along) = omega arith
rank_least (Written phase along) = omega arith
rank_least (BodySynced phase along) = omega arith
rank_least (GateWritten phase along) = omega arith
rank_least (Following opened along following behind) = omega arith
rank_least (Paired phase along behind) = omega arith
rank_least (Checkpoint phase) = omega arith

module _ {D : Type 0} (disk : Ghosts D) (old now new : Store D disk) (under_way : UnderWay Room) (most more : ℕ)
    (some : 1 ≤ length (flights_in under_way)) (m : HasMade disk old now under_way most more) where
  -- a call succeeded, and no batch is durable by it
  pub made_next : (next : UnderWay Room) → IsNextCall disk now under_way (Ok (called.UnderWay next)) new → IsOneCall disk.failures disk.outlook now new (Ok (called.UnderWay next))
      → HasMade disk old new next most more
  made_next next e call =
      let less = rank_less under_way next some e.flights in
      let long = next_length disk now new under_way next e in
      let left = m.left in
      let few = rank_most under_way in
      record {
        made = m.made + 1;
        foreseen = one_more m.made (disk.outlook (disk_of old)) (disk.outlook (disk_of now)) (disk.outlook (disk_of new)) m.foreseen call.foreseen;
        left = omega (arith, left, less);
        late = inr (omega (arith, less, few, long, some));
      }

  -- and a batch was begun after the one whose gate was written by it
  pub made_follows : (opened : Opened) (along : Room) (following : BegunBatch) (last : Room)
      → IsNextCall disk now under_way (Ok (called.UnderWay (GateWritten opened along))) new
      → IsOneCall disk.failures disk.outlook now new (Ok (called.UnderWay (GateWritten opened along))) → more ≢ 0
      → HasMade disk old new (Following opened along following last) most (more - 1)
  made_follows opened along following last e call some_more =
      let m = made_next (GateWritten opened along) e call in
      let left = m.left in
      record {
        made = m.made;
        foreseen = m.foreseen;
        left = omega (arith, left, some_more);
        late = inr (omega arith);
      }

  -- the oldest batch is durable by a call, and others go on
  pub made_durable : (durable : Durable) (along : Room) (next : UnderWay Room) (ds : List Decision)
      → flight Stage.Durable ds ∷ flights_in next ≡ all_succeeded (flights_in under_way) → 1 ≤ length (flights_in next)
      → IsOneCall disk.failures disk.outlook now new (Ok (called.Durable durable along (Some next))) → HasMade disk old new next most more
  made_durable durable along next ds is others call =
      let less = rank_durable under_way next ds is others in
      let left = m.left in
      let few = rank_most under_way in
      record {
        made = m.made + 1;
        foreseen = one_more m.made (disk.outlook (disk_of old)) (disk.outlook (disk_of now)) (disk.outlook (disk_of new)) m.foreseen call.foreseen;
        left = omega (arith, left, less);
        late = inr (omega (arith, less, few, others));
      }

  -- ---- the number of calls at the end

  module _ (roomy : IsRoomy (store_state disk.state old)) (done : List (List Decision)) (number : length done + length (flights_in under_way) + more ≡ most) where
    abbrev room : ℕ
    room = calls_of_room (store_state disk.state old)

    -- the last batch is durable, which was under way alone
    pub made_all : (durable : Durable) (along : Room) (ds : List Decision) (batches : List (List Decision)) → flight Stage.Durable ds ∷ [] ≡ all_succeeded (flights_in under_way)
        → length (flights_in under_way) ≡ 1 → batches ≢ [] → length batches ≡ length done + 1
        → IsOneCall disk.failures disk.outlook now new (Ok (called.Durable durable along None))
        → HaveSucceeded (room + calls_of_batches batches) (disk.outlook (disk_of old)) (disk.outlook (disk_of new))
    made_all durable along ds batches is one not_none long call =
        let last : rank_of (flights_in under_way) ≡ 1 = sym (rank_succeeded under_way some) ∙ ap (λ fs. rank_of fs + 1) (sym is) in
        let none = no_calls_of_room (store_state disk.state old) roomy in
        let these = some_calls batches not_none in
        let left = m.left in
        subst (λ n. HaveSucceeded n (disk.outlook (disk_of old)) (disk.outlook (disk_of new)))
        (let all : m.made + 1 ≡ room + calls_of_batches batches = omega (arith, last, none, these, left, number, one, long) in all)
        (one_more m.made (disk.outlook (disk_of old)) (disk.outlook (disk_of now)) (disk.outlook (disk_of new)) m.foreseen call.foreseen)

    -- a call failed
    pub made_within : {T : Type 0} (refusal : Refusal) → IsOneCall {T = T} disk.failures disk.outlook now new (Err refusal)
        → HasFailedWithin (room + calls_of_batches done) (room + 3 * length done + 5) (disk.outlook (disk_of old)) (disk.outlook (disk_of new))
    made_within refusal call =
        let none = no_calls_of_room (store_state disk.state old) roomy in
        let left = m.left in
        let few = rank_most under_way in
        let many = rank_least under_way in
        let least = calls_at_least done m.made (elim m.late [
          | inl zero ↦ inl (omega (arith, zero, left, few, number, some))
          | inr late ↦ inr (omega (arith, late, left, number))
        ]) in (
          m.made,
          (
            omega (arith, none, least),
            (
              omega (arith, none, left, many, number),
              then_fails m.made (disk.outlook (disk_of old)) (disk.outlook (disk_of now)) (disk.outlook (disk_of new)) m.foreseen call.foreseen,
            ),
          ),
        )
