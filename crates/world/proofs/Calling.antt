-- What a device call does to what is begun, and to a course.
use Rattle.std.proofs.Common.{◌≡◌, ◌+◌, ◌-◌, ◌≤◌, ◌∙◌, inl, inr, ℕ, zero, suc, Bool, true, false, if◌then◌else◌, List, [], ◌∷◌, ◌++◌, Option, Some, None, length, sym, ap, subst, refl, arith, length-append}
use Rattle.std.proofs.lemmas.List.{length-map}
use Rattle.devices.specs.declared.command.Command.{Command}
use Rattle.disk.specs.State.{EveryImage}
use Rattle.flusher.specs.Released.{decisions_of}
use Rattle.flusher.specs.declared.durable.Durable.{Durable as Done}
use Rattle.flusher.specs.declared.room.Room.{Room}
use Rattle.sessions.specs.Table.{TableState, fold_of}
use Rattle.sessions.specs.Decision.{commands_of, with_decisions}
use Rattle.sessions.specs.declared.decision.Decision.{Decision}
use Rattle.session_core.specs.State.{DecisionsState}
use Rattle.store.specs.Flights.{Flight, MayLeave, Stage, all_failed, all_succeeded, durable_in, in_flight}
use Rattle.store.specs.Image.{HoldsTable}
use Rattle.store.specs.Phases.{durable_decisions}
use Rattle.store.specs.Publishing.{calls_left}
use Rattle.store.specs.State.{StoreState}
use Rattle.store.specs.UnderWay.{HasDurable, HoldsLeft, IsOnDisk, IsOnDiskAfter, IsOnItsWayAfter, checkpoint_calls, checkpoint_calls_after, flight, flights_after, flights_in}
use Rattle.store.specs.declared.publishing.Publishing.{Publishing}
use Rattle.store.specs.declared.publishing.Publishing.TheVariants as publishings
use Rattle.store.specs.declared.under_way.Called.{Called}
use Rattle.store.specs.declared.under_way.Called.TheVariants as calls
use Rattle.store.specs.declared.under_way.UnderWay.{UnderWay}
use Rattle.store.specs.declared.under_way.UnderWay.TheVariants as ways
use Rattle.world.specs.declared.answer.Answer.{Answer}
use Rattle.world.specs.declared.commit.LastCommit.TheVariants as commits
use Rattle.world.specs.declared.commit.Pipeline.{Pipeline}
use Rattle.world.specs.Folding.{RunLaws}
use Rattle.world.specs.Course.{Checkpoint, Origin, Course, after_call, after_failed_call, checkpoint_after_call, checkpoint_after_failure, number_from, table_from, with_calls_left}
use Rattle.world.specs.Course.Checkpoint.{CallFailed}
use Rattle.world.specs.Answers.{AnswersCall, CallsFor, IsCalled}
use Rattle.world.specs.Commits.{FitFlights, GoesOn, IsAlone, IsBehind, MayGoOn, flights_ahead, flights_begun, flights_of, settled_ahead}
use Rattle.world.specs.Follows.{AreAt, HasFailed, IsHealthy, IsLife}
use Rattle.world.specs.Sound.{HasRoomForEach}
use Rattle.world.proofs.Flights.{as_many, durable_left, flying_failed, flying_moved, leaves_from, stored_from}
use Rattle.world.proofs.Commands.{durable_of, failed_of, fit_failed, fit_succeeded, front_failed, front_leaves, front_stored, front_succeeded, kept_folds, leaves_of, succeeded_of}

-- an image holds the same by equal names
pub held : (t t' : TableState) (n n' : ℕ) (image : List ℕ) → t ≡ t' → n ≡ n' → HoldsTable t n image → HoldsTable t' n' image
held t t' n n' image table number holds = subst (λ n. HoldsTable t' n image) number (subst (λ t. HoldsTable t n image) table holds)

-- ---- how much is under way

sum_of : (b : Bool) → 1 ≤ (if b then 6 else 4)
sum_of true = omega arith
sum_of false = omega arith

pub some_calls : (s : StoreState) (phase : Publishing) → 1 ≤ calls_left s phase
some_calls s (publishings.Begun phase) = sum_of s.log.other_open
some_calls s (publishings.Retiring phase) = omega arith
some_calls s (publishings.Written phase) = omega arith
some_calls s (publishings.Synced phase) = omega arith
some_calls s (publishings.Opened phase) = omega arith

-- at most two batches are
few_in : (u : UnderWay Room) → length (flights_in u) ≤ 2
few_in (ways.Begun phase room) = omega arith
few_in (ways.Written phase room) = omega arith
few_in (ways.BodySynced phase room) = omega arith
few_in (ways.GateWritten phase room) = omega arith
few_in (ways.Following opened room following behind) = omega arith
few_in (ways.Paired phase room behind) = omega arith
few_in (ways.Checkpoint phase) = omega arith

-- and at least one, if no checkpoint is
some_in : (s : StoreState) (u : UnderWay Room) → checkpoint_calls s u ≡ 0 → 1 ≤ length (flights_in u)
some_in s (ways.Begun phase room) none = omega arith
some_in s (ways.Written phase room) none = omega arith
some_in s (ways.BodySynced phase room) none = omega arith
some_in s (ways.GateWritten phase room) none = omega arith
some_in s (ways.Following opened room following behind) none = omega arith
some_in s (ways.Paired phase room behind) none = omega arith
some_in s (ways.Checkpoint phase) none = let some = some_calls s phase in absurd (omega (arith, some, none))

-- none of them is durable
none_durable : (u : UnderWay Room) (settled : List Command) → durable_in settled (flights_of (flights_in u)) ≡ settled
none_durable (ways.Begun phase room) settled = refl
none_durable (ways.Written phase room) settled = refl
none_durable (ways.BodySynced phase room) settled = refl
none_durable (ways.GateWritten phase room) settled = refl
none_durable (ways.Following opened room following behind) settled = refl
none_durable (ways.Paired phase room behind) settled = refl
none_durable (ways.Checkpoint phase) settled = refl

no_calls : (s : StoreState) (u : UnderWay Room) → 1 ≤ length (flights_in u) → checkpoint_calls s u ≡ 0
no_calls s (ways.Begun phase room) some = refl
no_calls s (ways.Written phase room) some = refl
no_calls s (ways.BodySynced phase room) some = refl
no_calls s (ways.GateWritten phase room) some = refl
no_calls s (ways.Following opened room following behind) some = refl
no_calls s (ways.Paired phase room behind) some = refl
no_calls s (ways.Checkpoint phase) some = absurd (omega (arith, some))

-- ---- the answer to a call

calls_for : (n : ℕ) (answer : Answer) → 1 ≤ n → IsCalled answer → CallsFor (with_calls_left n) answer
calls_for zero answer some is = absurd (omega (arith, some))
calls_for (suc n) answer some is = is

callable : (s : StoreState) (ahead : Option Done) (u : UnderWay Room) (answer : Answer) → IsBehind ahead (commits.UnderWay u) → IsCalled answer
    → AnswersCall (flights_of (flights_ahead ahead) ++ flights_of (flights_in u)) (with_calls_left (checkpoint_calls s u)) answer
callable s None (ways.Begun phase room) answer alone is = is
callable s None (ways.Written phase room) answer alone is = is
callable s None (ways.BodySynced phase room) answer alone is = is
callable s None (ways.GateWritten phase room) answer alone is = is
callable s None (ways.Following opened room following behind) answer alone is = is
callable s None (ways.Paired phase room behind) answer alone is = is
callable s None (ways.Checkpoint phase) answer alone is = calls_for (calls_left s phase) answer (some_calls s phase) is
callable s (Some durable) (ways.Begun phase room) answer alone is = is
callable s (Some durable) (ways.Written phase room) answer alone is = is
callable s (Some durable) (ways.BodySynced phase room) answer alone is = is
callable s (Some durable) (ways.GateWritten phase room) answer alone is = is
callable s (Some durable) (ways.Following opened room following behind) answer alone is = is
callable s (Some durable) (ways.Paired phase room behind) answer alone is = is
callable s (Some durable) (ways.Checkpoint phase) answer alone is = absurd (omega (arith, alone))

-- what has failed then
failed_left : (n : ℕ) → 1 ≤ n → checkpoint_after_failure (with_calls_left n) ≡ CallFailed
failed_left zero some = absurd (omega (arith, some))
failed_left (suc n) some = refl

has_failed : (s : StoreState) (ahead : Option Done) (u : UnderWay Room) → IsBehind ahead (commits.UnderWay u)
    → HasFailed (flights_of (all_failed (flights_in u))) ahead (checkpoint_after_failure (with_calls_left (checkpoint_calls s u)))
has_failed s ahead (ways.Begun phase room) alone = (inl refl, refl)
has_failed s ahead (ways.Written phase room) alone = (inl refl, refl)
has_failed s ahead (ways.BodySynced phase room) alone = (inr refl, refl)
has_failed s ahead (ways.GateWritten phase room) alone = (inr refl, refl)
has_failed s None (ways.Following opened room following behind) alone = (refl, (refl, refl))
has_failed s None (ways.Paired phase room behind) alone = (refl, (refl, refl))
has_failed s None (ways.Checkpoint phase) alone = failed_left (calls_left s phase) (some_calls s phase)
has_failed s (Some durable) (ways.Following opened room following behind) alone = absurd (omega (arith, alone))
has_failed s (Some durable) (ways.Paired phase room behind) alone = absurd (omega (arith, alone))
has_failed s (Some durable) (ways.Checkpoint phase) alone = absurd (omega (arith, alone))

-- one call of a checkpoint fewer
call_less : (n : ℕ) → checkpoint_after_call (with_calls_left n) ≡ with_calls_left (n - 1)
call_less zero = refl
call_less (suc n) = refl

-- ---- a life in which something is under way
module _ (laws : RunLaws) (origin : Origin) (c : Course) (s s' : StoreState) (core : DecisionsState) (ahead : Option Done) (u : UnderWay Room)
    (f : IsLife origin c s core (record { ahead = ahead; last = commits.UnderWay u })) where
  flights_are : c.flights ≡ flights_of (flights_ahead ahead) ++ flights_of (flights_in u)
  flights_are = f.under_way.flights_are ∙ ap (λ l. flights_of (flights_ahead ahead) ++ l) f.under_way.last.0

  fit : FitFlights (table_from origin (settled_ahead c.settled ahead)) (flights_in u)
  fit = f.under_way.last.1.0

  pub is_on : IsOnDisk s u
  is_on = f.under_way.last.1.1.0

  checkpoint_is : c.checkpoint ≡ with_calls_left (checkpoint_calls s u)
  checkpoint_is = f.under_way.last.1.1.1

  alone : durable_in c.settled c.flights ≡ settled_ahead c.settled ahead
  alone = ap (durable_in c.settled) flights_are ∙ (front_stored c.settled ahead (flights_of (flights_in u)) ∙ none_durable u (settled_ahead c.settled ahead))

  table : s.table ≡ table_from origin (settled_ahead c.settled ahead)
  table = f.table ∙ ap (table_from origin) alone

  seq : s.seq ≡ number_from origin (settled_ahead c.settled ahead)
  seq = f.seq ∙ ap (number_from origin) alone

  counted : (more : List Decision) → s.seq + length more ≡ number_from origin (settled_ahead c.settled ahead ++ commands_of more)
  counted more =
      let whole = length-append (settled_ahead c.settled ahead) (commands_of more) in
      let size = length-map more (λ (d : Decision). d.command) in
      let before = seq in
      omega (arith, whole, size, before)

  -- what may be left of these leaves the fold of its commands
  folded : (flights : List (Flight Decision)) (kept : List Decision) → FitFlights (table_from origin (settled_ahead c.settled ahead)) flights
      → MayLeave [] flights kept
      → with_decisions s.table kept ≡ table_from origin (settled_ahead c.settled ahead ++ commands_of kept)
  folded flights kept fits leaves =
      kept_folds laws s.table [] flights kept refl (subst (λ t. FitFlights t flights) (sym table) fits) leaves
      ∙ (ap (λ t. fold_of t (commands_of kept)) table ∙ sym (laws.joined origin.table (settled_ahead c.settled ahead) (commands_of kept)))

  -- the life after a call
  goes_on : (flights : List (Flight Decision)) (there : List (Flight Command)) (checkpoint : Checkpoint) (next : Pipeline)
      → there ≡ flights_of (flights_ahead ahead) ++ flights_of flights → in_flight there ≡ in_flight c.flights
      → FitFlights (table_from origin (settled_ahead c.settled ahead)) flights
      → HasDurable flights s s' → EveryImage s'.log.disk (HoldsLeft s flights)
      → AreAt origin c.settled there checkpoint s' next → IsHealthy s' next.last
      → IsLife origin (record c { flights = there; checkpoint = checkpoint }) s' core next
  goes_on flights there checkpoint next there_is flying fits durable images at healthy =
      let settled = settled_ahead c.settled ahead in
      let stored : durable_in c.settled there ≡ settled ++ commands_of (durable_in [] flights) =
      ap (durable_in c.settled) there_is
      ∙ (front_stored c.settled ahead (flights_of flights)
      ∙ (stored_from settled (flights_of flights) ∙ ap (λ l. settled ++ l) (sym (durable_of [] flights)))) in
      record {
        table = durable.table ∙ (folded flights (durable_in [] flights) fits (durable_left [] flights) ∙ ap (table_from origin) (sym stored));
        seq = durable.seq ∙ (counted (durable_in [] flights) ∙ ap (number_from origin) (sym stored));
        base = f.base ∙ ap (λ l. table_from origin (c.settled ++ (l ++ c.given_up))) (sym flying);
        number = f.number ∙ ap (λ l. number_from origin (c.settled ++ (l ++ c.given_up))) (sym flying);
        untaken = f.untaken;
        made = f.made;
        under_way = at;
        healthy = healthy;
        survives = λ image p.
            let found = images image p in (
              settled ++ commands_of found.0,
              subst (λ l. MayLeave c.settled l (settled ++ commands_of found.0)) (sym there_is)
                  (front_leaves c.settled ahead (flights_of flights) (settled ++ commands_of found.0)
                  (leaves_from settled (flights_of flights) (commands_of found.0) (leaves_of [] flights found.0 found.1))),
              held _ _ _ _ image (folded flights found.0 fits found.1) (counted found.0) found.2,
            );
      }

  moved : all_succeeded c.flights ≡ flights_of (flights_ahead ahead) ++ flights_of (all_succeeded (flights_in u))
  moved =
      ap all_succeeded flights_are
      ∙ (front_succeeded ahead (flights_of (flights_in u)) ∙ ap (λ l. flights_of (flights_ahead ahead) ++ l) (succeeded_of (flights_in u)))

  stopped : all_failed c.flights ≡ flights_of (flights_ahead ahead) ++ flights_of (all_failed (flights_in u))
  stopped =
      ap all_failed flights_are
      ∙ (front_failed ahead (flights_of (flights_in u)) ∙ ap (λ l. flights_of (flights_ahead ahead) ++ l) (failed_of (flights_in u)))

  -- a call that succeeded is answered so
  pub call_answers : IsBehind ahead (commits.UnderWay u) → (answer : Answer) → IsCalled answer → AnswersCall c.flights c.checkpoint answer
  call_answers behind answer is =
      subst (λ k. AnswersCall c.flights k answer) (sym checkpoint_is)
      (subst (λ l. AnswersCall l (with_calls_left (checkpoint_calls s u)) answer) (sym flights_are) (callable s ahead u answer behind is))

  -- and where it leads, what is begun is where the course is
  leads : (called : Called Room) (next : Pipeline) → GoesOn ahead called next → IsAlone ahead called → flights_after called ≡ all_succeeded (flights_in u)
      → checkpoint_calls_after s' called ≡ checkpoint_calls s u - 1 → IsOnDiskAfter s' called → s'.failed ≡ s.failed
      → AreAt origin c.settled (all_succeeded c.flights) (checkpoint_after_call c.checkpoint) s' next × IsHealthy s' next.last
  leads (calls.UnderWay more) next goes alone_is flights left on same =
      let t = table_from origin (settled_ahead c.settled ahead) in
      let fits = subst (FitFlights t) (sym flights) (fit_succeeded t (flights_in u) fit) in
      let checkpoint = ap checkpoint_after_call checkpoint_is ∙ (call_less (checkpoint_calls s u) ∙ ap with_calls_left (sym left)) in
      subst (λ k. AreAt origin c.settled (all_succeeded c.flights) (checkpoint_after_call c.checkpoint) s' k × IsHealthy s' k.last) (sym goes) (
        record {
          behind = flights_of (flights_in more);
          flights_are = moved ∙ ap (λ l. flights_of (flights_ahead ahead) ++ flights_of l) (sym flights);
          fit = f.under_way.fit;
          last = (refl, (fits, (on, checkpoint)));
        },
        same ∙ f.healthy,
      )
  leads (calls.Durable durable room None) next goes alone_is flights left on same =
      let t = table_from origin (settled_ahead c.settled ahead) in
      let renamed = ap (λ ds. flight Stage.Durable ds ∷ []) goes.1 in
      let fits = subst (FitFlights t) (sym (renamed ∙ flights)) (fit_succeeded t (flights_in u) fit) in
      let checkpoint = ap checkpoint_after_call checkpoint_is ∙ (call_less (checkpoint_calls s u) ∙ ap with_calls_left (sym left)) in
      subst (λ k. AreAt origin c.settled (all_succeeded c.flights) (checkpoint_after_call c.checkpoint) s' k × IsHealthy s' k.last) (sym goes.2) (
        record {
          behind = flights_of (flight Stage.Durable (decisions_of goes.0) ∷ []);
          flights_are = moved ∙ ap (λ l. flights_of (flights_ahead ahead) ++ flights_of l) (sym (renamed ∙ flights));
          fit = f.under_way.fit;
          last = (refl, (fits, (on, checkpoint)));
        },
        same ∙ f.healthy,
      )
  leads (calls.Durable durable room (Some more)) next goes alone_is flights left on same =
      let t = table_from origin c.settled in
      let decisions = decisions_of goes.0 in
      let renamed : flight Stage.Durable decisions ∷ flights_in more ≡ all_succeeded (flights_in u) =
      ap (λ ds. flight Stage.Durable ds ∷ flights_in more) goes.1 ∙ flights in
      let fits : FitFlights t (flight Stage.Durable decisions ∷ flights_in more) =
      subst (FitFlights t) (sym renamed)
      (fit_succeeded t (flights_in u) (subst (λ a. FitFlights (table_from origin (settled_ahead c.settled a)) (flights_in u)) alone_is fit)) in
      let folds : with_decisions t decisions ≡ table_from origin (c.settled ++ commands_of decisions) =
      sym (laws.folding t decisions fits.0) ∙ sym (laws.joined origin.table c.settled (commands_of decisions)) in
      let checkpoint = ap checkpoint_after_call checkpoint_is ∙ (call_less (checkpoint_calls s u) ∙ ap with_calls_left (sym left)) in
      subst (λ k. AreAt origin c.settled (all_succeeded c.flights) (checkpoint_after_call c.checkpoint) s' k × IsHealthy s' k.last) (sym goes.2) (
        record {
          behind = flights_of (flights_in more);
          flights_are =
              moved
              ∙ (ap (λ a. flights_of (flights_ahead a) ++ flights_of (all_succeeded (flights_in u))) alone_is ∙ ap flights_of (sym renamed));
          fit = (fits.0, tt);
          last = (refl, (subst (λ t. FitFlights t (flights_in more)) folds fits.1, (on, checkpoint)));
        },
        same ∙ f.healthy,
      )
  leads calls.Published next goes alone_is flights left on same =
      let t = table_from origin (settled_ahead c.settled ahead) in
      let checkpoint = ap checkpoint_after_call checkpoint_is ∙ (call_less (checkpoint_calls s u) ∙ ap with_calls_left (sym left)) in
      subst (λ k. AreAt origin c.settled (all_succeeded c.flights) (checkpoint_after_call c.checkpoint) s' k × IsHealthy s' k.last) (sym goes) (
        record {
          behind = [];
          flights_are = moved ∙ ap (λ l. flights_of (flights_ahead ahead) ++ flights_of l) (sym flights);
          fit = f.under_way.fit;
          last = (refl, (tt, (on, checkpoint)));
        },
        same ∙ f.healthy,
      )

  pub call_succeeds : (called : Called Room) (next : Pipeline) → GoesOn ahead called next → IsAlone ahead called → flights_after called ≡ all_succeeded (flights_in u)
      → checkpoint_calls_after s' called ≡ checkpoint_calls s u - 1 → IsOnDiskAfter s' called → HasDurable (all_succeeded (flights_in u)) s s'
      → EveryImage s'.log.disk (HoldsLeft s (all_succeeded (flights_in u))) → s'.failed ≡ s.failed → IsLife origin (after_call c) s' core next
  call_succeeds called next goes alone_is flights left on durable images same =
      let there = leads called next goes alone_is flights left on same in
      goes_on (all_succeeded (flights_in u)) (all_succeeded c.flights) (checkpoint_after_call c.checkpoint) next moved (flying_moved c.flights)
      (fit_succeeded (table_from origin (settled_ahead c.settled ahead)) (flights_in u) fit) durable images there.0 there.1

  -- and one that failed
  pub call_fails : IsBehind ahead (commits.UnderWay u) → HasDurable (all_failed (flights_in u)) s s' → EveryImage s'.log.disk (HoldsLeft s (all_failed (flights_in u)))
      → IsLife origin (after_failed_call c) s' core (record { ahead = ahead; last = commits.Failed })
  call_fails behind durable images =
      goes_on (all_failed (flights_in u)) (all_failed c.flights) (checkpoint_after_failure c.checkpoint) (record { ahead = ahead; last = commits.Failed }) stopped (flying_failed c.flights)
      (fit_failed (table_from origin (settled_ahead c.settled ahead)) (flights_in u) fit) durable images (record {
        behind = flights_of (all_failed (flights_in u));
        flights_are = stopped;
        fit = f.under_way.fit;
        last = subst (λ k. HasFailed (flights_of (all_failed (flights_in u))) ahead (checkpoint_after_failure k)) (sym checkpoint_is) (has_failed s ahead u behind);
      }) tt

-- ---- what a call leaves sound

pub room_fewer : (more fewer : List (Flight Decision)) (there fit : ℕ) → length fewer ≤ length more → HasRoomForEach more there fit → HasRoomForEach fewer there fit
room_fewer more [] there fit size room = tt
room_fewer [] (flight ∷ flights) there fit size room = absurd (omega (arith, size))
room_fewer (other ∷ others) (flight ∷ flights) there fit size room = omega (arith, size, room)

module _ (ahead : Option Done) (u : UnderWay Room) (s s' : StoreState) (behind : IsBehind ahead (commits.UnderWay u)) where
  -- a batch that became durable before another one
  two : (durable : List Decision) (more : UnderWay Room) → flight Stage.Durable durable ∷ flights_in more ≡ all_succeeded (flights_in u)
      → checkpoint_calls s' more ≡ checkpoint_calls s u - 1 → length (flights_in u) ≡ 2
  two durable more flights left =
      let size = ap length flights ∙ as_many (flights_in u) in
      let none = no_calls s u (omega (arith, size)) in
      let few = few_in u in
      let some = some_in s' more (omega (arith, left, none)) in
      omega (arith, size, few, some)

  -- has none ahead of it
  pub is_alone : (called : Called Room) → flights_after called ≡ all_succeeded (flights_in u) → checkpoint_calls_after s' called ≡ checkpoint_calls s u - 1
      → IsAlone ahead called
  is_alone (calls.Durable durable room (Some more)) flights left = alone_at ahead behind (two (durable_decisions durable) more flights left)
    where
      alone_at : (a : Option Done) → IsBehind a (commits.UnderWay u) → length (flights_in u) ≡ 2 → a ≡ None
      alone_at None one size = refl
      alone_at (Some d) one size = absurd (omega (arith, one, size))
  is_alone called flights left = tt

  one_behind : (a : Option Done) (more : UnderWay Room) → IsBehind a (commits.UnderWay u) → length (flights_in more) ≡ length (flights_in u) → IsBehind a (commits.UnderWay more)
  one_behind None more one size = tt
  one_behind (Some d) more one size = size ∙ one

  done_behind : (a : Option Done) (durable : Done) → IsBehind a (commits.Durable durable)
  done_behind None durable = tt
  done_behind (Some d) durable = omega arith

  none_behind : (a : Option Done) → IsBehind a (commits.UnderWay u) → length (flights_in u) ≡ 0 → IsBehind a commits.Idle
  none_behind None one size = tt
  none_behind (Some d) one size = absurd (omega (arith, one, size))

  -- what is begun then is sound, and as much
  pub sound_after : (called : Called Room) (next : Pipeline) → GoesOn ahead called next → flights_after called ≡ all_succeeded (flights_in u)
      → checkpoint_calls_after s' called ≡ checkpoint_calls s u - 1 → IsOnItsWayAfter s' called
      → (MayGoOn s' next.last × IsBehind next.ahead next.last) × (length (flights_begun next) ≤ length (flights_ahead ahead ++ flights_in u))
  sound_after (calls.UnderWay more) next goes flights left way =
      let size = ap length flights ∙ as_many (flights_in u) in
      let a = length-append (flights_ahead ahead) (flights_in more) in
      let b = length-append (flights_ahead ahead) (flights_in u) in
      subst (λ k. (MayGoOn s' k.last × IsBehind k.ahead k.last) × (length (flights_begun k) ≤ length (flights_ahead ahead ++ flights_in u))) (sym goes)
      ((way, one_behind ahead more behind size), omega (arith, a, b, size))
  sound_after (calls.Durable durable room None) next goes flights left way =
      let size = ap length flights ∙ as_many (flights_in u) in
      let a = length-append (flights_ahead ahead) (flight Stage.Durable (decisions_of goes.0) ∷ []) in
      let b = length-append (flights_ahead ahead) (flights_in u) in
      subst (λ k. (MayGoOn s' k.last × IsBehind k.ahead k.last) × (length (flights_begun k) ≤ length (flights_ahead ahead ++ flights_in u))) (sym goes.2)
      ((tt, done_behind ahead goes.0), omega (arith, a, b, size))
  sound_after (calls.Durable durable room (Some more)) next goes flights left way =
      let size = ap length flights ∙ as_many (flights_in u) in
      let whole = two (durable_decisions durable) more flights left in
      let b = length-append (flights_ahead ahead) (flights_in u) in
      let one : length (flights_in more) ≡ 1 = omega (arith, size, whole) in
      subst (λ k. (MayGoOn s' k.last × IsBehind k.ahead k.last) × (length (flights_begun k) ≤ length (flights_ahead ahead ++ flights_in u))) (sym goes.2)
      ((way, one), omega (arith, b, one, whole))
  sound_after calls.Published next goes flights left way =
      let size = ap length flights ∙ as_many (flights_in u) in
      let a = length-append (flights_ahead ahead) [] in
      let b = length-append (flights_ahead ahead) (flights_in u) in
      subst (λ k. (MayGoOn s' k.last × IsBehind k.ahead k.last) × (length (flights_begun k) ≤ length (flights_ahead ahead ++ flights_in u))) (sym goes)
      ((tt, none_behind ahead behind (sym size)), omega (arith, a, b))

  -- nor is there more if the call failed
  pub fewer_then : length (flights_begun (record { ahead = ahead; last = commits.Failed })) ≤ length (flights_ahead ahead ++ flights_in u)
  fewer_then =
      let a = length-append (flights_ahead ahead) [] in
      let b = length-append (flights_ahead ahead) (flights_in u) in
      omega (arith, a, b)

pub failed_behind : (ahead : Option Done) → IsBehind ahead commits.Failed
failed_behind None = tt
failed_behind (Some durable) = tt
