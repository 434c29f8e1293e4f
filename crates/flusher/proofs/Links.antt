-- Where a chain stands before each device call.
use Rattle.std.proofs.Common.{◌≡◌, ◌≢◌, ◌≤◌, ◌+◌, ◌-◌, ◌*◌, ◌∙◌, ℕ, suc, Bool, true, false, MatchResult, List, [], ◌∷◌, ◌++◌, length, Option, Some, Result, Ok, Err, sym, ap, subst, refl, arith, length-append}
use Rattle.std.specs.Prelude.{if◌then◌else◌}
use Rattle.std.proofs.lemmas.List.{length_push}
use Rattle.devices.specs.declared.effect.Effect.{Effect}
use Rattle.disk.specs.declared.disk.Disk.{Ghosts}
use Rattle.lw_types.specs.declared.refusal.Refusal.{Refusal}
use Rattle.sessions.specs.Decision.{IsLegalContinuation, commands_of, effects_in, with_decisions}
use Rattle.sessions.specs.Table.{TableState, effects_of}
use Rattle.sessions.specs.declared.batch.TheConstants.Batch.{MOST}
use Rattle.sessions.specs.declared.decision.Decision.{Decision}
use Rattle.store.specs.Flights.{Flight, Stage, all_succeeded, durable_in}
use Rattle.store.specs.Phases.{begun_sequel, durable_decisions}
use Rattle.store.specs.Publishing.{calls_left}
use Rattle.store.specs.State.{IsOneCall, IsSettled, StoreState, store_state}
use Rattle.store.specs.UnderWay.{IsNextCall, IsOnDisk, IsOnItsWay, checkpoint_calls, flight, flights_behind, flights_in}
use Rattle.store.specs.declared.phases.Begun.{Begun as BegunBatch}
use Rattle.store.specs.declared.phases.Durable.{Durable}
use Rattle.store.specs.declared.phases.GateWritten.{GateWritten as Opened}
use Rattle.store.specs.declared.publishing.Publishing.{Publishing}
use Rattle.store.specs.declared.publishing.Publishing.TheVariants as publishing
use Rattle.store.specs.declared.store.Store.{Store}
use Rattle.store.specs.declared.under_way.Called.TheVariants as called
use Rattle.store.specs.declared.under_way.UnderWay.{UnderWay}
use Rattle.store.specs.declared.under_way.UnderWay.TheVariants.{Begun, Written, BodySynced, GateWritten, Following, Paired, Checkpoint}
use Rattle.flusher.specs.declared.room.Room.{Room}
use Rattle.flusher.specs.Calls.{NoneFailed}
use Rattle.flusher.specs.Chain.{FollowsOpened, GivesAll, FeedGives, IsFollowRefusal, LeaveInOrder, NoneFollows, batched_decisions}
use Rattle.flusher.specs.Cycle.{Commits}
use Rattle.flusher.proofs.Calling.{none_then, one_call}
use Rattle.flusher.proofs.Chains.{FoldLaws, batches_of, batches_stay, commits_more, decisions_then, failed_durable, first_legal, gives_more, leave_more, none_durable, none_durable_behind, rank_of}

-- what the call on the store's disk needs and keeps, whatever the feed gave
pub record IsFlying {D : Type 0} (disk : Ghosts D) (old now : Store D disk) (under_way : UnderWay Room) (more count : ℕ) : Type 0 where
  pub way : IsOnItsWay (store_state disk.state now) under_way
  pub some : 1 ≤ length (flights_in under_way)
  pub bound : count + 64 * (more + length (flights_in under_way)) ≤ 262144
  pub calls : NoneFailed disk.failures disk.outlook old now
  pub on_disk : disk.honest → IsSettled (store_state disk.state old) → IsOnDisk (store_state disk.state now) under_way
  pub generation : disk.honest → IsSettled (store_state disk.state old) → (store_state disk.state now).log.generation ≡ (store_state disk.state old).log.generation

-- what the feed was asked after the batches that are under way: nothing, unless only the gate is to
-- be synced
abbrev pub IsBehind : {F : Type 0} → FeedGives F → ℕ → StoreState → F → F → UnderWay Room → Result (Unit {0}) Refusal → Type 0
IsBehind gives more s here feed (GateWritten opened along) end =
    MatchResult end (λ _. NoneFollows gives more s opened here feed) (λ e. IsFollowRefusal gives more s opened here feed e)
IsBehind gives more s here feed under_way end = (feed ≡ here) × (end ≡ Ok tt)

-- which batches came from the feed, and what became of them
pub record IsUpTo {D F C V : Type 0} (disk : Ghosts D) (gives : FeedGives F) (effects : V → List Effect) (call : C → V → C → Type 0) (most : ℕ)
    (old now : Store D disk) (before feed : F) (old_out out : C) (under_way : UnderWay Room) (more count : ℕ) (end : Result (Unit {0}) Refusal) : Type 0 where
  pub done : List (List Decision)
  pub mid : F
  pub here : F
  pub given : GivesAll gives before done mid
  pub taken : GivesAll gives mid (batches_of (flights_in under_way)) here
  pub number : length done + length (flights_in under_way) + more ≡ most
  pub commits : Commits (store_state disk.state old) (store_state disk.state now) (batched_decisions done)
  pub leave : LeaveInOrder effects call (store_state disk.state old).table done old_out out
  pub counted : count ≡ length (batched_decisions done)
  pub behind : IsBehind gives more (store_state disk.state now) here feed under_way end

-- ---- what a call makes of the batches under way

module _ {D : Type 0} (disk : Ghosts D) (now new : Store D disk) (under_way : UnderWay Room) where
  abbrev pub s : StoreState
  s = store_state disk.state now

  abbrev pub s' : StoreState
  s' = store_state disk.state new

  length_stays : (flights : List (Flight Decision)) → length (all_succeeded flights) ≡ length flights
  length_stays [] = refl
  length_stays (f ∷ []) = refl
  length_stays (f ∷ g ∷ rest) = ap suc (length_stays (g ∷ rest))

  -- none is durable yet
  module _ (next : UnderWay Room) (e : IsNextCall disk now under_way (Ok (called.UnderWay next)) new) where
    pub next_length : length (flights_in next) ≡ length (flights_in under_way)
    next_length = ap length e.flights ∙ length_stays (flights_in under_way)

    pub next_batches : batches_of (flights_in next) ≡ batches_of (flights_in under_way)
    next_batches = ap batches_of e.flights ∙ batches_stay (flights_in under_way)

    none_yet : durable_in [] (all_succeeded (flights_in under_way)) ≡ []
    none_yet = ap (durable_in []) (sym e.flights) ∙ none_durable next []

    pub next_table : s'.table ≡ s.table
    next_table = e.durable.table ∙ ap (with_decisions s.table) none_yet

    pub next_seq : s'.seq ≡ s.seq
    next_seq = let is = e.durable.seq in let zero = ap (length {A = Decision}) none_yet in omega (arith, is, zero)

  -- the oldest one is
  module _ (durable : Durable) (along : Room) (behind : Option (UnderWay Room)) (e : IsNextCall disk now under_way (Ok (called.Durable durable along behind)) new) where
    pub durable_batches : batches_of (flights_in under_way) ≡ durable_decisions durable ∷ batches_of (flights_behind behind)
    durable_batches = sym (ap batches_of e.flights ∙ batches_stay (flights_in under_way))

    pub durable_length : 1 + length (flights_behind behind) ≡ length (flights_in under_way)
    durable_length = let is = ap (length {A = Flight Decision}) e.flights in let same = length_stays (flights_in under_way) in omega (arith, is, same)

    one : durable_in [] (all_succeeded (flights_in under_way)) ≡ durable_decisions durable
    one = ap (durable_in []) (sym e.flights) ∙ none_durable_behind behind (durable_decisions durable)

    pub durable_table : s'.table ≡ with_decisions s.table (durable_decisions durable)
    durable_table = e.durable.table ∙ ap (with_decisions s.table) one

    pub durable_seq : s'.seq ≡ s.seq + length (durable_decisions durable)
    durable_seq = e.durable.seq ∙ ap (λ (ds : List Decision). s.seq + length ds) one

  -- the call failed
  module _ (refusal : Refusal) (e : IsNextCall disk now under_way (Err refusal) new) where
    pub failed_table : s'.table ≡ s.table
    failed_table = e.durable.table ∙ ap (with_decisions s.table) (failed_durable under_way)

    pub failed_seq : s'.seq ≡ s.seq
    failed_seq = let is = e.durable.seq in let zero = ap (length {A = Decision}) (failed_durable under_way) in omega (arith, is, zero)

abbrev pub IsDurable : Stage → Type 0
IsDurable Stage.Durable = Unit {0}
IsDurable stage = ⊥

abbrev pub BeginsDurable : List (Flight Decision) → Type 0
BeginsDurable [] = ⊥
BeginsDurable (flight ∷ flights) = IsDurable flight.stage

-- no batch that is under way is durable
no_durable : (next : UnderWay Room) → BeginsDurable (flights_in next) → ⊥
no_durable (Begun phase along) is = is
no_durable (Written phase along) is = is
no_durable (BodySynced phase along) is = is
no_durable (GateWritten phase along) is = is
no_durable (Following opened along following behind) is = is
no_durable (Paired phase along behind) is = is
no_durable (Checkpoint phase) is = is

-- each call reduces the number of those that are left by one
pub rank_succeeded : (under_way : UnderWay Room) → 1 ≤ length (flights_in under_way) → rank_of (all_succeeded (flights_in under_way)) + 1 ≡ rank_of (flights_in under_way)
rank_succeeded (Begun phase along) some = refl
rank_succeeded (Written phase along) some = refl
rank_succeeded (BodySynced phase along) some = refl
rank_succeeded (GateWritten phase along) some = refl
rank_succeeded (Following opened along following behind) some = refl
rank_succeeded (Paired phase along behind) some = refl
rank_succeeded (Checkpoint phase) some = absurd (omega (arith, some))

pub rank_less : (under_way next : UnderWay Room) → 1 ≤ length (flights_in under_way) → flights_in next ≡ all_succeeded (flights_in under_way)
    → rank_of (flights_in next) + 1 ≡ rank_of (flights_in under_way)
rank_less under_way next some is = ap (λ fs. rank_of fs + 1) is ∙ rank_succeeded under_way some

-- after a durable batch only the others are under way
pub some_behind : (here there : StoreState) (under_way next : UnderWay Room) → 1 ≤ length (flights_in under_way)
    → checkpoint_calls there next ≡ checkpoint_calls here under_way - 1 → 1 ≤ length (flights_in next)
some_behind here there under_way (Begun phase along) some calls = omega arith
some_behind here there under_way (Written phase along) some calls = omega arith
some_behind here there under_way (BodySynced phase along) some calls = omega arith
some_behind here there under_way (GateWritten phase along) some calls = omega arith
some_behind here there under_way (Following opened along following behind) some calls = omega arith
some_behind here there under_way (Paired phase along behind) some calls = omega arith
some_behind here there under_way (Checkpoint phase) some calls = absurd (no_calls phase (calls ∙ none under_way some))
  where
    either : (b : Bool) → ◌≡◌ {A = ℕ} (if b then 6 else 4) 0 → ⊥
    either true is = omega (arith, is)
    either false is = omega (arith, is)

    no_calls : (phase : Publishing) → calls_left there phase ≡ 0 → ⊥
    no_calls (publishing.Begun phase) is = either there.log.other_open is
    no_calls (publishing.Retiring phase) is = omega (arith, is)
    no_calls (publishing.Written phase) is = omega (arith, is)
    no_calls (publishing.Synced phase) is = omega (arith, is)
    no_calls (publishing.Opened phase) is = omega (arith, is)

    none : (u : UnderWay Room) → 1 ≤ length (flights_in u) → checkpoint_calls here u - 1 ≡ 0
    none (Begun phase along) some = refl
    none (Written phase along) some = refl
    none (BodySynced phase along) some = refl
    none (GateWritten phase along) some = refl
    none (Following opened along following behind) some = refl
    none (Paired phase along behind) some = refl
    none (Checkpoint phase) some = absurd (omega (arith, some))

-- ---- the steps of a chain

module _ {D : Type 0} (disk : Ghosts D) (old now new : Store D disk) (under_way : UnderWay Room) (more count : ℕ) (flying : IsFlying disk old now under_way more count) where
  abbrev here : StoreState
  here = store_state disk.state now

  abbrev there : StoreState
  there = store_state disk.state new

  -- a call succeeded, and no batch is durable by it
  module _ (next : UnderWay Room) (e : IsNextCall disk now under_way (Ok (called.UnderWay next)) new)
      (call : IsOneCall disk.failures disk.outlook now new (Ok (called.UnderWay next))) where
    long : length (flights_in next) ≡ length (flights_in under_way)
    long = next_length disk now new under_way next e

    pub flying_next : IsFlying disk old new next more count
    flying_next = record {
      way = e.way;
      some = let some = flying.some in omega (arith, long, some);
      bound = subst (λ n. count + 64 * (more + n) ≤ 262144) (sym long) flying.bound;
      calls = none_then disk.failures disk.outlook old now new flying.calls (one_call disk.failures disk.outlook now new (Ok (called.UnderWay next)) call);
      on_disk = λ honest settled. e.on_disk honest (flying.on_disk honest settled);
      generation = λ honest settled. e.generation honest (flying.on_disk honest settled) ∙ flying.generation honest settled;
    }

    module _ {F C V : Type 0} (gives : FeedGives F) (effects : V → List Effect) (step : C → V → C → Type 0) (most : ℕ)
        (before feed : F) (old_out out : C) (end : Result (Unit {0}) Refusal)
        (up_to : IsUpTo disk gives effects step most old now before feed old_out out under_way more count end) where
      -- the value on which the call was made isn't a gate alone
      pub none_behind : (feed ≡ up_to.here) × (end ≡ Ok tt)
      none_behind = by under_way e.flights up_to.behind
        where
          by : (u : UnderWay Room) → flights_in next ≡ all_succeeded (flights_in u) → IsBehind gives more here up_to.here feed u end → (feed ≡ up_to.here) × (end ≡ Ok tt)
          by (GateWritten opened along) is behind = absurd (no_durable next (subst BeginsDurable (sym is) tt))
          by (Begun phase along) is behind = behind
          by (Written phase along) is behind = behind
          by (BodySynced phase along) is behind = behind
          by (Following opened along following last) is behind = behind
          by (Paired phase along last) is behind = behind
          by (Checkpoint phase) is behind = behind

      -- with what the feed was asked then
      pub up_to_asked : (more' : ℕ) (feed' : F) (end' : Result (Unit {0}) Refusal) → more' ≡ more
          → IsBehind gives more' there up_to.here feed' next end' → IsUpTo disk gives effects step most old new before feed' old_out out next more' count end'
      up_to_asked more' feed' end' same behind = record {
        done = up_to.done;
        mid = up_to.mid;
        here = up_to.here;
        given = up_to.given;
        taken = subst (λ l. GivesAll gives up_to.mid l up_to.here) (sym (next_batches disk now new under_way next e)) up_to.taken;
        number = let number = up_to.number in omega (arith, long, same, number);
        commits = record {
          continues = up_to.commits.continues;
          table = next_table disk now new under_way next e ∙ up_to.commits.table;
          seq = next_seq disk now new under_way next e ∙ up_to.commits.seq;
        };
        leave = up_to.leave;
        counted = up_to.counted;
        behind = behind;
      }

  -- the gate of the only batch under way was written, and the batch after it begun
  module _ (opened : Opened) (along : Room) (e : IsNextCall disk now under_way (Ok (called.UnderWay (GateWritten opened along))) new)
      (call : IsOneCall disk.failures disk.outlook now new (Ok (called.UnderWay (GateWritten opened along))))
      {F C V : Type 0} (gives : FeedGives F) (effects : V → List Effect) (step : C → V → C → Type 0) (most : ℕ)
      (before feed feed' : F) (old_out out : C) (end : Result (Unit {0}) Refusal) (following : BegunBatch) (last : Room) (follows : FollowsOpened gives more there opened feed feed' following) where
    abbrev next : UnderWay Room
    next = GateWritten opened along

    pub flying_follows : IsFlying disk old new (Following opened along following last) (more - 1) count
    flying_follows =
        let f = flying_next next e call in
        let bound = f.bound in
        let some = follows.more_may in
        record {
          way = (f.way, follows.may);
          some = omega arith;
          bound = omega (arith, bound, some);
          calls = f.calls;
          on_disk = λ honest settled. (f.on_disk honest settled, follows.on_disk);
          generation = f.generation;
        }

    pub up_to_follows : IsUpTo disk gives effects step most old now before feed old_out out under_way more count end
        → IsUpTo disk gives effects step most old new before feed' old_out out (Following opened along following last) (more - 1) count end
    up_to_follows up_to =
        let behind = none_behind next e call gives effects step most before feed old_out out end up_to in
        let number = up_to.number in
        let same = long next e call in
        let some = follows.more_may in
        let taken = subst (λ l. GivesAll gives up_to.mid l up_to.here) (sym (next_batches disk now new under_way next e)) up_to.taken in
        record {
          done = up_to.done;
          mid = up_to.mid;
          here = feed';
          given = up_to.given;
          taken =
              gives_more gives up_to.mid up_to.here feed' (batches_of (flights_in next)) ((begun_sequel following).decisions ∷ []) taken
              (subst (λ f. GivesAll gives f ((begun_sequel following).decisions ∷ []) feed') behind.0 follows.given);
          number = omega (arith, same, number, some);
          commits = record {
            continues = up_to.commits.continues;
            table = next_table disk now new under_way next e ∙ up_to.commits.table;
            seq = next_seq disk now new under_way next e ∙ up_to.commits.seq;
          };
          leave = up_to.leave;
          counted = up_to.counted;
          behind = (refl, behind.1);
        }

  -- the oldest batch is durable by a call, and others go on
  module _ (durable : Durable) (along : Room) (next : UnderWay Room) (e : IsNextCall disk now under_way (Ok (called.Durable durable along (Some next))) new)
      (call : IsOneCall disk.failures disk.outlook now new (Ok (called.Durable durable along (Some next)))) (many : ℕ) (few : many ≤ 64) where
    shorter : 1 + length (flights_in next) ≡ length (flights_in under_way)
    shorter = durable_length disk now new under_way durable along (Some next) e

    pub flying_durable : IsFlying disk old new next more (count + many)
    flying_durable = record {
      way = e.way;
      some = some_behind here there under_way next flying.some e.calls;
      bound = let bound = flying.bound in omega (arith, bound, shorter, few);
      calls = none_then disk.failures disk.outlook old now new flying.calls (one_call disk.failures disk.outlook now new (Ok (called.Durable durable along (Some next))) call);
      on_disk = λ honest settled. e.on_disk honest (flying.on_disk honest settled);
      generation = λ honest settled. e.generation honest (flying.on_disk honest settled) ∙ flying.generation honest settled;
    }

-- the batch that is durable is one more that is done
module _ (laws : FoldLaws) {D F C V : Type 0} (disk : Ghosts D) (gives : FeedGives F) (effects : V → List Effect) (step : C → V → C → Type 0) (most : ℕ)
    (old now new : Store D disk) (before feed : F) (old_out mid_out out : C) (under_way : UnderWay Room) (more count : ℕ) (end : Result (Unit {0}) Refusal)
    (flying : IsFlying disk old now under_way more count)
    (up_to : IsUpTo disk gives effects step most old now before feed old_out mid_out under_way more count end)
    (durable : Durable) (along : Room) (behind : Option (UnderWay Room)) (e : IsNextCall disk now under_way (Ok (called.Durable durable along behind)) new)
    (released : V) (all : effects released ≡ effects_in (durable_decisions durable)) (made : step mid_out released out) where
  abbrev pub batch : List Decision
  batch = durable_decisions durable

  abbrev pub s0 : StoreState
  s0 = store_state disk.state old

  abbrev pub s1 : StoreState
  s1 = store_state disk.state now

  abbrev pub s2 : StoreState
  s2 = store_state disk.state new

  pub split : (x : F) × ((batch ≢ []) × gives up_to.mid MOST (Ok batch) x) × GivesAll gives x (batches_of (flights_behind behind)) up_to.here
  split = subst (λ l. GivesAll gives up_to.mid l up_to.here) (durable_batches disk now new under_way durable along behind e) up_to.taken

  pub legal : IsLegalContinuation s1.table s1.seq batch
  legal = first_legal s1 under_way batch (batches_of (flights_behind behind)) (durable_batches disk now new under_way durable along behind e) flying.way

  abbrev pub done' : List (List Decision)
  done' = up_to.done ++ batch ∷ []

  pub commits' : Commits s0 s2 (batched_decisions done')
  commits' =
      commits_more laws s0 s1 s2 up_to.done batch up_to.commits legal (durable_table disk now new under_way durable along behind e)
      (durable_seq disk now new under_way durable along behind e)

  pub given' : GivesAll gives before done' split.0
  given' = gives_more gives before up_to.mid split.0 up_to.done (batch ∷ []) up_to.given (split.0, split.1, refl)

  pub leave' : LeaveInOrder effects step s0.table done' old_out out
  leave' =
      leave_more laws effects step s0.table up_to.done batch old_out mid_out out released up_to.leave
      (all ∙ (sym (laws.effects s1.table batch legal.continues.fit) ∙ ap (λ (t : TableState). effects_of t (commands_of batch)) up_to.commits.table)) made

  pub counted' : (many : ℕ) → many ≡ length batch → count + many ≡ length (batched_decisions done')
  counted' many is =
      let before = up_to.counted in
      let long = ap (length {A = Decision}) (decisions_then up_to.done batch) ∙ length-append (batched_decisions up_to.done) batch in
      omega (arith, is, before, long)

  -- and the others go on
  pub up_to_durable : (next : UnderWay Room) (is : behind ≡ Some next) (many : ℕ) → many ≡ length batch → IsBehind gives more s2 up_to.here feed next end
      → IsUpTo disk gives effects step most old new before feed old_out out next more (count + many) end
  up_to_durable next is many counts last = record {
    done = done';
    mid = split.0;
    here = up_to.here;
    given = given';
    taken = subst (λ b. GivesAll gives split.0 (batches_of (flights_behind b)) up_to.here) is split.2;
    number =
        let number = up_to.number in
        let long = length_push up_to.done batch in
        let shorter = durable_length disk now new under_way durable along behind e in
        let same = ap (λ b. length (flights_behind b)) is in
        omega (arith, number, long, shorter, same);
    commits = commits';
    leave = leave';
    counted = counted' many counts;
    behind = last;
  }

abbrev IsStageBodySynced : Stage → Type 0
IsStageBodySynced Stage.BodySynced = Unit {0}
IsStageBodySynced stage = ⊥

abbrev SecondIsBodySynced : List (Flight Decision) → Type 0
SecondIsBodySynced (first ∷ second ∷ flights) = IsStageBodySynced second.stage
SecondIsBodySynced flights = ⊥

-- after a batch that is durable by a shared sync the feed hasn't been asked yet
pub pair_behind : {F : Type 0} (gives : FeedGives F) (more : ℕ) (s s' : StoreState) (here feed : F) (end : Result (Unit {0}) Refusal) (under_way next : UnderWay Room) (ds : List Decision)
    → flight Stage.Durable ds ∷ flights_in next ≡ all_succeeded (flights_in under_way) → 1 ≤ length (flights_in next)
    → IsBehind gives more s here feed under_way end → IsBehind gives more s' here feed next end
pair_behind gives more s s' here feed end under_way next ds is some behind = by under_way is behind
  where
    one : (n : ℕ) → suc (length (flights_in next)) ≡ n → n ≡ 1 → ⊥
    one n long single = omega (arith, long, single, some)

    at : (next : UnderWay Room) → SecondIsBodySynced (flight Stage.Durable ds ∷ flights_in next) → (feed ≡ here) × (end ≡ Ok tt) → IsBehind gives more s' here feed next end
    at (Begun phase along) second behind = behind
    at (Written phase along) second behind = behind
    at (BodySynced phase along) second behind = behind
    at (GateWritten opened along) second behind = absurd second
    at (Following opened along following last) second behind = behind
    at (Paired phase along last) second behind = behind
    at (Checkpoint phase) second behind = behind

    by : (u : UnderWay Room) → flight Stage.Durable ds ∷ flights_in next ≡ all_succeeded (flights_in u) → IsBehind gives more s here feed u end → IsBehind gives more s' here feed next end
    by (Begun phase along) is behind = absurd (one 1 (ap (length {A = Flight Decision}) is) refl)
    by (Written phase along) is behind = absurd (one 1 (ap (length {A = Flight Decision}) is) refl)
    by (BodySynced phase along) is behind = absurd (one 1 (ap (length {A = Flight Decision}) is) refl)
    by (GateWritten opened along) is behind = absurd (one 1 (ap (length {A = Flight Decision}) is) refl)
    by (Following opened along following last) is behind = absurd (subst BeginsDurable is tt)
    by (Paired phase along last) is behind = at next (subst SecondIsBodySynced (sym is) tt) behind
    by (Checkpoint phase) is behind = absurd (subst BeginsDurable is tt)

-- what isn't a gate alone
pub not_alone : {F : Type 0} (gives : FeedGives F) (more : ℕ) (s : StoreState) (at_feed feed : F) (end : Result (Unit {0}) Refusal) (next : UnderWay Room)
    → ((opened : Opened) (along : Room) → next ≢ GateWritten opened along) → (feed ≡ at_feed) × (end ≡ Ok tt) → IsBehind gives more s at_feed feed next end
not_alone gives more s at_feed feed end (Begun phase along) other behind = behind
not_alone gives more s at_feed feed end (Written phase along) other behind = behind
not_alone gives more s at_feed feed end (BodySynced phase along) other behind = behind
not_alone gives more s at_feed feed end (GateWritten opened along) other behind = absurd (other opened along refl)
not_alone gives more s at_feed feed end (Following opened along following last) other behind = behind
not_alone gives more s at_feed feed end (Paired phase along last) other behind = behind
not_alone gives more s at_feed feed end (Checkpoint phase) other behind = behind

-- each call reduces the number of those that are left by one, even if a batch is durable by it
pub rank_durable : (under_way next : UnderWay Room) (ds : List Decision) → flight Stage.Durable ds ∷ flights_in next ≡ all_succeeded (flights_in under_way)
    → 1 ≤ length (flights_in next) → rank_of (flights_in next) + 1 ≡ rank_of (flights_in under_way)
rank_durable under_way next ds is some = by under_way is
  where
    tail : (flight : Flight Decision) (flights : List (Flight Decision)) → 1 ≤ length flights → rank_of (flight ∷ flights) ≡ rank_of flights
    tail flight [] some = absurd (omega (arith, some))
    tail flight (f ∷ flights) some = refl

    one : (n : ℕ) → suc (length (flights_in next)) ≡ n → n ≡ 1 → ⊥
    one n long single = omega (arith, long, single, some)

    by : (u : UnderWay Room) → flight Stage.Durable ds ∷ flights_in next ≡ all_succeeded (flights_in u) → rank_of (flights_in next) + 1 ≡ rank_of (flights_in u)
    by (Begun phase along) is = absurd (one 1 (ap (length {A = Flight Decision}) is) refl)
    by (Written phase along) is = absurd (one 1 (ap (length {A = Flight Decision}) is) refl)
    by (BodySynced phase along) is = absurd (one 1 (ap (length {A = Flight Decision}) is) refl)
    by (GateWritten opened along) is = absurd (one 1 (ap (length {A = Flight Decision}) is) refl)
    by (Following opened along following last) is = absurd (subst BeginsDurable is tt)
    by (Paired phase along last) is =
        let same = tail (flight Stage.Durable ds) (flights_in next) some in
        let two = ap rank_of is in
        omega (arith, same, two)
    by (Checkpoint phase) is = absurd (subst BeginsDurable is tt)
