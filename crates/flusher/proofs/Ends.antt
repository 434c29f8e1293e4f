-- How a chain ends.
use Rattle.std.proofs.Common.{◌≡◌, ◌≢◌, ◌⊎◌, ◌<◌, ◌≤◌, ◌+◌, ◌∙◌, ℕ, Bool, true, false, MatchBool, MatchResult, List, [], ◌∷◌, ◌++◌, length, None, Result, Ok, Err, inl, inr, sym, ap, subst, refl, arith}
use Rattle.std.proofs.lemmas.List.{length_push}
use Rattle.devices.specs.declared.effect.Effect.{Effect}
use Rattle.disk.specs.declared.disk.Disk.{Ghosts}
use Rattle.lw_types.specs.declared.refusal.Refusal.{Refusal}
use Rattle.lw_types.specs.declared.refusal.Refusal.TheVariants.{DeviceFailed, Failed, OutOfMemory, OutOfStep}
use Rattle.sessions.specs.Decision.{IsLegalContinuation, effects_in, with_decisions}
use Rattle.sessions.specs.Table.{TableState}
use Rattle.sessions.specs.declared.batch.TheConstants.Batch.{MOST}
use Rattle.sessions.specs.declared.decision.Decision.{Decision}
use Rattle.store.specs.Commit.{Tip, tip_behind, tip_of}
use Rattle.store.specs.Flights.{Flight, MayLeave, Stage, all_failed, all_succeeded}
use Rattle.store.specs.Image.{HoldsTable}
use Rattle.store.specs.Pairing.{IsRoomyBehind}
use Rattle.store.specs.Phases.{begun_sequel, body_synced_sequel, durable_decisions, gate_written_sequel, gate_written_size, written_sequel}
use Rattle.store.specs.Pairing.{following_sequel, paired_sequel}
use Rattle.store.specs.State.{IsOneCall, IsRoomy, IsSettled, StoreState, disk_of, store_state}
use Rattle.store.specs.UnderWay.{HasTip, HoldsLeft, IsNextCall, IsOnItsWay, flight, flights_in}
use Rattle.store.specs.declared.phases.Durable.{Durable}
use Rattle.store.specs.declared.phases.GateWritten.{GateWritten as Opened}
use Rattle.store.specs.declared.store.Store.{Store}
use Rattle.store.specs.declared.under_way.Called.{Called}
use Rattle.store.specs.declared.under_way.Called.TheVariants as called
use Rattle.store.specs.declared.under_way.UnderWay.{UnderWay}
use Rattle.store.specs.declared.under_way.UnderWay.TheVariants.{Begun, Written, BodySynced, GateWritten, Following, Paired, Checkpoint}
use Rattle.flusher.specs.declared.room.Room.{Room}
use Rattle.flusher.specs.Calls.{HaveSucceeded, IsUntouched, LastFailed, NoneFailed, calls_of_room}
use Rattle.flusher.specs.Chain.HasBroken.{FeedRefused, HadNoRoom, WasUncommitted}
use Rattle.flusher.specs.Chain.{GivesAll, FeedGives, HasBroken, HasEnded, IsChainOfSome, IsFollowRefusal, LeaveInOrder, NoneFollows, calls_of_batches, batched_decisions, store_behind, store_behind_opened}
use Rattle.flusher.specs.Cycle.{Commits, HoldsWithOrWithout, IsUncommitted}
use Rattle.flusher.proofs.Calling.{calls_then, none_then, one_call}
use Rattle.flusher.proofs.Chains.{FoldLaws, batches_of}
use Rattle.flusher.proofs.Holding.{held_along, with_or_without_along}
use Rattle.flusher.proofs.Links.{BeginsDurable, IsBehind, IsFlying, IsUpTo, commits', counted', durable_length, failed_seq, failed_table, given', leave', split}
use Rattle.flusher.proofs.Living.{IsOnDisk as IsSettledOnDisk}
use Rattle.flusher.proofs.Making.{HasMade, made_all, made_within}

-- ---- a call failed

-- the oldest batch under way, of which it is then unknown whether it is left
pub record IsTorn {F : Type 0} (gives : FeedGives F) (more : ℕ) (s : StoreState) (mid feed : F) (under_way : UnderWay Room) : Type 0 where
  pub torn : List Decision
  pub next : F
  pub given : GivesAll gives mid (torn ∷ []) next
  pub asked : (feed ≡ next) ⊎ ((1 < length (flights_in under_way) + more) × ((answer : Result (List Decision) Refusal) × gives next MOST answer feed))
  pub legal : IsLegalContinuation s.table s.seq torn
  pub left : (kept : List Decision) → MayLeave [] (all_failed (flights_in under_way)) kept → (kept ≡ []) ⊎ (kept ≡ torn)

module _ {F : Type 0} (gives : FeedGives F) (more : ℕ) (s : StoreState) (mid here feed : F) (end : Result (Unit {0}) Refusal) where
  abbrev Asked : F → Type 0
  Asked next = (feed ≡ next) ⊎ ((more ≢ 0) × ((answer : Result (List Decision) Refusal) × gives next MOST answer feed))

  asked_alone : (opened : Opened) (end : Result (Unit {0}) Refusal)
      → MatchResult end (λ _. NoneFollows gives more s opened here feed) (λ e. IsFollowRefusal gives more s opened here feed e) → Asked here
  asked_alone opened (Ok x) (inl (same, why)) = inl same
  asked_alone opened (Ok x) (inr (some, given)) = inr (some, (Ok [], given))
  asked_alone opened (Err e) (some, (room, inl (same, why))) = inl same
  asked_alone opened (Err e) (some, (room, inr (inl given))) = inr (some, (Err e, given))
  asked_alone opened (Err e) (some, (room, inr (inr (batch, ((next, (has, given), is), why))))) =
      inr (some, (Ok batch, subst (λ f. gives here MOST (Ok batch) f) is given))

  pub torn_of : (under_way : UnderWay Room) → 1 ≤ length (flights_in under_way) → GivesAll gives mid (batches_of (flights_in under_way)) here
      → IsBehind gives more s here feed under_way end → IsOnItsWay s under_way → IsTorn gives more s mid feed under_way
  torn_of (Begun phase along) some taken behind way = record {
    torn = (begun_sequel phase).decisions;
    next = here;
    given = taken;
    asked = inl behind.0;
    legal = way.legal;
    left = λ kept left. inl left;
  }
  torn_of (Written phase along) some taken behind way = record {
    torn = (written_sequel phase).decisions;
    next = here;
    given = taken;
    asked = inl behind.0;
    legal = way.legal;
    left = λ kept left. inl left;
  }
  torn_of (BodySynced phase along) some taken behind way = record {
    torn = (body_synced_sequel phase).decisions;
    next = here;
    given = taken;
    asked = inl behind.0;
    legal = way.legal;
    left = λ kept left. left;
  }
  torn_of (GateWritten opened along) some taken behind way = record {
    torn = (gate_written_sequel opened).decisions;
    next = here;
    given = taken;
    asked = elim (asked_alone opened end behind) [
      | inl same ↦ inl same
      | inr (some, answer) ↦ inr (omega (arith, some), answer)
    ];
    legal = way.legal;
    left = λ kept left. left;
  }
  torn_of (Following opened along following last) some (next, first, (then_feed, (has, given), is)) behind way = record {
    torn = (gate_written_sequel opened).decisions;
    next = next;
    given = (next, first, refl);
    asked =
        inr (omega arith, (Ok (begun_sequel following).decisions, subst (λ f. gives next MOST (Ok (begun_sequel following).decisions) f) (is ∙ sym behind.0) given));
    legal = way.0.legal;
    left = λ kept left. left;
  }
  torn_of (Paired phase along last) some (next, first, (then_feed, (has, given), is)) behind way = record {
    torn = (paired_sequel phase).decisions;
    next = next;
    given = (next, first, refl);
    asked =
        inr (omega arith, (Ok (following_sequel phase).decisions, subst (λ f. gives next MOST (Ok (following_sequel phase).decisions) f) (is ∙ sym behind.0) given));
    legal = way.first.legal;
    left = λ kept left. left;
  }
  torn_of (Checkpoint phase) some taken behind way = absurd (omega (arith, some))

-- why a batch wasn't committed, if another store has the same table and number
pub why_not : (s t : StoreState) (batch : List Decision) (X Y : Type 0) (e : Refusal) → s.failed ≡ t.failed → s.table ≡ t.table → s.seq ≡ t.seq → (X → Y)
    → IsUncommitted s batch X e → IsUncommitted t batch Y e
why_not s t batch X Y e failed table seq step is =
    by t.failed
    (subst (λ b. Why b t.table t.seq X) failed (subst (λ (u : TableState). Why s.failed u t.seq X) table (subst (λ n. Why s.failed s.table n X) seq is)))
  where
    Why : Bool → TableState → ℕ → Type 0 → Type 0
    Why b u n Z =
        MatchBool b
        (e ≡ Failed)
        (((e ≡ OutOfStep) × (¬ (IsLegalContinuation u n batch)))
        ⊎ (IsLegalContinuation u n batch × ((e ≡ OutOfMemory) ⊎ ((e ≡ DeviceFailed) × Z))))

    by : (b : Bool) → Why b t.table t.seq X → Why b t.table t.seq Y
    by true h = h
    by false (inl h) = inl h
    by false (inr (legal, inl h)) = inr (legal, inl h)
    by false (inr (legal, inr (h, x))) = inr (legal, inr (h, step x))

legal_failed : (s : StoreState) (batch : List Decision) (X : Type 0) → s.failed ≡ false → IsLegalContinuation s.table s.seq batch → X → IsUncommitted s batch X DeviceFailed
legal_failed s batch X alive legal x =
    subst (λ b. MatchBool b (DeviceFailed ≡ Failed)
    (((DeviceFailed ≡ OutOfStep) × (¬ (IsLegalContinuation s.table s.seq batch)))
    ⊎ (IsLegalContinuation s.table s.seq batch × ((DeviceFailed ≡ OutOfMemory) ⊎ ((DeviceFailed ≡ DeviceFailed) × X))))) (sym alive)
    (inr (legal, inr (refl, x)))

module _ (laws : FoldLaws) (on_disk : IsSettledOnDisk) {D F C V : Type 0} (disk : Ghosts D) (gives : FeedGives F) (effects : V → List Effect) (step : C → V → C → Type 0) (most : ℕ)
    (old now new : Store D disk) (before feed : F) (old_out mid_out : C) (under_way : UnderWay Room) (more count : ℕ) (end : Result (Unit {0}) Refusal)
    (roomy : IsRoomy (store_state disk.state old)) (alive : (store_state disk.state old).failed ≡ false)
    (flying : IsFlying disk old now under_way more count)
    (up_to : IsUpTo disk gives effects step most old now before feed old_out mid_out under_way more count end)
    (making : HasMade disk old now under_way most more) where
  abbrev s0 : StoreState
  s0 = store_state disk.state old

  abbrev s1 : StoreState
  s1 = store_state disk.state now

  abbrev s2 : StoreState
  s2 = store_state disk.state new

  -- a call of the device failed
  pub breaks : (refusal : Refusal) → IsNextCall disk now under_way (Err refusal) new → IsOneCall {T = Called Room} disk.failures disk.outlook now new (Err refusal)
      → IsChainOfSome disk gives effects step most old new before feed old_out mid_out (Err refusal)
  breaks refusal e call =
      let torn = torn_of gives more s1 up_to.mid up_to.here feed end under_way flying.some up_to.taken up_to.behind flying.way in
      let failed =
      calls_then {T = Called Room} disk.failures disk.outlook old now new (Err refusal) flying.calls
      (one_call {T = Called Room} disk.failures disk.outlook now new (Err refusal) call) in
      let table = failed_table disk now new under_way refusal e in
      let seq = failed_seq disk now new under_way refusal e in
      let number = up_to.number in
      let some = flying.some in
      let legal : IsLegalContinuation (store_behind s0 up_to.done).table (store_behind s0 up_to.done).seq torn.torn =
      subst (λ n. IsLegalContinuation (store_behind s0 up_to.done).table n torn.torn) up_to.commits.seq
      (subst (λ (t : TableState). IsLegalContinuation t s1.seq torn.torn) up_to.commits.table torn.legal) in
      let is = failed.0 in
      let last = failed.1 in (
        record {
          batches = up_to.done;
          torn = torn.torn;
          feed = up_to.mid;
          given = up_to.given;
          few = omega (arith, number);
          commits = record { continues = up_to.commits.continues; table = table ∙ up_to.commits.table; seq = seq ∙ up_to.commits.seq };
          leave = up_to.leave;
          ends = (
            omega (arith, number, some),
            WasUncommitted (inl roomy) torn.next torn.given
                (subst (λ r. IsUncommitted (store_behind s0 up_to.done) torn.torn (LastFailed disk.failures disk.outlook old new) r) (sym is)
                (legal_failed (store_behind s0 up_to.done) torn.torn (LastFailed disk.failures disk.outlook old new) alive legal last))
                (elim torn.asked [
                  | inl same ↦ inl same
                  | inr (more_may, answer) ↦ inr (is, (omega (arith, number, more_may), answer))
                ]),
          );
          roomy = λ more none. absurd (let a = none.count in let b = last.count in omega (arith, a, b));
          calls = inr (is, last);
          made = inr (inr (made_within disk old now new under_way most more some making roomy up_to.done number refusal call));
          settled = λ honest settled none. absurd (let a = none.count in let b = last.count in omega (arith, a, b));
          images = λ honest settled image p. by_left torn.torn table seq torn.legal torn.left image (e.images honest (flying.on_disk honest settled) image p);
        },
        λ empty. torn.given.1.0,
      )
    where
      none : (image : List ℕ) (kept : List Decision) → kept ≡ [] → HoldsTable (with_decisions s1.table kept) (s1.seq + length kept) image → HoldsTable s1.table s1.seq image
      none image kept is h =
          subst (λ n. HoldsTable s1.table n image) (let zero : s1.seq + 0 ≡ s1.seq = omega arith in zero)
          (subst (λ (l : List Decision). HoldsTable (with_decisions s1.table l) (s1.seq + length l) image) is h)

      by_left : (torn : List Decision) → s2.table ≡ s1.table → s2.seq ≡ s1.seq → IsLegalContinuation s1.table s1.seq torn
          → ((kept : List Decision) → MayLeave [] (all_failed (flights_in under_way)) kept → (kept ≡ []) ⊎ (kept ≡ torn))
          → (image : List ℕ) → HoldsLeft s1 (all_failed (flights_in under_way)) image → HoldsWithOrWithout s2 torn image
      by_left torn table seq legal left image (kept, leaves, holds) = elim (left kept leaves) [
        | inl is ↦ inl (held_along s2 s1 image (sym table) (sym seq) (none image kept is holds))
        | inr is ↦
            with_or_without_along s2 s1 torn image (sym table) (sym seq)
            (inr (subst (λ t. HoldsTable t (s1.seq + length torn) image) (sym (laws.folded s1.table torn legal.continues.fit))
            (subst (λ (l : List Decision). HoldsTable (with_decisions s1.table l) (s1.seq + length l) image) is holds)))
      ]

  -- its oldest batch was synced alone
  module _ (durable : Durable) (along : Room) (e : IsNextCall disk now under_way (Ok (called.Durable durable along None)) new)
      (call : IsOneCall {T = Called Room} disk.failures disk.outlook now new (Ok (called.Durable durable along None)))
      (out : C) (released : V) (all : effects released ≡ effects_in (durable_decisions durable)) (made : step mid_out released out)
      (many : ℕ) (counted : many ≡ length (durable_decisions durable)) where
    abbrev batches : List (List Decision)
    batches = up_to.done ++ durable_decisions durable ∷ []

    -- it is the one whose gate was open
    record IsAlone : Type 0 where
      pub opened : Opened
      pub behind : MatchResult end (λ _. NoneFollows gives more s1 opened up_to.here feed) (λ e. IsFollowRefusal gives more s1 opened up_to.here feed e)
      pub tip : tip_behind s1 (gate_written_sequel opened) (gate_written_size opened) ≡ tip_of s2

    alone : IsAlone
    alone = by under_way e.flights up_to.behind (λ tip is. e.tip tip is)
      where
        by : (u : UnderWay Room) → flight Stage.Durable (durable_decisions durable) ∷ [] ≡ all_succeeded (flights_in u) → IsBehind gives more s1 up_to.here feed u end
            → ((tip : Tip) → HasTip tip s1 u → tip ≡ tip_of s2) → IsAlone
        by (GateWritten opened along) is behind tip = record { opened = opened; behind = behind; tip = tip (tip_behind s1 (gate_written_sequel opened) (gate_written_size opened)) refl }
        by (Begun phase along) is behind tip = absurd (subst BeginsDurable is tt)
        by (Written phase along) is behind tip = absurd (subst BeginsDurable is tt)
        by (BodySynced phase along) is behind tip = absurd (subst BeginsDurable is tt)
        by (Following opened along following last) is behind tip = absurd (subst BeginsDurable is tt)
        by (Paired phase along last) is behind tip = absurd (let two = ap (length {A = Flight Decision}) is in omega (arith, two))
        by (Checkpoint phase) is behind tip = absurd (subst BeginsDurable is tt)

    calls : NoneFailed disk.failures disk.outlook old new
    calls = none_then disk.failures disk.outlook old now new flying.calls (one_call {T = Called Room} disk.failures disk.outlook now new (Ok (called.Durable durable along None)) call)

    one : length (flights_in under_way) ≡ 1
    one = let is = durable_length disk now new under_way durable along None e in omega (arith, is)

    long : length batches ≡ length up_to.done + 1
    long = length_push up_to.done (durable_decisions durable)

    not_none : batches ≢ []
    not_none is = absurd (let zero = ap (length {A = List Decision}) is in omega (arith, zero, long))

    committed : Commits s0 s2 (batched_decisions batches)
    committed = commits' laws disk gives effects step most old now new before feed old_out mid_out out under_way more count end flying up_to durable along None e released all made

    came : GivesAll gives before batches up_to.here
    came =
        subst (λ f. GivesAll gives before batches f)
        (split laws disk gives effects step most old now new before feed old_out mid_out out under_way more count end flying up_to durable along None e released all made).2
        (given' laws disk gives effects step most old now new before feed old_out mid_out out under_way more count end flying up_to durable along None e released all made)

    left : LeaveInOrder effects step s0.table batches old_out out
    left = leave' laws disk gives effects step most old now new before feed old_out mid_out out under_way more count end flying up_to durable along None e released all made

    made_calls : HaveSucceeded (calls_of_room s0 + calls_of_batches batches) (disk.outlook (disk_of old)) (disk.outlook (disk_of new))
    made_calls =
        made_all disk old now new under_way most more flying.some making roomy up_to.done up_to.number durable along (durable_decisions durable) batches e.flights one not_none
        long call

    rests : disk.honest → IsSettled s0 → IsSettled s2
    rests honest settled = e.on_disk honest (flying.on_disk honest settled)

    no_room : ¬ (IsRoomyBehind s1 alone.opened) → ¬ (IsRoomy s2)
    no_room full there =
        let next = ap (λ (t : Tip). t.next) alone.tip in
        let end = ap (λ (t : Tip). t.end) alone.tip in
        full (omega (arith, next, end, there))

    has_room : IsRoomyBehind s1 alone.opened → IsRoomy s2
    has_room room =
        let next = ap (λ (t : Tip). t.next) alone.tip in
        let end = ap (λ (t : Tip). t.end) alone.tip in
        omega (arith, next, end, room)

    why_ended : NoneFollows gives more s1 alone.opened up_to.here feed → HasEnded gives most s2 batches up_to.here feed
    why_ended (inl (same, inl none)) = inl (same, inl (let number = up_to.number in omega (arith, number, none, long, one)))
    why_ended (inl (same, inr full)) =
        inl (same, inr (not_none, no_room full))
    why_ended (inr (some, given)) = inr (let number = up_to.number in omega (arith, number, some, long, one), given)

    pub ends_well : end ≡ Ok tt → IsChainOfSome disk gives effects step most old new before feed old_out out (Ok (count + many))
    ends_well is = (
      record {
        batches = batches;
        torn = [];
        feed = up_to.here;
        given = came;
        few = let number = up_to.number in omega (arith, number, long, one);
        commits = committed;
        leave = left;
        ends = (
          counted' laws disk gives effects step most old now new before feed old_out mid_out out under_way more count end flying up_to durable along None e released all made many counted,
          (
            refl,
            why_ended
                (subst (λ r. MatchResult r (λ _. NoneFollows gives more s1 alone.opened up_to.here feed) (λ e. IsFollowRefusal gives more s1 alone.opened up_to.here feed e)) is alone.behind),
          ),
        );
        roomy = tt;
        calls = calls;
        made = made_calls;
        settled = λ honest settled none. rests honest settled;
        images = λ honest settled image p. inl (on_disk s2 (rests honest settled) image p);
      },
      λ empty. absurd (not_none empty),
    )

    record IsRefusedBehind (refusal : Refusal) : Type 0 where
      pub torn : List Decision
      pub why : HasBroken gives most (IsUntouched disk.state old new) (LastFailed disk.failures disk.outlook old new) s0 batches torn up_to.here feed refusal
      pub some : more ≢ 0
      pub room : IsRoomy s2

    why_broken : (refusal : Refusal) → IsFollowRefusal gives more s1 alone.opened up_to.here feed refusal → IsRefusedBehind refusal
    why_broken refusal (some, (room, inl (same, memory))) =
        record { torn = []; why = HadNoRoom same refl not_none memory; some = some; room = has_room room }
    why_broken refusal (some, (room, inr (inl given))) = record { torn = []; why = FeedRefused (inl roomy) refl given; some = some; room = has_room room }
    why_broken refusal (some, (room, inr (inr (batch, (given, why))))) = record {
      torn = batch;
      why =
          WasUncommitted (inl roomy) feed given
          (why_not (store_behind_opened s1 alone.opened) (store_behind s0 batches) batch ⊥ (LastFailed disk.failures disk.outlook old new) refusal flying.calls.failed
          (ap (λ (t : Tip). t.table) alone.tip ∙ committed.table) (ap (λ (t : Tip). t.seq) alone.tip ∙ committed.seq) (λ none. absurd none) why)
          (inl refl);
      some = some;
      room = has_room room;
    }

    pub ends_refused : (refusal : Refusal) → end ≡ Err refusal → IsChainOfSome disk gives effects step most old new before feed old_out out (Err refusal)
    ends_refused refusal is =
        let why =
        why_broken refusal
        (subst (λ r. MatchResult r (λ _. NoneFollows gives more s1 alone.opened up_to.here feed) (λ e. IsFollowRefusal gives more s1 alone.opened up_to.here feed e)) is alone.behind) in
        let number = up_to.number in
        let some = why.some in (
          record {
            batches = batches;
            torn = why.torn;
            feed = up_to.here;
            given = came;
            few = omega (arith, number, long, one);
            commits = committed;
            leave = left;
            ends = (omega (arith, number, long, one, some), why.why);
            roomy = λ more none. why.room;
            calls = inl calls;
            made = inl made_calls;
            settled = λ honest settled none. rests honest settled;
            images = λ honest settled image p. inl (on_disk s2 (rests honest settled) image p);
          },
          λ empty. absurd (not_none empty),
        )
