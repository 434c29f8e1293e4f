-- How a chain starts, and where it leads.
use Rattle.std.proofs.Common.{◌≢◌, ◌≡◌, ◌⊎◌, ◌<◌, ◌≤◌, ◌+◌, ◌*◌, ◌∙◌, ℕ, Bool, true, false, MatchBool, MatchResult, List, [], ◌∷◌, ◌++◌, length, flat_map, Result, Ok, Err, OnErr, OnOk, inl, inr, sym, ap, subst, refl, arith, append_assoc, append-nil, length-append}
use Rattle.std.specs.List.{FoldsTo}
use Rattle.std.proofs.lemmas.List.{length-map, map-append}
use Rattle.devices.specs.declared.effect.Effect.{Effect}
use Rattle.disk.specs.State.{EveryImage}
use Rattle.disk.specs.declared.disk.Disk.{Ghosts}
use Rattle.lw_types.specs.declared.refusal.Refusal.{Refusal}
use Rattle.lw_types.specs.declared.refusal.Refusal.TheVariants.{DeviceFailed}
use Rattle.sessions.specs.Decision.{commands_of}
use Rattle.sessions.specs.Table.{TableState, effects_of, fold_of}
use Rattle.sessions.specs.declared.batch.TheConstants.Batch.{MOST}
use Rattle.sessions.specs.declared.decision.Decision.{Decision}
use Rattle.store.specs.Image.{HoldsTable}
use Rattle.store.specs.State.{IsRoomy, IsSettled, StoreState, disk_of, store_state}
use Rattle.store.specs.declared.store.Store.{Store}
use Rattle.flusher.specs.Calls.{HaveSucceeded, IsUntouched, LastFailed, NoneFailed, calls_of_room}
use Rattle.flusher.specs.Chain.HasBroken.{FeedRefused, HadNoRoom, WasUncommitted, WasUnready}
use Rattle.flusher.specs.Chain.{FeedGives, HasBroken, HasEnded, IsChain, IsChainOfSome, LeaveInOrder, MakesCalls, calls_of_batches, batched_decisions, store_behind}
use Rattle.flusher.specs.Cycle.{HoldsWithOrWithout, IsReady}
use Rattle.flusher.specs.Lived.{HaveLed, HoldsWithTorn, LeadOn}
use Rattle.flusher.specs.Lives.{LifeEvent, Lives, lives_after, lives_after_all}
use Rattle.flusher.specs.Lives.LifeEvent.{Released, Torn}
use Rattle.flusher.proofs.Calling.{more_succeed, more_within, no_calls, none_then}
use Rattle.flusher.proofs.Ends.{why_not}
use Rattle.flusher.proofs.Holding.{commits_along}
use Rattle.flusher.proofs.Leading.{all_then}
use Rattle.flusher.proofs.Making.{no_calls_of_room}
use Rattle.flusher.proofs.Living.{AreComposed, IsOnDisk, either_way}

-- ---- a chain without a batch

pub no_batch : {D F C V : Type 0} (disk : Ghosts D) (gives : FeedGives F) (effects : V → List Effect) (step : C → V → C → Type 0) (most : ℕ)
    (old new : Store D disk) (feed feed' : F) (out : C) (torn : List Decision) (r : Result ℕ Refusal) → 1 ≤ most
    → (store_state disk.state new).table ≡ (store_state disk.state old).table → (store_state disk.state new).seq ≡ (store_state disk.state old).seq
    → MatchResult r (λ count. (count ≡ 0) × ((torn ≡ []) × gives feed MOST (Ok []) feed'))
    (λ e. HasBroken gives most (IsUntouched disk.state old new) (LastFailed disk.failures disk.outlook old new) (store_state disk.state old) [] torn feed feed' e)
    → MatchResult r (λ _. NoneFailed disk.failures disk.outlook old new)
    (λ e. NoneFailed disk.failures disk.outlook old new ⊎ ((e ≡ DeviceFailed) × LastFailed disk.failures disk.outlook old new))
    → MakesCalls (disk.outlook (disk_of old)) (disk.outlook (disk_of new)) (calls_of_room (store_state disk.state old)) [] r
    → (disk.honest → IsSettled (store_state disk.state old) → NoneFailed disk.failures disk.outlook old new → IsSettled (store_state disk.state new))
    → (disk.honest → IsSettled (store_state disk.state old)
    → EveryImage (disk.state (disk_of new)) (HoldsTable (store_state disk.state new).table (store_state disk.state new).seq))
    → IsChain disk gives effects step most old new feed feed' out out r
no_batch disk gives effects step most old new feed feed' out torn r some table seq ends calls made settled images =
    record {
      batches = [];
      torn = torn;
      feed = feed;
      given = refl;
      few = omega arith;
      commits = record { continues = record { fit = tt; numbered = tt }; table = table; seq = omega (arith, seq) };
      leave = refl;
      ends = by r ends;
      roomy = never r;
      calls = calls;
      made = made;
      settled = settled;
      images = λ honest is image p. inl (images honest is image p);
    }
  where
    never : (r : Result ℕ Refusal) → OnErr r (◌≢◌ {A = List (List Decision)} [] [] → NoneFailed disk.failures disk.outlook old new → IsRoomy (store_state disk.state new))
    never (Ok n) = tt
    never (Err e) = λ some none. absurd (some refl)

    by : (r : Result ℕ Refusal) → MatchResult r (λ count. (count ≡ 0) × ((torn ≡ []) × gives feed MOST (Ok []) feed'))
        (λ e. HasBroken gives most (IsUntouched disk.state old new) (LastFailed disk.failures disk.outlook old new) (store_state disk.state old) [] torn feed feed' e)
        → MatchResult r (λ count. (count ≡ 0) × ((torn ≡ []) × HasEnded gives most (store_state disk.state new) [] feed feed'))
        (λ e. (0 < most) × HasBroken gives most (IsUntouched disk.state old new) (LastFailed disk.failures disk.outlook old new) (store_state disk.state old) [] torn feed feed' e)
    by (Ok count) (none, (alone, given)) = (none, (alone, inr (omega (arith, some), given)))
    by (Err e) why = (omega (arith, some), why)

-- a store that began a batch hasn't failed
pub not_failed : {T : Type 0} (b : Bool) (x : T) (e : Refusal) (X : Type 0) → MatchBool b (◌≡◌ {A = Result T Refusal} (Ok x) (Err e)) X → b ≡ false
not_failed true x e X is = let no : ⊥ = cc in absurd no
not_failed false x e X is = refl

pub on_ok : {T E : Type 0} (r : Result T E) (X Y : Type 0) → (X → Y) → OnOk r X → OnOk r Y
on_ok (Ok x) X Y step is = step is
on_ok (Err e) X Y step is = tt

-- ---- a chain after a checkpoint

module _ {D F C V : Type 0} (disk : Ghosts D) (gives : FeedGives F) (effects : V → List Effect) (step : C → V → C → Type 0) (most : ℕ)
    (old mid new : Store D disk) (feed feed' : F) (out out' : C)
    (first : NoneFailed disk.failures disk.outlook old mid) (table : (store_state disk.state mid).table ≡ (store_state disk.state old).table)
    (seq : (store_state disk.state mid).seq ≡ (store_state disk.state old).seq)
    (made : HaveSucceeded (calls_of_room (store_state disk.state old)) (disk.outlook (disk_of old)) (disk.outlook (disk_of mid))) (roomy : IsRoomy (store_state disk.state mid)) (ready : IsReady (store_state disk.state old))
    (settled : disk.honest → IsSettled (store_state disk.state old) → IsSettled (store_state disk.state mid)) where
  last_along : LastFailed disk.failures disk.outlook mid new → LastFailed disk.failures disk.outlook old new
  last_along last = record {
    count = last.count ∙ ap (λ n. n + 1) first.count;
    armed = λ all. last.armed (first.unarmed all);
    failed = last.failed;
  }

  none_back : (r : Result ℕ Refusal)
      → MatchResult r (λ _. NoneFailed disk.failures disk.outlook mid new)
      (λ e. NoneFailed disk.failures disk.outlook mid new ⊎ ((e ≡ DeviceFailed) × LastFailed disk.failures disk.outlook mid new))
      → NoneFailed disk.failures disk.outlook old new → NoneFailed disk.failures disk.outlook mid new
  none_back (Ok n) none all = none
  none_back (Err e) (inl none) all = none
  none_back (Err e) (inr (is, last)) all = absurd (let a = first.count in let b = last.count in let c = all.count in omega (arith, a, b, c))

  calls_along : (r : Result ℕ Refusal)
      → MatchResult r (λ _. NoneFailed disk.failures disk.outlook mid new)
      (λ e. NoneFailed disk.failures disk.outlook mid new ⊎ ((e ≡ DeviceFailed) × LastFailed disk.failures disk.outlook mid new))
      → MatchResult r (λ _. NoneFailed disk.failures disk.outlook old new)
      (λ e. NoneFailed disk.failures disk.outlook old new ⊎ ((e ≡ DeviceFailed) × LastFailed disk.failures disk.outlook old new))
  calls_along (Ok n) none = none_then disk.failures disk.outlook old mid new first none
  calls_along (Err e) (inl none) = inl (none_then disk.failures disk.outlook old mid new first none)
  calls_along (Err e) (inr (is, last)) = inr (is, last_along last)

  made_along : (batches : List (List Decision)) (r : Result ℕ Refusal)
      → MakesCalls (disk.outlook (disk_of mid)) (disk.outlook (disk_of new)) (calls_of_room (store_state disk.state mid)) batches r
      → MakesCalls (disk.outlook (disk_of old)) (disk.outlook (disk_of new)) (calls_of_room (store_state disk.state old)) batches r
  made_along batches r is = by r (subst (λ n. MakesCalls (disk.outlook (disk_of mid)) (disk.outlook (disk_of new)) n batches r) (no_calls_of_room (store_state disk.state mid) roomy) is)
    where
      all : HaveSucceeded (0 + calls_of_batches batches) (disk.outlook (disk_of mid)) (disk.outlook (disk_of new))
          → HaveSucceeded (calls_of_room (store_state disk.state old) + calls_of_batches batches) (disk.outlook (disk_of old)) (disk.outlook (disk_of new))
      all is =
          more_succeed (calls_of_room (store_state disk.state old)) (calls_of_batches batches) (disk.outlook (disk_of old)) (disk.outlook (disk_of mid)) (disk.outlook (disk_of new)) made
          (subst (λ n. HaveSucceeded n (disk.outlook (disk_of mid)) (disk.outlook (disk_of new))) (let same : 0 + calls_of_batches batches ≡ calls_of_batches batches = omega arith in same) is)

      by : (r : Result ℕ Refusal) → MakesCalls (disk.outlook (disk_of mid)) (disk.outlook (disk_of new)) 0 batches r
          → MakesCalls (disk.outlook (disk_of old)) (disk.outlook (disk_of new)) (calls_of_room (store_state disk.state old)) batches r
      by (Ok n) is = all is
      by (Err e) (inl is) = inl (all is)
      by (Err e) (inr (inl (none, inl same))) =
          inl (all (subst (λ n. HaveSucceeded n (disk.outlook (disk_of mid)) (disk.outlook (disk_of new))) (let zero : 0 ≡ 0 + calls_of_batches batches = ap (λ b. 0 + calls_of_batches b) (sym none) in zero)
          (subst (HaveSucceeded 0 (disk.outlook (disk_of mid))) (sym same) (no_calls (disk.outlook (disk_of mid))))))
      by (Err e) (inr (inl (none, inr (n, (least, (most, is)))))) = absurd (omega (arith, most))
      by (Err e) (inr (inr is)) =
          let first = calls_of_room (store_state disk.state old) in
          let within =
          more_within first (0 + calls_of_batches batches) (0 + 3 * length batches + 5) (disk.outlook (disk_of old)) (disk.outlook (disk_of mid)) (disk.outlook (disk_of new)) made is in
          let least = within.1.0 in
          let most = within.1.1.0 in
          inr (inr (within.0, (omega (arith, least), (omega (arith, most), within.1.1.1))))

  broken_along : (batches : List (List Decision)) (torn : List Decision) (here : F) (e : Refusal) → (batches ≡ [] → torn ≢ [])
      → HasBroken gives most (IsUntouched disk.state mid new) (LastFailed disk.failures disk.outlook mid new) (store_state disk.state mid) batches torn here feed' e
      → HasBroken gives most (IsUntouched disk.state old new) (LastFailed disk.failures disk.outlook old new) (store_state disk.state old) batches torn here feed' e
  broken_along batches torn here e some (HadNoRoom same none more memory) = HadNoRoom same none more memory
  broken_along batches torn here e some (WasUnready same none empty why) = absurd (some empty none)
  broken_along batches torn here e some (FeedRefused is none given) = FeedRefused ready none given
  broken_along batches torn here e some (WasUncommitted is next given why asked) =
      WasUncommitted ready next given
      (why_not (store_behind (store_state disk.state mid) batches) (store_behind (store_state disk.state old) batches) torn
      (LastFailed disk.failures disk.outlook mid new) (LastFailed disk.failures disk.outlook old new) e first.failed
      (ap (λ (t : TableState). fold_of t (commands_of (batched_decisions batches))) table) (ap (λ n. n + length (batched_decisions batches)) seq) last_along why)
      asked

  pub chain_along : (r : Result ℕ Refusal) → IsChainOfSome disk gives effects step most mid new feed feed' out out' r
      → IsChain disk gives effects step most old new feed feed' out out' r
  chain_along r (chain, some) = record {
    batches = chain.batches;
    torn = chain.torn;
    feed = chain.feed;
    given = chain.given;
    few = chain.few;
    commits = commits_along (store_state disk.state old) (store_state disk.state mid) (store_state disk.state new) (batched_decisions chain.batches) table seq chain.commits;
    leave = subst (λ t. LeaveInOrder effects step t chain.batches out out') table chain.leave;
    ends = by r chain.ends;
    roomy = room r chain.calls chain.roomy;
    calls = calls_along r chain.calls;
    made = made_along chain.batches r chain.made;
    settled = λ honest is none. chain.settled honest (settled honest is) (none_back r chain.calls none);
    images = λ honest is. chain.images honest (settled honest is);
  }
    where
      room : (r : Result ℕ Refusal)
          → MatchResult r (λ _. NoneFailed disk.failures disk.outlook mid new)
          (λ e. NoneFailed disk.failures disk.outlook mid new ⊎ ((e ≡ DeviceFailed) × LastFailed disk.failures disk.outlook mid new))
          → OnErr r (chain.batches ≢ [] → NoneFailed disk.failures disk.outlook mid new → IsRoomy (store_state disk.state new))
          → OnErr r (chain.batches ≢ [] → NoneFailed disk.failures disk.outlook old new → IsRoomy (store_state disk.state new))
      room (Ok n) calls is = tt
      room (Err e) calls is = λ some none. is some (none_back (Err e) calls none)

      by : (r : Result ℕ Refusal)
          → MatchResult r
          (λ count. (count ≡ length (batched_decisions chain.batches)) × ((chain.torn ≡ []) × HasEnded gives most (store_state disk.state new) chain.batches chain.feed feed'))
          (λ e. (length chain.batches < most)
          × HasBroken gives most (IsUntouched disk.state mid new) (LastFailed disk.failures disk.outlook mid new) (store_state disk.state mid) chain.batches chain.torn chain.feed feed' e)
          → MatchResult r
          (λ count. (count ≡ length (batched_decisions chain.batches)) × ((chain.torn ≡ []) × HasEnded gives most (store_state disk.state new) chain.batches chain.feed feed'))
          (λ e. (length chain.batches < most)
          × HasBroken gives most (IsUntouched disk.state old new) (LastFailed disk.failures disk.outlook old new) (store_state disk.state old) chain.batches chain.torn chain.feed feed' e)
      by (Ok n) is = is
      by (Err e) (few, why) = (few, broken_along chain.batches chain.torn chain.feed e some why)

-- ---- where a chain leads

module _ {C V : Type 0} (effects : V → List Effect) (call : C → V → C → Type 0) where
  -- the events of batches that were released, and the calls in which their effects left
  record AreReleased (t : TableState) (lives : Lives) (batches : List (List Decision)) (old new : C) : Type 0 where
    pub events : List LifeEvent
    pub calls : List V
    pub durable : (lives_after_all t lives events).durable ≡ lives.durable ++ commands_of (batched_decisions batches)
    pub torn : (lives_after_all t lives events).torn ≡ lives.torn
    pub left : (lives_after_all t lives events).left ≡ lives.left ++ flat_map effects calls
    pub folds : FoldsTo call old calls new

  released_all : AreComposed → (t : TableState) (lives : Lives) (batches : List (List Decision)) (u : TableState) (old new : C) → u ≡ fold_of t lives.durable
      → LeaveInOrder effects call u batches old new → AreReleased t lives batches old new
  released_all composed t lives [] u old new is leave = record {
    events = [];
    calls = [];
    durable = sym (append-nil lives.durable);
    torn = refl;
    left = sym (append-nil lives.left);
    folds = sym leave;
  }
  released_all composed t lives (batch ∷ batches) u old new is (released, (next, (all, (made, rest)))) =
      let commands = commands_of batch in
      let then_lives = lives_after t lives (Released commands) in
      let r =
      released_all composed t then_lives batches (fold_of u commands) next new (ap (λ t. fold_of t commands) is ∙ sym (composed t lives.durable commands)) rest in
      record {
        events = Released commands ∷ r.events;
        calls = released ∷ r.calls;
        durable =
            r.durable
            ∙ (append_assoc lives.durable commands (commands_of (batched_decisions batches))
            ∙ ap (λ l. lives.durable ++ l) (sym (map-append (λ (d : Decision). d.command) batch (batched_decisions batches))));
        torn = r.torn;
        left =
            r.left
            ∙ (append_assoc lives.left (effects_of (fold_of t lives.durable) commands) (flat_map effects r.calls)
            ∙ ap (λ l. lives.left ++ (l ++ flat_map effects r.calls)) (ap (λ t. effects_of t commands) (sym is) ∙ sym all));
        folds = (next, made, r.folds);
      }

  -- nothing happens
  pub stays : (s s' : StoreState) (out : C) → ((t : TableState) (number : ℕ) (lives : Lives) → HaveLed lives t number s → HaveLed lives t number s') → LeadOn effects call s s' out out
  stays s s' out still t number lives led = ([], (still t number lives led, ([], (sym (append-nil lives.left), refl))))

  pub stays_first : (s s' s'' : StoreState) (out out' : C) → ((t : TableState) (number : ℕ) (lives : Lives) → HaveLed lives t number s → HaveLed lives t number s')
      → LeadOn effects call s' s'' out out' → LeadOn effects call s s'' out out'
  stays_first s s' s'' out out' still leads t number lives led = leads t number lives (still t number lives led)

  module _ (composed : AreComposed) (on_disk : IsOnDisk) {D F : Type 0} (disk : Ghosts D) (gives : FeedGives F) (most : ℕ)
      (old new : Store D disk) (feed feed' : F) (out out' : C) (r : Result ℕ Refusal)
      (chain : IsChain disk gives effects call most old new feed feed' out out' r) (honest : disk.honest) (alive : (store_state disk.state old).failed ≡ false) where
    abbrev s : StoreState
    s = store_state disk.state old

    abbrev s' : StoreState
    s' = store_state disk.state new

    either : (r : Result ℕ Refusal)
        → MatchResult r (λ _. NoneFailed disk.failures disk.outlook old new)
        (λ e. NoneFailed disk.failures disk.outlook old new ⊎ ((e ≡ DeviceFailed) × LastFailed disk.failures disk.outlook old new))
        → NoneFailed disk.failures disk.outlook old new ⊎ LastFailed disk.failures disk.outlook old new
    either (Ok n) none = inl none
    either (Err e) (inl none) = inl none
    either (Err e) (inr (is, last)) = inr last

    pub chain_leads : LeadOn effects call s s' out out'
    chain_leads t number lives led =
        let before = subst (λ b. MatchBool b (Unit {0}) ((lives.torn ≡ []) × IsSettled s)) alive led.settled in
        let released = released_all composed t lives chain.batches s.table out out' led.table chain.leave in
        let commands = commands_of (batched_decisions chain.batches) in
        let next = lives_after_all t lives released.events in
        let table : s'.table ≡ fold_of t next.durable =
        chain.commits.table ∙ (ap (λ t. fold_of t commands) led.table ∙ (sym (composed t lives.durable commands) ∙ ap (fold_of t) (sym released.durable))) in
        let seq : s'.seq ≡ number + length next.durable =
        (let a = chain.commits.seq in
        let b = led.seq in
        let c = ap length released.durable ∙ length-append lives.durable commands in
        let d = length-map (batched_decisions chain.batches) (λ (d : Decision). d.command) in
        omega (arith, a, b, c, d)) in
        elim (either r chain.calls) [
          | inl none ↦
              let rests = chain.settled honest before.1 none in (
                released.events,
                (
                  record {
                    table = table;
                    seq = seq;
                    images = λ image p. inl (on_disk s' rests image p);
                    settled = either_way s'.failed (released.torn ∙ before.0, rests);
                  },
                  (released.calls, (released.left, released.folds)),
                ),
              )
          | inr last ↦
              let torn = commands_of chain.torn in
              let is = all_then t lives released.events (Torn torn) in
              let led' : HaveLed (lives_after t next (Torn torn)) t number s' =
              record {
                table = table;
                seq = seq;
                images = λ image p. with_torn image (chain.images honest before.1 image p);
                settled = subst (λ b. MatchBool b (Unit {0}) ((torn ≡ []) × IsSettled s')) (sym last.failed) tt;
              } in (
                released.events ++ Torn torn ∷ [],
                (
                  subst (λ l. HaveLed l t number s') (sym is) led',
                  (released.calls, (ap (λ (l : Lives). l.left) is ∙ released.left, released.folds)),
                ),
              )
        ]
      where
        with_torn : (image : List ℕ) → HoldsWithOrWithout s' chain.torn image → HoldsWithTorn s' (commands_of chain.torn) image
        with_torn image (inl h) = inl h
        with_torn image (inr h) =
            inr (subst (λ n. HoldsTable (fold_of s'.table (commands_of chain.torn)) (s'.seq + n) image) (sym (length-map chain.torn (λ (d : Decision). d.command))) h)
