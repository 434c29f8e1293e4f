-- A chain of one batch.
use Rattle.std.proofs.Common.{◌≡◌, ◌≢◌, ◌⊎◌, ◌<◌, ◌≤◌, ◌+◌, ◌==◌, ◌∙◌, ◌++◌, ℕ, true, MatchBool, MatchResult, List, [], ◌∷◌, length, Result, Ok, Err, IfOk, IfErr, OnErr, inl, inr, sym, ap, subst, refl, arith, append-nil}
use Rattle.std.proofs.lemmas.Bool.{ne_eqb}
use Rattle.std.specs.Prelude.{if◌then◌else◌}
use Rattle.devices.specs.declared.effect.Effect.{Effect}
use Rattle.disk.specs.State.{EveryImage}
use Rattle.disk.specs.declared.disk.Disk.{Ghosts}
use Rattle.lw_types.specs.declared.refusal.Refusal.{Refusal}
use Rattle.lw_types.specs.declared.refusal.Refusal.TheVariants.{DeviceFailed}
use Rattle.sessions.specs.Decision.{commands_of}
use Rattle.sessions.specs.Table.{TableState, effects_of}
use Rattle.sessions.specs.declared.batch.TheConstants.Batch.{MOST}
use Rattle.sessions.specs.declared.decision.Decision.{Decision}
use Rattle.store.specs.Image.{HoldsTable}
use Rattle.store.specs.State.{IsSettled, StoreState, disk_of, store_state}
use Rattle.store.specs.declared.store.Store.{Store}
use Rattle.flusher.specs.Calls.{HaveSucceeded, IsUntouched, LastFailed, calls_of_room}
use Rattle.flusher.specs.Chain.HasBroken.{FeedRefused, HadNoRoom, WasUncommitted, WasUnready}
use Rattle.flusher.specs.Chain.{GivesAll, FeedGives, HasBroken, HasEnded, IsChain, LeaveInOrder, MakesCalls, calls_of_batches, batched_decisions, store_behind}
use Rattle.flusher.specs.Cycle.{Commits, HoldsWithOrWithout, IsReady, IsUncommitted, IsUnready}
use Rattle.flusher.specs.Lived.{GoOn, HaveLed}
use Rattle.flusher.specs.Lives.{Lives, lives_after}
use Rattle.flusher.specs.Lives.LifeEvent.{Released, Torn}
use Rattle.flusher.proofs.Ends.{why_not}
use Rattle.flusher.proofs.Holding.{held_along, on_some, with_or_without_along}
use Rattle.flusher.proofs.Living.{AreComposed, IsOnDisk, by_failed, commits, rests, tears}

module _ {D F C V : Type 0} (disk : Ghosts D) (gives : FeedGives F) (effects : V → List Effect) (step : C → V → C → Type 0)
    (old new : Store D disk) (feed feed' : F) (out out' : C) where
  abbrev s : StoreState
  s = store_state disk.state old

  abbrev s' : StoreState
  s' = store_state disk.state new

  no_more : (b c : List Decision) (batches : List (List Decision)) → length (b ∷ c ∷ batches) ≤ 1 → ⊥
  no_more b c batches few = omega (arith, few)

  -- ---- it was committed

  abbrev pub IsDone : ℕ → Type 0
  IsDone count =
      (batch : List Decision)
      × (gives feed MOST (Ok batch) feed' × ((count ≡ length batch) × (Commits s s' batch × MatchBool (count == 0) (out' ≡ out)
      ((released : V) × ((effects released ≡ effects_of s.table (commands_of batch)) × step out released out')))))

  done_by : (count : ℕ) (batches : List (List Decision)) (here : F) → GivesAll gives feed batches here → length batches ≤ 1 → Commits s s' (batched_decisions batches)
      → LeaveInOrder effects step s.table batches out out' → count ≡ length (batched_decisions batches) → HasEnded gives 1 s' batches here feed' → IsDone count
  done_by count [] here given few committed leave counted (inl (same, inl long)) = absurd (omega (arith, long))
  done_by count [] here given few committed leave counted (inl (same, inr (some, full))) = absurd (some refl)
  done_by count [] here given few committed leave counted (inr (less, empty)) = (
    [],
    (
      subst (λ f. gives f MOST (Ok []) feed') (sym given) empty,
      (
        counted,
        (
          committed,
          subst (λ n. MatchBool (n == 0) (out' ≡ out) ((released : V) × ((effects released ≡ effects_of s.table (commands_of [])) × step out released out'))) (sym counted) leave,
        ),
      ),
    ),
  )
  done_by count (b ∷ []) here (next, (some, given), is) few committed (released, (mid, (all, (made, last)))) counted (inr (less, empty)) = absurd (omega (arith, less))
  done_by count (b ∷ []) here (next, (some, given), is) few committed (released, (mid, (all, (made, last)))) counted (inl (same, why)) =
      let whole = append-nil b in
      let long : count ≡ length b = counted ∙ ap (length {A = Decision}) whole in (
        b,
        (
          subst (λ f. gives feed MOST (Ok b) f) (is ∙ sym same) given,
          (
            long,
            (
              subst (Commits s s') whole committed,
              on_some count _ _ (λ zero. none b some (sym long ∙ zero)) (released, (all, subst (λ o. step out released o) (sym last) made)),
            ),
          ),
        ),
      )
    where
      none : (b : List Decision) → b ≢ [] → length b ≡ 0 → ⊥
      none [] some zero = some refl
      none (d ∷ ds) some zero = omega (arith, zero)
  done_by count (b ∷ c ∷ batches) here given few committed leave counted ended = absurd (no_more b c batches few)

  pub done : (r : Result ℕ Refusal) → IsChain disk gives effects step 1 old new feed feed' out out' r → IfOk r IsDone
  done (Ok count) chain = done_by count chain.batches chain.feed chain.given chain.few chain.commits chain.leave chain.ends.0 chain.ends.1.1
  done (Err e) chain = tt

  no_batches : (batches : List (List Decision)) → length batches < 1 → batches ≡ []
  no_batches [] few = refl
  no_batches (b ∷ batches) few = absurd (omega (arith, few))

  -- how many calls that took
  abbrev MadeFor : ℕ → Type 0
  MadeFor count = HaveSucceeded (calls_of_room s + (if count == 0 then 0 else 4)) (disk.outlook (disk_of old)) (disk.outlook (disk_of new))

  -- and if it was refused
  abbrev pub MadeBefore : Refusal → Type 0
  MadeBefore e = MakesCalls (disk.outlook (disk_of old)) (disk.outlook (disk_of new)) (calls_of_room s) [] (Err e)

  pub made : (r : Result ℕ Refusal) → IsChain disk gives effects step 1 old new feed feed' out out' r
      → MatchResult r (λ count. HaveSucceeded (calls_of_room s + (if count == 0 then 0 else 4)) (disk.outlook (disk_of old)) (disk.outlook (disk_of new))) MadeBefore
  made (Err e) chain = subst (λ l. MakesCalls (disk.outlook (disk_of old)) (disk.outlook (disk_of new)) (calls_of_room s) l (Err e)) (no_batches chain.batches chain.ends.0) chain.made
  made (Ok count) chain = by chain.batches chain.feed chain.given chain.few chain.ends.0 chain.made
    where
      none : (b : List Decision) → b ≢ [] → length b ≡ 0 → ⊥
      none [] some zero = some refl
      none (d ∷ ds) some zero = omega (arith, zero)

      by : (batches : List (List Decision)) (here : F) → GivesAll gives feed batches here → length batches ≤ 1 → count ≡ length (batched_decisions batches)
          → HaveSucceeded (calls_of_room s + calls_of_batches batches) (disk.outlook (disk_of old)) (disk.outlook (disk_of new)) → MadeFor count
      by [] here given few counted is = subst MadeFor (sym counted) is
      by (b ∷ []) here (next, (some, given), last) few counted is =
          let long : count ≡ length b = counted ∙ ap (length {A = Decision}) (append-nil b) in
          subst (λ t. HaveSucceeded (calls_of_room s + (if t then 0 else 4)) (disk.outlook (disk_of old)) (disk.outlook (disk_of new)))
          (sym (ne_eqb count 0 (λ zero. none b some (sym long ∙ zero)))) is
      by (b ∷ c ∷ batches) here given few counted is = absurd (no_more b c batches few)

  -- ---- it was refused

  pub held_back : (r : Result ℕ Refusal) → IsChain disk gives effects step 1 old new feed feed' out out' r → OnErr r (out' ≡ out)
  held_back (Ok count) chain = tt
  held_back (Err e) chain = subst (λ l. LeaveInOrder effects step s.table l out out') (no_batches chain.batches chain.ends.0) chain.leave

  pub keeps_table : (r : Result ℕ Refusal) → IsChain disk gives effects step 1 old new feed feed' out out' r → OnErr r (s'.table ≡ s.table)
  keeps_table (Ok count) chain = tt
  keeps_table (Err e) chain = (subst (λ l. Commits s s' (batched_decisions l)) (no_batches chain.batches chain.ends.0) chain.commits).table

  pub keeps_seq : (r : Result ℕ Refusal) → IsChain disk gives effects step 1 old new feed feed' out out' r → OnErr r (s'.seq ≡ s.seq)
  keeps_seq (Ok count) chain = tt
  keeps_seq (Err e) chain = let is = (subst (λ l. Commits s s' (batched_decisions l)) (no_batches chain.batches chain.ends.0) chain.commits).seq in omega (arith, is)

  abbrev pub IsRefused : Refusal → Type 0
  IsRefused e =
      ((feed' ≡ feed) × IsUnready s (IsUntouched disk.state old new) (LastFailed disk.failures disk.outlook old new) e)
      ⊎ (IsReady s
      × (gives feed MOST (Err e) feed'
      ⊎ ((batch : List Decision) × (gives feed MOST (Ok batch) feed' × ((batch ≢ []) × IsUncommitted s batch (LastFailed disk.failures disk.outlook old new) e)))))

  refused_by : (e : Refusal) (torn : List Decision) (here : F) → feed ≡ here
      → HasBroken gives 1 (IsUntouched disk.state old new) (LastFailed disk.failures disk.outlook old new) s [] torn here feed' e → IsRefused e
  refused_by e torn here at (HadNoRoom same none some memory) = absurd (some refl)
  refused_by e torn here at (WasUnready same none empty why) = inl (same ∙ sym at, why)
  refused_by e torn here at (FeedRefused ready none given) = inr (ready, inl (subst (λ f. gives f MOST (Err e) feed') (sym at) given))
  refused_by e torn here at (WasUncommitted ready next (x, (some, given), is) why (inr (failed, (less, answer)))) = absurd (omega (arith, less))
  refused_by e torn here at (WasUncommitted ready next (x, (some, given), is) why (inl same)) =
      inr (
        ready,
        inr (
          torn,
          (
            subst (λ f. gives f MOST (Ok torn) feed') (sym at) (subst (λ f. gives here MOST (Ok torn) f) (is ∙ sym same) given),
            (
              some,
              why_not (store_behind s []) s torn (LastFailed disk.failures disk.outlook old new) (LastFailed disk.failures disk.outlook old new) e refl refl (omega arith) (λ x. x) why,
            ),
          ),
        ),
      )

  pub refused : (r : Result ℕ Refusal) → IsChain disk gives effects step 1 old new feed feed' out out' r → IfErr r IsRefused
  refused (Ok count) chain = tt
  refused (Err e) chain =
      let none = no_batches chain.batches chain.ends.0 in
      refused_by e chain.torn chain.feed (subst (λ l. GivesAll gives feed l chain.feed) none chain.given)
      (subst (λ l. HasBroken gives 1 (IsUntouched disk.state old new) (LastFailed disk.failures disk.outlook old new) s l chain.torn chain.feed feed' e) none chain.ends.1)

  -- ---- what a crash leaves

  module _ (on_disk : IsOnDisk) where
    plain : (torn : List Decision) (image : List ℕ) → torn ≡ [] → HoldsWithOrWithout s' torn image → HoldsTable s'.table s'.seq image
    plain torn image none h = elim (subst (λ (ds : List Decision). HoldsWithOrWithout s' ds image) none h) [
      | inl h ↦ h
      | inr h ↦ subst (λ n. HoldsTable s'.table n image) (let zero : s'.seq + 0 ≡ s'.seq = omega arith in zero) h
    ]

    abbrev pub Leaves : Refusal → Type 0
    Leaves e =
        EveryImage (disk.state (disk_of new)) (HoldsTable s.table s.seq)
        ⊎ ((batch : List Decision) × (gives feed MOST (Ok batch) feed' × ((e ≡ DeviceFailed) × EveryImage (disk.state (disk_of new)) (HoldsWithOrWithout s batch))))

    leaves_by : (e : Refusal) (torn : List Decision) (here : F) → feed ≡ here → s'.table ≡ s.table → s'.seq ≡ s.seq
        → HasBroken gives 1 (IsUntouched disk.state old new) (LastFailed disk.failures disk.outlook old new) s [] torn here feed' e
        → e ≡ DeviceFailed → EveryImage (disk.state (disk_of new)) (HoldsWithOrWithout s' torn) → Leaves e
    leaves_by e torn here at table seq (HadNoRoom same none some memory) failed images =
        inl (λ image p. held_along s s' image table seq (plain torn image none (images image p)))
    leaves_by e torn here at table seq (WasUnready same none empty why) failed images =
        inl (λ image p. held_along s s' image table seq (plain torn image none (images image p)))
    leaves_by e torn here at table seq (FeedRefused ready none given) failed images =
        inl (λ image p. held_along s s' image table seq (plain torn image none (images image p)))
    leaves_by e torn here at table seq (WasUncommitted ready next given why (inr (is, (less, answer)))) failed images = absurd (omega (arith, less))
    leaves_by e torn here at table seq (WasUncommitted ready next (x, (some, given), is) why (inl same)) failed images =
        inr (
          torn,
          (
            subst (λ f. gives f MOST (Ok torn) feed') (sym at) (subst (λ f. gives here MOST (Ok torn) f) (is ∙ sym same) given),
            (failed, λ image p. with_or_without_along s s' torn image table seq (images image p)),
          ),
        )

    pub leaves : (r : Result ℕ Refusal) → IsChain disk gives effects step 1 old new feed feed' out out' r → disk.honest → IsSettled s
        → MatchResult r (λ _. EveryImage (disk.state (disk_of new)) (HoldsTable s'.table s'.seq)) Leaves
    leaves (Ok count) chain honest settled = λ image p. plain chain.torn image chain.ends.1.0 (chain.images honest settled image p)
    leaves (Err e) chain honest settled =
        let none = no_batches chain.batches chain.ends.0 in
        let table = keeps_table (Err e) chain in
        let seq = keeps_seq (Err e) chain in
        elim chain.calls [
          | inl all ↦ inl (λ image p. held_along s s' image table seq (on_disk s' (chain.settled honest settled all) image p))
          | inr (is, last) ↦
              leaves_by e chain.torn chain.feed (subst (λ l. GivesAll gives feed l chain.feed) none chain.given) table seq
              (subst (λ l. HasBroken gives 1 (IsUntouched disk.state old new) (LastFailed disk.failures disk.outlook old new) s l chain.torn chain.feed feed' e) none chain.ends.1) is
              (chain.images honest settled)
        ]

    -- ---- where it leads

    module _ (composed : AreComposed) (honest : disk.honest) (t : TableState) (number : ℕ) (lives : Lives) (led : HaveLed lives t number s) where
      abbrev pub LeadsOnce : Type 0
      LeadsOnce =
          (next : Lives) × (GoOn t lives next × (HaveLed next t number s' × (((out' ≡ out) × (next.left ≡ lives.left))
          ⊎ ((released : V) × ((next.left ≡ lives.left ++ effects released) × step out released out')))))

      -- a batch was released
      once : (batch : List Decision) → Commits s s' batch → (released : V) → effects released ≡ effects_of s.table (commands_of batch) → step out released out'
          → lives.torn ≡ [] → IsSettled s' → LeadsOnce
      once batch committed released all made nothing settled = (
        lives_after t lives (Released (commands_of batch)),
        (
          inr (Released (commands_of batch), refl),
          (
            commits lives t number s led on_disk composed s' batch nothing committed settled,
            inr (released, (ap (λ l. lives.left ++ l) (ap (λ u. effects_of u (commands_of batch)) (sym led.table) ∙ sym all), made)),
          ),
        ),
      )

      none_leads : s'.table ≡ s.table → s'.seq ≡ s.seq → out' ≡ out → lives.torn ≡ [] → IsSettled s' → LeadsOnce
      none_leads table seq same nothing settled = (lives, (inl refl, (rests lives t number s led on_disk s' table seq nothing settled, inl (same, refl))))

      alive_leads : (r : Result ℕ Refusal) → IsChain disk gives effects step 1 old new feed feed' out out' r → lives.torn ≡ [] → IsSettled s → LeadsOnce
      alive_leads (Ok count) chain nothing settled = by chain.batches chain.few chain.commits chain.leave (chain.settled honest settled chain.calls)
        where
          by : (batches : List (List Decision)) → length batches ≤ 1 → Commits s s' (batched_decisions batches) → LeaveInOrder effects step s.table batches out out' → IsSettled s'
              → LeadsOnce
          by [] few committed leave there = none_leads committed.table (let is = committed.seq in omega (arith, is)) leave nothing there
          by (b ∷ []) few committed (released, (mid, (all, (made, last)))) there =
              once b (subst (Commits s s') (append-nil b) committed) released all (subst (λ o. step out released o) (sym last) made) nothing there
          by (b ∷ c ∷ batches) few committed leave there = absurd (no_more b c batches few)
      alive_leads (Err e) chain nothing settled =
          let table = keeps_table (Err e) chain in
          let seq = keeps_seq (Err e) chain in
          let same = held_back (Err e) chain in
          elim chain.calls [
            | inl all ↦ none_leads table seq same nothing (chain.settled honest settled all)
            | inr (is, last) ↦ (
              lives_after t lives (Torn (commands_of chain.torn)),
              (
                inr (Torn (commands_of chain.torn), refl),
                (
                  tears lives t number s led s' chain.torn table seq last.failed
                      (λ image p. with_or_without_along s s' chain.torn image table seq (chain.images honest settled image p)),
                  inl (same, refl),
                ),
              ),
            )
          ]

      failed_leads : (batches : List (List Decision)) (here : F) → GivesAll gives feed batches here → Commits s s' (batched_decisions batches)
          → LeaveInOrder effects step s.table batches out out' → IsUntouched disk.state old new → LeadsOnce
      failed_leads [] here given committed leave untouched = (lives, (inl refl, (subst (HaveLed lives t number) (sym untouched.0) led, inl (leave, refl))))
      failed_leads ([] ∷ batches) here (next, (some, given), rest) committed leave untouched = absurd (some refl)
      failed_leads ((d ∷ ds) ∷ batches) here given committed leave untouched =
          absurd (let a = ap (λ (x : StoreState). x.seq) untouched.0 in let b = committed.seq in omega (arith, a, b))

      pub leads_once : (r : Result ℕ Refusal) → IsChain disk gives effects step 1 old new feed feed' out out' r → (s.failed ≡ true → IsUntouched disk.state old new) → LeadsOnce
      leads_once r chain closed =
          by_failed lives t number s led (λ is. failed_leads chain.batches chain.feed chain.given chain.commits chain.leave (closed is))
          (λ nothing settled. alive_leads r chain nothing settled)
