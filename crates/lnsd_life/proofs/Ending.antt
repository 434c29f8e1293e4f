-- How a server's chains end.
use Rattle.std.proofs.Common.{◌≡◌, ◌∙◌, ◌⊎◌, ◌+◌, ◌++◌, ◌<◌, ◌≤◌, ℕ, Bool, true, false, List, [], ◌∷◌, Result, Ok, Err, MatchBool, MatchResult, IfErr, IsErrAnd, IfOk, OnOk, ap, arith, inl, inr, length, length-append, refl, subst, sym}
use Rattle.devices.specs.declared.effect.Effect.{Effect}
use Rattle.disk.specs.declared.disk.Disk.{Ghosts}
use Rattle.lw_types.specs.declared.refusal.Refusal.{Refusal}
use Rattle.lw_types.specs.declared.refusal.Refusal.TheVariants.{Damaged, DeviceFailed, Failed, OutOfMemory, OutOfStep}
use Rattle.lnsd_operator.specs.Faults.{IsOfBeginning}
use Rattle.lnsd_operator.specs.declared.fault.ServeFault.{ServeFault}
use Rattle.lnsd_operator.specs.declared.fault.ServeFault.TheVariants.{Listen, Names, Refused}
use Rattle.sessions.specs.declared.decision.Decision.{Decision}
use Rattle.store.specs.State.{StoreState, store_state}
use Rattle.store.specs.declared.areas.TheConstants.{LAST_GENERATION}
use Rattle.store.specs.declared.store.Store.{Store}
use Rattle.flusher.specs.Calls.{IsUntouched, LastFailed, NoneFailed}
use Rattle.flusher.specs.Chain.{FeedGives, GivesAll, HasBroken, HasEnded, IsChain, batched_decisions}
use Rattle.flusher.specs.Chain.HasBroken.{WasUnready, HadNoRoom, FeedRefused, WasUncommitted}
use Rattle.flusher.specs.Serving.{MakeChains, answers_of}
use Rattle.flusher.proofs.Calling.{calls_then, none_then, none_yet}
use Rattle.lnsd_life.specs.Served.{IsFaultOf, IsNotOfNames, IsRefused, IsUntold}
use Rattle.lnsd_life.specs.declared.report.LifeReport.{LifeReport}

module _ {D F C V : Type 0} (disk : Ghosts D) (gives : FeedGives F) (effects : V → List Effect) (call : C → V → C → Type 0) (most : ℕ) where
  -- no call of the store's disk failed in any of them
  none_failed : (old new : Store D disk) (p q : F) (x y : C) (counts : List ℕ) (done : Unit {0})
      → MakeChains disk gives effects call most old new p q x y (answers_of counts (Ok done))
      → NoneFailed disk.failures disk.outlook old new
  none_failed old new p q x y [] done (s, (f, (o, (chain, (same, rest))))) =
      subst (NoneFailed disk.failures disk.outlook old) (sym same) chain.calls
  none_failed old new p q x y (count ∷ counts) done (s, (f, (o, (chain, rest)))) =
      none_then disk.failures disk.outlook old s new chain.calls (none_failed s new f q o y counts done rest)

  -- so it is if they ended well
  pub none_failed_by : (old new : Store D disk) (p q : F) (x y : C) (counts : List ℕ) (result : Result (Unit {0}) Refusal)
      → MakeChains disk gives effects call most old new p q x y (answers_of counts result)
      → OnOk result (NoneFailed disk.failures disk.outlook old new)
  none_failed_by old new p q x y counts (Ok done) made = none_failed old new p q x y counts done made
  none_failed_by old new p q x y counts (Err e) made = tt

  -- ---- a feed that counts what it gives

  module _ (count : F → ℕ) (counts_each : (p : F) (n : ℕ) (batch : List Decision) (q : F) → gives p n (Ok batch) q → count q ≡ count p + length batch) where
    all_counted : (p : F) (batches : List (List Decision)) (q : F) → GivesAll gives p batches q → count q ≡ count p + length (batched_decisions batches)
    all_counted p [] q same = let is : count p ≡ count q = ap count same in omega (arith, is)
    all_counted p (batch ∷ batches) q (next, (some, given), rest) =
        let first : count next ≡ count p + length batch = counts_each p _ batch next given in
        let others : count q ≡ count next + length (batched_decisions batches) = all_counted next batches q rest in
        let both : length (batch ++ batched_decisions batches) ≡ length batch + length (batched_decisions batches) = length-append batch (batched_decisions batches) in
        omega (arith, first, others, both)

    -- why a chain that ended well doesn't change the count
    still_counted : (s : StoreState) (batches : List (List Decision)) (p q : F) → HasEnded gives most s batches p q → count q ≡ count p
    still_counted s batches p q (inl (same, why)) = ap count same
    still_counted s batches p q (inr (few, given)) = let is : count q ≡ count p + 0 = counts_each p _ [] q given in omega (arith, is)

    one_counted : (old new : Store D disk) (p q : F) (x y : C) (n : ℕ)
        → IsChain disk gives effects call most old new p q x y (Ok n) → new.seq + count p ≡ old.seq + count q
    one_counted old new p q x y n chain =
        let given : count chain.feed ≡ count p + length (batched_decisions chain.batches) = all_counted p chain.batches chain.feed chain.given in
        let still : count q ≡ count chain.feed = still_counted (store_state disk.state new) chain.batches chain.feed q chain.ends.1.1 in
        let number : new.seq ≡ old.seq + length (batched_decisions chain.batches) = chain.commits.seq in
        omega (arith, given, still, number)

    counted : (old new : Store D disk) (p q : F) (x y : C) (counts : List ℕ) (done : Unit {0})
        → MakeChains disk gives effects call most old new p q x y (answers_of counts (Ok done)) → new.seq + count p ≡ old.seq + count q
    counted old new p q x y [] done (s, (f, (o, (chain, (same, (fed, out)))))) =
        let one : s.seq + count p ≡ old.seq + count f = one_counted old s p f x o 0 chain in
        let number : new.seq ≡ s.seq = ap (λ (t : Store D disk). t.seq) same in
        let still : count q ≡ count f = ap count fed in
        omega (arith, one, number, still)
    counted old new p q x y (n ∷ counts) done (s, (f, (o, (chain, rest)))) =
        let one : s.seq + count p ≡ old.seq + count f = one_counted old s p f x o n chain in
        let others : new.seq + count f ≡ s.seq + count q = counted s new f q o y counts done rest in
        omega (arith, one, others)

  -- if they ended well, all that the feed counts is committed
  pub counted_by : (old new : Store D disk) (p q : F) (x y : C) (counts : List ℕ) (result : Result (Unit {0}) Refusal)
      → MakeChains disk gives effects call most old new p q x y (answers_of counts result) → (count : F → ℕ)
      → ((p : F) (n : ℕ) (batch : List Decision) (q : F) → gives p n (Ok batch) q → count q ≡ count p + length batch)
      → OnOk result (new.seq + count p ≡ old.seq + count q)
  counted_by old new p q x y counts (Ok done) made count counts_each = counted count counts_each old new p q x y counts done made
  counted_by old new p q x y counts (Err e) made count counts_each = tt

  -- ---- why they were refused

  refused_as : (old new : Store D disk) (e is : Refusal) → e ≡ is → IsRefused disk old new is → IsRefused disk old new e
  refused_as old new e is same why = subst (IsRefused disk old new) (sym same) why

  -- by cases: whether the store had failed
  unchecked : (old new : Store D disk) (e : Refusal) (failed : Bool) → old.failed ≡ failed → NoneFailed disk.failures disk.outlook old new
      → IsUntouched disk.state old new ⊎ (e ≡ DeviceFailed)
      → MatchBool failed (e ≡ Failed)
      (((e ≡ Damaged) × (LAST_GENERATION ≤ (store_state disk.state old).log.generation))
      ⊎ (((store_state disk.state old).log.generation < LAST_GENERATION) × ((e ≡ OutOfMemory) ⊎ ((e ≡ DeviceFailed) × LastFailed disk.failures disk.outlook old new))))
      → IsRefused disk old new e
  unchecked old new e true had none left is = refused_as old new e Failed is (none, had)
  unchecked old new e false had none (inl untouched) (inl (is, last)) =
      refused_as old new e Damaged is
      (none, subst (λ (s : StoreState). LAST_GENERATION ≤ s.log.generation) (sym untouched.0) last)
  unchecked old new e false had none (inr device) (inl (is, last)) = let never : ⊥ = cc in absurd never
  unchecked old new e false had none left (inr (less, inl is)) = refused_as old new e OutOfMemory is none
  unchecked old new e false had none left (inr (less, inr (is, last))) = refused_as old new e DeviceFailed is last

  uncommitted : (old new : Store D disk) (e : Refusal) (failed : Bool) (legal illegal : Type 0) → old.failed ≡ failed → NoneFailed disk.failures disk.outlook old new
      → MatchBool failed (e ≡ Failed)
      (((e ≡ OutOfStep) × illegal) ⊎ (legal × ((e ≡ OutOfMemory) ⊎ ((e ≡ DeviceFailed) × LastFailed disk.failures disk.outlook old new))))
      → IsRefused disk old new e
  uncommitted old new e true legal illegal had none is = refused_as old new e Failed is (none, had)
  uncommitted old new e false legal illegal had none (inl (is, why)) = refused_as old new e OutOfStep is none
  uncommitted old new e false legal illegal had none (inr (fits, inl is)) = refused_as old new e OutOfMemory is none
  uncommitted old new e false legal illegal had none (inr (fits, inr (is, last))) = refused_as old new e DeviceFailed is last

  module _ (why_none : (p : F) (n : ℕ) (e : Refusal) (q : F) → gives p n (Err e) q → (e ≡ OutOfMemory) ⊎ (e ≡ OutOfStep)) where
    broken : (old new : Store D disk) (batches : List (List Decision)) (torn : List Decision) (p q : F) (e : Refusal)
        → NoneFailed disk.failures disk.outlook old new
        → HasBroken gives most (IsUntouched disk.state old new) (LastFailed disk.failures disk.outlook old new) (store_state disk.state old) batches torn p q e
        → IsRefused disk old new e
    broken old new batches torn p q e none (WasUnready unasked untorn first (left, inl is)) = refused_as old new e OutOfMemory is none
    broken old new batches torn p q e none (WasUnready unasked untorn first (left, inr (rough, why))) = unchecked old new e old.failed refl none left why
    broken old new batches torn p q e none (HadNoRoom unasked untorn some is) = refused_as old new e OutOfMemory is none
    broken old new batches torn p q e none (FeedRefused ready untorn given) =
        elim (why_none p _ e q given) [
          | inl is ↦ refused_as old new e OutOfMemory is none
          | inr is ↦ refused_as old new e OutOfStep is none
        ]
    broken old new batches torn p q e none (WasUncommitted ready next given why further) = uncommitted old new e old.failed _ _ refl none why

    one_refused : (old new : Store D disk) (p q : F) (x y : C) (e : Refusal)
        → IsChain disk gives effects call most old new p q x y (Err e) → IsRefused disk old new e
    one_refused old new p q x y e chain =
        elim chain.calls [
          | inl none ↦ broken old new chain.batches chain.torn chain.feed q e none chain.ends.1
          | inr (is, last) ↦ refused_as old new e DeviceFailed is last
        ]

    -- after chains that ended well
    refused_after : (old s new : Store D disk) (e : Refusal) → NoneFailed disk.failures disk.outlook old s → IsRefused disk s new e → IsRefused disk old new e
    refused_after old s new DeviceFailed first last =
        (calls_then {T = Unit {0}} disk.failures disk.outlook old s new (Err DeviceFailed) first (refl, last)).1
    refused_after old s new OutOfMemory first none = none_then disk.failures disk.outlook old s new first none
    refused_after old s new OutOfStep first none = none_then disk.failures disk.outlook old s new first none
    refused_after old s new Failed first (none, had) = (none_then disk.failures disk.outlook old s new first none, sym first.failed ∙ had)
    refused_after old s new Damaged first (none, last) = (none_then disk.failures disk.outlook old s new first none, last)
    refused_after old s new e first never = absurd never

    all_refused : (old new : Store D disk) (p q : F) (x y : C) (counts : List ℕ) (e : Refusal)
        → MakeChains disk gives effects call most old new p q x y (answers_of counts (Err e)) → IsRefused disk old new e
    all_refused old new p q x y [] e (s, (f, (o, (chain, (same, rest))))) =
        subst (λ (t : Store D disk). IsRefused disk old t e) (sym same) (one_refused old s p f x o e chain)
    all_refused old new p q x y (n ∷ counts) e (s, (f, (o, (chain, rest)))) =
        refused_after old s new e chain.calls (all_refused s new f q o y counts e rest)

  pub refused_by : (old new : Store D disk) (p q : F) (x y : C) (counts : List ℕ) (result : Result (Unit {0}) Refusal)
      → MakeChains disk gives effects call most old new p q x y (answers_of counts result)
      → ((p : F) (n : ℕ) (e : Refusal) (q : F) → gives p n (Err e) q → (e ≡ OutOfMemory) ⊎ (e ≡ OutOfStep))
      → IfErr result (IsRefused disk old new)
  refused_by old new p q x y counts (Ok done) made why_none = tt
  refused_by old new p q x y counts (Err e) made why_none = all_refused why_none old new p q x y counts e made

-- what is known of a refusal that is passed on
pub answered_on : {T : Type 0} (result : Result T Refusal) (e : Refusal) (holds : Refusal → Type 0)
    → IsErrAnd result (λ answered. answered ≡ e) → holds e → IfErr result holds
answered_on (Ok x) e holds is h = tt
answered_on (Err answered) e holds is h = subst holds (sym is) h

-- ---- what is reported of a life

-- a life that was refused gives no report
pub ended_well : {S T : Type 0} (ended : Result T Refusal) (report : Result S ServeFault) (holds : Type 0)
    → IfErr ended (λ refusal. report ≡ Err (Refused refusal)) → OnOk ended holds → OnOk report holds
ended_well (Ok done) (Ok report) holds refused h = h
ended_well (Ok done) (Err fault) holds refused h = tt
ended_well (Err e) report holds refused h = subst (λ r. OnOk r holds) (sym refused) tt

-- a life that gives a report committed what the report says
pub told_committed : (ended : Result (Unit {0}) Refusal) (report : Result LifeReport ServeFault) (before after taken : ℕ)
    → IfErr ended (λ refusal. report ≡ Err (Refused refusal)) → OnOk ended (MatchResult report (λ r. r.made ≡ taken) IsUntold)
    → OnOk ended (after + 0 ≡ before + taken) → IfOk report (λ r. after ≡ before + r.made)
told_committed (Ok done) (Ok report) before after taken refused told committed = omega (arith, told, committed)
told_committed (Ok done) (Err fault) before after taken refused told committed = tt
told_committed (Err e) report before after taken refused told committed =
    subst (λ r. IfOk r (λ (of : LifeReport). after ≡ before + of.made)) (sym refused) tt

-- why there is no report of a life that has begun
pub unlisted : (ended : Result (Unit {0}) Refusal) (report : Result LifeReport ServeFault) (taken : ℕ)
    → IfErr ended (λ refusal. report ≡ Err (Refused refusal)) → OnOk ended (MatchResult report (λ r. r.made ≡ taken) IsUntold)
    → IfErr report IsNotOfNames
unlisted (Ok done) (Ok report) taken refused told = tt
unlisted (Ok done) (Err fault) taken refused (inl is) = subst IsNotOfNames (sym is) tt
unlisted (Ok done) (Err fault) taken refused (inr is) = subst IsNotOfNames (sym is) tt
unlisted (Err e) report taken refused told = subst (λ r. IfErr r IsNotOfNames) (sym refused) tt

module _ {D : Type 0} (disk : Ghosts D) where
  untold : (old new : Store D disk) (fault : ServeFault) → NoneFailed disk.failures disk.outlook old new → IsUntold fault → IsFaultOf disk old new fault
  untold old new fault none (inl is) = subst (IsFaultOf disk old new) (sym is) none
  untold old new fault none (inr is) = subst (IsFaultOf disk old new) (sym is) none

  -- why there is no report
  pub told_refused : (ended : Result (Unit {0}) Refusal) (report : Result LifeReport ServeFault) (taken : ℕ) (old new : Store D disk)
      → IfErr ended (λ refusal. report ≡ Err (Refused refusal)) → OnOk ended (MatchResult report (λ r. r.made ≡ taken) IsUntold)
      → OnOk ended (NoneFailed disk.failures disk.outlook old new) → IfErr ended (IsRefused disk old new)
      → IfErr report (IsFaultOf disk old new)
  told_refused (Ok done) (Ok report) taken old new refused told none why = tt
  told_refused (Ok done) (Err fault) taken old new refused told none why = untold old new fault none told
  told_refused (Err e) report taken old new refused told none why = subst (λ r. IfErr r (IsFaultOf disk old new)) (sym refused) why

  -- why a life wasn't begun
  pub unbegun : (store : Store D disk) (fault : ServeFault) → IsOfBeginning fault → IsFaultOf disk store store fault
  unbegun store Listen is = refl
  unbegun store (Names fault) is = refl
  unbegun store (Refused refusal) is =
      subst (IsRefused disk store store) (sym is) (none_yet disk.failures disk.outlook store)
