-- Calls of a store's disk, one after another.
use Rattle.std.proofs.Common.{◌≡◌, ◌≢◌, ◌⊎◌, ◌∙◌, ◌+◌, ◌-◌, ◌<◌, ◌≤◌, ℕ, zero, suc, List, Bool, true, false, Result, Ok, Err, MatchBool, MatchResult, ap, subst, sym, refl, inl, inr, arith}
use Rattle.lw_types.specs.declared.refusal.Refusal.{Refusal}
use Rattle.lw_types.specs.declared.refusal.Refusal.TheVariants.{Damaged, DeviceFailed, Failed, OutOfMemory, OutOfStep}
use Rattle.disk.specs.Outlook.{IsForeseen, Outlook}
use Rattle.disk.specs.Outlook.Outlook.{Unknown, AllSucceed, FailsAfter}
use Rattle.disk.specs.State.{State}
use Rattle.sessions.specs.Decision.{IsLegalContinuation}
use Rattle.sessions.specs.Table.{TableState}
use Rattle.sessions.specs.declared.decision.Decision.{Decision}
use Rattle.store.specs.declared.areas.TheConstants.{LAST_GENERATION}
use Rattle.store.specs.declared.store.Store.{Store}
use Rattle.store.specs.State.{IsOneCall, IsSettled, disk_of, store_state}
use Rattle.flusher.specs.Calls.{AreStoreCalls, HasFailedAfter, HasFailedWithin, HaveSucceeded, IsUntouched, LastFailed, NoneFailed}

pub none_untouched : {D : Type 0} {g : _} (state : D → State) (failures : D → ℕ) (outlook : D → Outlook) (old new : Store D g)
    → IsUntouched state old new → NoneFailed failures outlook old new
none_untouched state failures outlook old new (same, disk) = record {
  count = ap failures disk;
  unarmed = λ all. ap outlook disk ∙ all;
  failed = ap (λ s. s.failed) same;
}

-- calls that succeeded, and then a refusal
pub then_refused : {D : Type 0} {g : _} (state : D → State) (failures : D → ℕ) (outlook : D → Outlook) (old mid new : Store D g) (e : Refusal)
    → NoneFailed failures outlook old mid
    → IsUntouched state mid new ⊎ ((e ≡ DeviceFailed) × LastFailed failures outlook mid new)
    → NoneFailed failures outlook old new ⊎ ((e ≡ DeviceFailed) × LastFailed failures outlook old new)
then_refused state failures outlook old mid new e first (inl same) =
    let next = none_untouched state failures outlook mid new same in
    inl (record { count = next.count ∙ first.count; unarmed = λ all. next.unarmed (first.unarmed all); failed = next.failed ∙ first.failed })
then_refused state failures outlook old mid new e first (inr (is, last)) =
    inr (is, record { count = last.count ∙ ap (λ n. n + 1) first.count; armed = λ all. last.armed (first.unarmed all); failed = last.failed })

-- calls that succeeded, and others that did
pub none_then : {D : Type 0} {g : _} (failures : D → ℕ) (outlook : D → Outlook) (old mid new : Store D g)
    → NoneFailed failures outlook old mid → NoneFailed failures outlook mid new → NoneFailed failures outlook old new
none_then failures outlook old mid new first next = record {
  count = next.count ∙ first.count;
  unarmed = λ all. next.unarmed (first.unarmed all);
  failed = next.failed ∙ first.failed;
}

-- no call
pub none_yet : {D : Type 0} {g : _} (failures : D → ℕ) (outlook : D → Outlook) (s : Store D g) → NoneFailed failures outlook s s
none_yet failures outlook s = record { count = refl; unarmed = λ all. all; failed = refl }

-- one call
pub one_call : {D T : Type 0} {g : _} (failures : D → ℕ) (outlook : D → Outlook) (old new : Store D g) (r : Result T Refusal)
    → IsOneCall failures outlook old new r → AreStoreCalls failures outlook old new r
one_call failures outlook old new (Ok x) is = record {
  count = is.cause;
  unarmed = λ all. (subst (λ o. IsForeseen o true (outlook (disk_of new))) all is.foreseen).1;
  failed = is.failed;
}
one_call failures outlook old new (Err e) is = (
  is.failed.0,
  record {
    count = is.cause;
    armed = λ all. let none : false ≡ true = (subst (λ o. IsForeseen o false (outlook (disk_of new))) all is.foreseen).0 in cc;
    failed = is.failed.1;
  },
)

-- calls that succeeded, and others
pub calls_then : {D T : Type 0} {g : _} (failures : D → ℕ) (outlook : D → Outlook) (old mid new : Store D g) (r : Result T Refusal)
    → NoneFailed failures outlook old mid → AreStoreCalls failures outlook mid new r → AreStoreCalls failures outlook old new r
calls_then failures outlook old mid new (Ok x) first next = none_then failures outlook old mid new first next
calls_then failures outlook old mid new (Err e) first (is, last) =
    (is, record { count = last.count ∙ ap (λ n. n + 1) first.count; armed = λ all. last.armed (first.unarmed all); failed = last.failed })

-- if none of the calls failed, a refused store is still settled
pub settled_still : {D : Type 0} {g : _} (state : D → State) (failures : D → ℕ) (outlook : D → Outlook) (old mid new : Store D g) (e : Refusal)
    → NoneFailed failures outlook old mid
    → IsUntouched state mid new ⊎ ((e ≡ DeviceFailed) × LastFailed failures outlook mid new)
    → IsSettled (store_state state mid) → NoneFailed failures outlook old new → IsSettled (store_state state new)
settled_still state failures outlook old mid new e first (inl same) settled none = subst IsSettled (sym same.0) settled
settled_still state failures outlook old mid new e first (inr (is, last)) settled none =
    absurd (omega (arith, none.count, first.count, last.count))

-- ---- how many calls were made

pub no_calls : (o : Outlook) → HaveSucceeded 0 o o
no_calls Unknown = refl
no_calls AllSucceed = refl
no_calls (FailsAfter left) = (omega arith, ap FailsAfter (let same : left ≡ left - 0 = omega arith in same))

pub one_more : (made : ℕ) (a b c : Outlook) → HaveSucceeded made a b → IsForeseen b true c → HaveSucceeded (made + 1) a c
one_more made Unknown b c was is = subst (λ b. IsForeseen b true c) was is
one_more made AllSucceed b c was is = (subst (λ b. IsForeseen b true c) was is).1
one_more made (FailsAfter left) b c (few, was) is = by (left - made) refl (subst (λ b. IsForeseen b true c) was is)
  where
    by : (n : ℕ) → left - made ≡ n → IsForeseen (FailsAfter n) true c → (made + 1 ≤ left) × (c ≡ FailsAfter (left - (made + 1)))
    by zero same h = let no : true ≡ false = h.0 in cc
    by (suc n) same h = (omega (arith, same), h.1 ∙ ap FailsAfter (let less : n ≡ left - (made + 1) = omega (arith, same) in less))

pub then_fails : (made : ℕ) (a b c : Outlook) → HaveSucceeded made a b → IsForeseen b false c → HasFailedAfter made a c
then_fails made Unknown b c was is = subst (λ b. IsForeseen b false c) was is
then_fails made AllSucceed b c was is = let no : false ≡ true = (subst (λ b. IsForeseen b false c) was is).0 in cc
then_fails made (FailsAfter left) b c (few, was) is = by (left - made) refl (subst (λ b. IsForeseen b false c) was is)
  where
    by : (n : ℕ) → left - made ≡ n → IsForeseen (FailsAfter n) false c → (left ≡ made) × (c ≡ AllSucceed)
    by zero same h = (omega (arith, same, few), h.1)
    by (suc n) same h = let no : false ≡ true = h.0 in cc

pub more_succeed : (j k : ℕ) (a b c : Outlook) → HaveSucceeded j a b → HaveSucceeded k b c → HaveSucceeded (j + k) a c
more_succeed j k Unknown b c was is = subst (λ b. HaveSucceeded k b c) was is
more_succeed j k AllSucceed b c was is = subst (λ b. HaveSucceeded k b c) was is
more_succeed j k (FailsAfter left) b c (few, was) is =
    let h = subst (λ b. HaveSucceeded k b c) was is in
    let less = h.0 in
    (omega (arith, few, less), h.1 ∙ ap FailsAfter (let same : left - j - k ≡ left - (j + k) = omega (arith, few, less) in same))

more_fail : (j k : ℕ) (a b c : Outlook) → HaveSucceeded j a b → HasFailedAfter k b c → HasFailedAfter (j + k) a c
more_fail j k Unknown b c was is = subst (λ b. HasFailedAfter k b c) was is
more_fail j k AllSucceed b c was is = subst (λ b. HasFailedAfter k b c) was is
more_fail j k (FailsAfter left) b c (few, was) is =
    let h = subst (λ b. HasFailedAfter k b c) was is in
    let same = h.0 in
    (omega (arith, few, same), h.1)

pub more_within : (j least most : ℕ) (a b c : Outlook) → HaveSucceeded j a b → HasFailedWithin least most b c → HasFailedWithin (j + least) (j + most) a c
more_within j least most a b c was (made, (from, (less, is))) = (j + made, (omega (arith, from), (omega (arith, less), more_fail j made a b c was is)))

-- ---- why a batch wasn't committed

-- by whether the store has failed, its table and its number
abbrev WhyNot : Bool → TableState → ℕ → List Decision → Type 0 → Refusal → Type 0
WhyNot failed table seq ds failure e =
    MatchBool failed
    (e ≡ Failed)
    (((e ≡ OutOfStep) × (¬ (IsLegalContinuation table seq ds)))
    ⊎ (IsLegalContinuation table seq ds × ((e ≡ OutOfMemory) ⊎ ((e ≡ DeviceFailed) × failure))))

-- ---- why no checkpoint was written

abbrev WhyNone : Bool → ℕ → Type 0 → Refusal → Type 0
WhyNone failed generation failure e =
    MatchBool failed
    (e ≡ Failed)
    (((e ≡ Damaged) × (LAST_GENERATION ≤ generation))
    ⊎ ((generation < LAST_GENERATION) × ((e ≡ OutOfMemory) ⊎ ((e ≡ DeviceFailed) × failure))))

-- it wasn't begun
pub not_begun : {T : Type 0} (failed : Bool) (generation : ℕ) (X : Type 0) (r : Result T Refusal) (e : Refusal) → r ≡ Err e
    → MatchBool failed (r ≡ Err Failed) (((e ≡ Damaged) × (LAST_GENERATION ≤ generation)) ⊎ ((e ≡ OutOfMemory) × (generation < LAST_GENERATION)))
    → WhyNone failed generation X e
not_begun true generation X r e was h = cc
not_begun false generation X r e was (inl h) = inl h
not_begun false generation X r e was (inr (is, less)) = inr (less, inl is)

-- it was begun, and its calls were made
pub once_begun : {T U : Type 0} (failed : Bool) (generation : ℕ) (rough N untouched X : Type 0) (x : T) (r : Result U Refusal) → rough
    → MatchBool failed (Ok x ≡ Err Failed) (generation < LAST_GENERATION)
    → MatchResult r (λ _. N) (λ e. (e ≡ DeviceFailed) × X)
    → MatchResult r (λ _. N) (λ e. (untouched ⊎ (e ≡ DeviceFailed)) × ((e ≡ OutOfMemory) ⊎ (rough × WhyNone failed generation X e)))
once_begun true generation rough N untouched X x r no_room is calls = let no : ⊥ = cc in absurd no
once_begun false generation rough N untouched X x (Ok y) no_room less calls = calls
once_begun false generation rough N untouched X x (Err e) no_room less (is, failure) = (inr is, inr (no_room, inr (less, inr (is, failure))))

-- ---- why a batch that a store was given wasn't committed

-- it wasn't begun
pub not_written : {T : Type 0} (failed : Bool) (table : TableState) (seq : ℕ) (ds : List Decision) (X : Type 0) (r : Result T Refusal) (e : Refusal) → r ≡ Err e
    → (r ≡ Err OutOfMemory → IsLegalContinuation table seq ds)
    → MatchBool failed (r ≡ Err Failed) (e ≢ OutOfMemory → (e ≡ OutOfStep) × (¬ (IsLegalContinuation table seq ds)))
    → WhyNot failed table seq ds X e
not_written true table seq ds X r e was memory h = cc
not_written false table seq ds X r OutOfMemory was memory h = inr (memory was, inl refl)
not_written false table seq ds X r e was memory h = inl (h (λ is. cc))
