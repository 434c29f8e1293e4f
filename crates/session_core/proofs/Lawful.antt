-- The state of a core stays lawful.
use Rattle.std.proofs.Common.{inl, inr, ◌≡◌, ◌+◌, ◌<◌, ◌≤◌, ◌∙◌, ◌↔◌, ℕ, zero, suc, min, Bool, true, false, List, [], ◌∷◌, ◌++◌, length, take, drop, cond, nat_lt, Result, Ok, Err, refl, sym, ap, subst, arith}
use Rattle.std.specs.Bool.{MatchBool}
use Rattle.std.specs.Result.{IsErrAnd}
use Rattle.std.proofs.lemmas.Result.{err_from_is_err_and}
use Rattle.std.proofs.lemmas.Bool.{and_parts, ltb-true}
use Rattle.std.proofs.lemmas.List.{length_push, length-append, length-take-le, take-append-drop, take_min}
use Rattle.lw_types.specs.Answer.{Answers, AnswersWithMemory}
use Rattle.lw_types.specs.declared.refusal.Refusal.{Refusal}
use Rattle.lw_types.specs.declared.refusal.Refusal.TheVariants.{Backlog, OutOfMemory}
use Rattle.devices.specs.declared.command.Command.{Command}
use Rattle.sessions.specs.Table.{TableState, TableStep, step}
use Rattle.sessions.specs.Decision.{AnswersTo, is_frugal, ContinueAll, Decides, IsDecision, FitsTable, FitAll, with_decision, with_decisions, without_decisions}
use Rattle.sessions.specs.declared.decision.Decision.{Decision}
use Rattle.session_core.specs.declared.decisions.TheConstants.{LAST_NUMBER, MOST_UNTAKEN}
use Rattle.session_core.specs.State.{DecisionsState, IsLawful, now_of, last_number}
use Rattle.session_core.specs.Deciding.{has_room, step_if_room, IsWithoutMemory, Makes, after_taking}
use Rattle.lw_types.specs.RefusalLemmas.{same_Err}

abbrev pub after_making : DecisionsState → Decision → DecisionsState
after_making s d = record s { log = s.log ++ d ∷ []; made = s.made + 1 }

-- there is room if few decisions wait and a number is left
pub room-few : (s : DecisionsState) → has_room s ≡ true → (length s.log < MOST_UNTAKEN) × (last_number s < LAST_NUMBER)
room-few s room =
    let parts = and_parts (nat_lt (length s.log) MOST_UNTAKEN) (nat_lt (last_number s) LAST_NUMBER) room in
    (ltb-true (length s.log) MOST_UNTAKEN parts.0, ltb-true (last_number s) LAST_NUMBER parts.1)

-- what is wanted while there is room
pub wanted-room : (s : DecisionsState) (c : Command) → has_room s ≡ true → step_if_room s c ≡ step (now_of s) c
wanted-room s c room = ap (λ b. cond b (step (now_of s) c) (Err Backlog)) room

-- a command was decided
abbrev pub decided : Result (Unit {0}) Refusal
decided = Ok tt

not_both : {A : Type 0} (x : A) (e : Refusal) → ◌≡◌ {A = Result A Refusal} (Ok x) (Err e) → ⊥
not_both x e h = cc

-- what is returned as a value is wanted
answered_ok : {A B : Type 0} (b : Bool) (w : Result A Refusal) (Is : A → B → Type 0) (y : B)
    → MatchBool b (Answers w Is (Ok y)) (AnswersWithMemory w Is (Ok y)) → (x : A) × (w ≡ Ok x) × Is x y
answered_ok true (Ok x) Is y h = (x, refl, h)
answered_ok true (Err e) Is y h = absurd (not_both y e h)
answered_ok false (Ok x) Is y h = (x, refl, h)
answered_ok false (Err e) Is y h = absurd h

-- a value that is wanted is returned
answers_ok : {A B : Type 0} (b : Bool) (Is : A → B → Type 0) (x : A) (y : B) → Is x y
    → MatchBool b (Answers (Ok x) Is (Ok y)) (AnswersWithMemory (Ok x) Is (Ok y))
answers_ok true Is x y h = h
answers_ok false Is x y h = h

-- the step of a decision that was made
pub step-made : (t : TableState) (seq : ℕ) (c : Command) (d : Decision) → Decides t seq c (Ok d)
    → (st : TableStep) × (step t c ≡ Ok st) × IsDecision t seq c st d
step-made t seq c d made = answered_ok (is_frugal c (step t c)) (step t c) (IsDecision t seq c) d made

-- a decided command was wanted
pub decided-made : (s : DecisionsState) (c : Command) (d : Decision) → has_room s ≡ true → Decides (now_of s) (last_number s + 1) c (Ok d) → (new : DecisionsState)
    → new ≡ after_making s d → AnswersTo c (step_if_room s c) (λ st _. Makes s c st new) decided
decided-made s c d room made new is =
    let st = step-made (now_of s) (last_number s + 1) c d made in
    subst (λ w. AnswersTo c w (λ st _. Makes s c st new) decided) (sym (wanted-room s c room ∙ st.1))
    (answers_ok (is_frugal c (Ok st.0)) (λ st _. Makes s c st new) st.0 (tt {0}) (record { decision = d; is_step = st.2; new_is = is }))

-- ---- when memory is out

-- a refusal is returned for any value that would be wanted
refused_as : {B C : Type 0} (Is : TableStep → B → Type 0) (Is' : TableStep → C → Type 0) (b : Bool) (w : Result TableStep Refusal) (e : Refusal)
    → MatchBool b (Answers w Is (Err e)) (AnswersWithMemory w Is (Err e)) → MatchBool b (Answers w Is' (Err e)) (AnswersWithMemory w Is' (Err e))
refused_as {B} {C} Is Is' true (Ok x) e h = h
refused_as {B} {C} Is Is' true (Err e') e h = same_Err e e' h
refused_as {B} {C} Is Is' false w e h = h

no_memory : (Is : TableStep → Unit {0} → Type 0) (b : Bool) (x : TableStep) → MatchBool b (Answers (Ok x) Is (Err OutOfMemory)) (AnswersWithMemory (Ok x) Is (Err OutOfMemory))
no_memory Is true x = refl
no_memory Is false x = inl refl

no_room : (Is : TableStep → Unit {0} → Type 0) (b : Bool) → MatchBool b (Answers (Err Backlog) Is (Err Backlog)) (AnswersWithMemory (Err Backlog) Is (Err Backlog))
no_room Is true = refl
no_room Is false = inr refl

abbrev AnyStep : TableStep → Unit {0} → Type 0
AnyStep _ _ = Unit {0}

abbrev NoStep : TableStep → Unit {0} → Type 0
NoStep _ _ = ⊥

pub lacks-full : (s : DecisionsState) (c : Command) → has_room s ≡ false → IsWithoutMemory s c Backlog
lacks-full s c full =
    subst (λ w. AnswersTo c w NoStep (Err Backlog)) (sym (ap (λ b. cond b (step (now_of s) c) (Err Backlog)) full)) (no_room NoStep (is_frugal c (Err Backlog)))

-- a lack of room is returned before anything else
pub full-there : (s : DecisionsState) (c : Command) (Is : TableStep → Unit {0} → Type 0) → has_room s ≡ false → AnswersTo c (step_if_room s c) Is (Err Backlog)
full-there s c Is full = subst (λ w. AnswersTo c w Is (Err Backlog)) (sym (ap (λ b. cond b (step (now_of s) c) (Err Backlog)) full)) (no_room Is (is_frugal c (Err Backlog)))

module _ (s : DecisionsState) (t : TableState) (c : Command) (now : t ≡ now_of s) (room : has_room s ≡ true) where
  here : step_if_room s c ≡ step t c
  here = wanted-room s c room ∙ ap (λ (t : TableState). step t c) (sym now)

  -- a refusal of the table is passed on
  pub refused-there : (seq : ℕ) (Is : TableStep → Unit {0} → Type 0) (e : Refusal) (result : Result (Unit {0}) Refusal) → IsErrAnd result (λ x. x ≡ e)
      → Decides t seq c (Err e) → AnswersTo c (step_if_room s c) Is result
  refused-there seq Is e result handed answer =
      let r = err_from_is_err_and result handed in
      subst (AnswersTo c (step_if_room s c) Is) (sym (r.1 ∙ ap Err r.2))
      (subst (λ w. AnswersTo c w Is (Err e)) (sym here) (refused_as (IsDecision t seq c) Is (is_frugal c (step t c)) (step t c) e answer))

  -- and memory to store what was decided is out
  pub not-kept : (seq : ℕ) (Is : TableStep → Unit {0} → Type 0) (d : Decision) (result : Result (Unit {0}) Refusal) → IsErrAnd result (λ x. x ≡ OutOfMemory)
      → Decides t seq c (Ok d) → AnswersTo c (step_if_room s c) Is result
  not-kept seq Is d result none made =
      let r = err_from_is_err_and result none in
      let st = answered_ok (is_frugal c (step t c)) (step t c) (IsDecision t seq c) d made in
      subst (AnswersTo c (step_if_room s c) Is) (sym (r.1 ∙ ap Err r.2))
      (subst (λ w. AnswersTo c w Is (Err OutOfMemory)) (sym (here ∙ st.1)) (no_memory Is (is_frugal c (Ok st.0)) st.0))

  -- a command that would be decided
  pub lacks-ok : AnswersTo c (step t c) AnyStep (Ok tt) → IsWithoutMemory s c OutOfMemory
  lacks-ok weighed =
      let st = answered_ok (is_frugal c (step t c)) (step t c) AnyStep tt weighed in
      subst (λ w. AnswersTo c w NoStep (Err OutOfMemory)) (sym (here ∙ st.1)) (no_memory NoStep (is_frugal c (Ok st.0)) st.0)

  -- and one that wouldn't
  pub lacks-err : (e : Refusal) → AnswersTo c (step t c) AnyStep (Err e) → IsWithoutMemory s c e
  lacks-err e weighed = subst (λ w. AnswersTo c w NoStep (Err e)) (sym here) (refused_as AnyStep NoStep (is_frugal c (step t c)) (step t c) e weighed)

-- so its turn is refused in this way
pub lacks-turned : (s : DecisionsState) (c : Command) (Is : TableStep → Unit {0} → Type 0) (e : Refusal) → IsWithoutMemory s c e → AnswersTo c (step_if_room s c) Is (Err e)
lacks-turned s c Is e lacks = refused_as NoStep Is (is_frugal c (step_if_room s c)) (step_if_room s c) e lacks

drop_min : {X : Type 0} (n : ℕ) (xs : List X) → drop (min n (length xs)) xs ≡ drop n xs
drop_min zero xs = let on : min zero (length xs) ≡ zero = omega arith in ap (λ k. drop k xs) on
drop_min (suc n) [] = let on : min (suc n) 0 ≡ 0 = omega arith in ap (λ k. drop k []) on
drop_min (suc n) (x ∷ xs) =
    let on : min (suc n) (length (x ∷ xs)) ≡ suc (min n (length xs)) = omega arith in
    ap (λ k. drop k (x ∷ xs)) on ∙ drop_min n xs

-- Two runs of decisions are one run, and what they leave can be undone.
module _
    (continues : (t : TableState) (seq : ℕ) (first second : List Decision) → ContinueAll t seq (first ++ second)
    ↔ (ContinueAll t seq first × ContinueAll (with_decisions t first) (seq + length first) second))
    (joined : (t : TableState) (first second : List Decision) → with_decisions t (first ++ second) ≡ with_decisions (with_decisions t first) second)
    (back : (t : TableState) (ds : List Decision) → FitAll t ds → without_decisions (with_decisions t ds) ds ≡ t) where
  -- one decision more
  pub lawful-made : (s : DecisionsState) (d : Decision) → IsLawful s → length s.log < MOST_UNTAKEN → last_number s < LAST_NUMBER
      → FitsTable (now_of s) d → d.seq ≡ last_number s + 1 → IsLawful (after_making s d)
  lawful-made s d lawful room below fits number =
      let longer = length_push s.log d in
      let next : d.seq ≡ ((s.opening + s.taken) + length s.log) + 1 = omega (arith, lawful.count) in
      record {
        continues = (continues s.base (s.opening + s.taken) s.log (d ∷ [])).1 (lawful.continues, record { fit = (fits, tt); numbered = (next, tt) });
        count = omega (arith, longer, lawful.count);
        few = omega (arith, longer);
        numbers = omega arith;
      }

  pub now-made : (s : DecisionsState) (d : Decision) → now_of (after_making s d) ≡ with_decision (now_of s) d
  now-made s d = joined s.base s.log (d ∷ [])

  -- what is kept of it
  pub state-made : (s : DecisionsState) (d : Decision) (table : TableState) (log : List Decision) → IsLawful (after_making s d)
      → table ≡ with_decision (now_of s) d → log ≡ s.log ++ d ∷ []
      → record s { base = without_decisions table log; made = s.made + 1; log = log } ≡ after_making s d
  state-made s d table log lawful table_is log_is =
      let kept : TableState → List Decision → DecisionsState = λ t l. record s { base = without_decisions t l; made = s.made + 1; log = l } in
      ap (λ l. kept table l) log_is
      ∙ (ap (λ t. kept t (s.log ++ d ∷ [])) (table_is ∙ sym (now-made s d))
      ∙ ap (λ b. record s { base = b; made = s.made + 1; log = s.log ++ d ∷ [] }) (back s.base (s.log ++ d ∷ []) lawful.continues.fit))

  parts : (s : DecisionsState) (n : ℕ) → IsLawful s
      → ContinueAll s.base (s.opening + s.taken) (take n s.log)
      × ContinueAll (with_decisions s.base (take n s.log)) ((s.opening + s.taken) + length (take n s.log)) (drop n s.log)
  parts s n lawful =
      let P : List Decision → Type 0 = λ l. ContinueAll s.base (s.opening + s.taken) l in
      (continues s.base (s.opening + s.taken) (take n s.log) (drop n s.log)).0 (subst P (sym (take-append-drop n s.log)) lawful.continues)

  -- the first decisions are taken
  pub lawful-taken : (s : DecisionsState) (n : ℕ) → IsLawful s → IsLawful (after_taking s n)
  lawful-taken s n lawful =
      let sum : length (take n s.log) + length (drop n s.log) ≡ length s.log =
      sym (length-append (take n s.log) (drop n s.log)) ∙ ap length (take-append-drop n s.log) in
      let at : (s.opening + s.taken) + length (take n s.log) ≡ s.opening + (s.taken + length (take n s.log)) = omega arith in
      record {
        continues = (let Q : ℕ → Type 0 = λ k. ContinueAll (with_decisions s.base (take n s.log)) k (drop n s.log) in subst Q at (parts s n lawful).1);
        count = omega (arith, sum, lawful.count);
        few = omega (arith, sum, lawful.few);
        numbers = lawful.numbers;
      }

  pub now-taken : (s : DecisionsState) (n : ℕ) → now_of (after_taking s n) ≡ now_of s
  now-taken s n = sym (joined s.base (take n s.log) (drop n s.log)) ∙ ap (with_decisions s.base) (take-append-drop n s.log)

  -- what is kept then
  pub state-taken : (s : DecisionsState) (n : ℕ) (table : TableState) (log : List Decision) → IsLawful s → n ≤ length s.log → table ≡ now_of s → log ≡ drop n s.log
      → record s { base = without_decisions table log; taken = s.taken + n; log = log } ≡ after_taking s n
  state-taken s n table log lawful within table_is log_is =
      let kept : TableState → List Decision → DecisionsState = λ t l. record s { base = without_decisions t l; taken = s.taken + n; log = l } in
      let front = with_decisions s.base (take n s.log) in
      ap (λ l. kept table l) log_is
      ∙ (ap (λ t. kept t (drop n s.log)) (table_is ∙ sym (now-taken s n))
      ∙ (ap (λ b. record s { base = b; taken = s.taken + n; log = drop n s.log }) (back front (drop n s.log) (parts s n lawful).1.fit)
      ∙ ap (λ k. record s { base = front; taken = s.taken + k; log = drop n s.log }) (sym (length-take-le n s.log within))))

-- taking more decisions than there are takes all of them
pub taken-min : (s : DecisionsState) (n most : ℕ) → n ≡ min most (length s.log) → after_taking s n ≡ after_taking s most
taken-min s n most least =
    ap (λ l. record s { base = with_decisions s.base l; taken = s.taken + length l; log = drop n s.log }) (ap (λ k. take k s.log) least ∙ take_min most s.log)
    ∙ ap (λ l. record s { base = with_decisions s.base (take most s.log); taken = s.taken + length (take most s.log); log = l })
    (ap (λ k. drop k s.log) least ∙ drop_min most s.log)

-- one element more leaves the front of a list
moved-suc : {X : Type 0} (n : ℕ) (xs : List X) (x : X) (rest : List X) → drop n xs ≡ x ∷ rest
    → (take (suc n) xs ≡ take n xs ++ x ∷ []) × (drop (suc n) xs ≡ rest)
moved-suc zero [] x rest h = absurd (not_both x rest h)
  where
    not_both : {X : Type 0} (x : X) (rest : List X) → [] ≡ x ∷ rest → ⊥
    not_both x rest h = cc
moved-suc zero (y ∷ ys) x rest h = (ap (λ z. z ∷ []) (same_head h), same_tail h)
  where
    same_head : y ∷ ys ≡ x ∷ rest → y ≡ x
    same_head h = cc

    same_tail : y ∷ ys ≡ x ∷ rest → ys ≡ rest
    same_tail h = cc
moved-suc (suc n) [] x rest h = absurd (not_both x rest h)
  where
    not_both : {X : Type 0} (x : X) (rest : List X) → [] ≡ x ∷ rest → ⊥
    not_both x rest h = cc
moved-suc (suc n) (y ∷ ys) x rest h = let more = moved-suc n ys x rest h in (ap (λ l. y ∷ l) more.0, more.1)

pub moved-one : {X : Type 0} (n : ℕ) (xs : List X) (x : X) (rest : List X) → drop n xs ≡ x ∷ rest
    → (take (n + 1) xs ≡ take n xs ++ x ∷ []) × (drop (n + 1) xs ≡ rest)
moved-one n xs x rest h =
    let next : n + 1 ≡ suc n = omega arith in
    let more = moved-suc n xs x rest h in
    (ap (λ k. take k xs) next ∙ more.0, ap (λ k. drop k xs) next ∙ more.1)
