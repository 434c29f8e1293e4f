-- What a flusher takes from a core continues what it took before.
use Rattle.std.proofs.Common.{◌≡◌, ◌≢◌, ◌∙◌, ◌+◌, ◌↔◌, ◌⊎◌, ◌<◌, inl, inr, ℕ, Bool, true, false, List, [], ◌∷◌, ◌++◌, length, take, flat_map, Result, Ok, Err, MatchBool, MatchResult, sym, ap, subst, refl, arith, append_assoc, length-append, take-append-drop}
use Rattle.std.specs.Prelude.{IfErr, OnOk}
use Rattle.std.specs.List.{FoldsTo}
use Rattle.std.proofs.lemmas.Grind.{flat_map-append}
use Rattle.std.proofs.lemmas.List.{append-nil, map-append}
use Rattle.lw_types.specs.declared.refusal.Refusal.{Refusal}
use Rattle.lw_types.specs.declared.refusal.Refusal.TheVariants.{OutOfMemory, OutOfStep, Failed, Damaged, DeviceFailed}
use Rattle.devices.specs.declared.command.Command.{Command}
use Rattle.sessions.specs.Decision.{ContinueAll, FitAll, IsLegalContinuation, with_decisions, commands_of}
use Rattle.sessions.specs.Table.{TableState, effects_of, fold_of}
use Rattle.sessions.specs.declared.batch.TheConstants.Batch.{MOST}
use Rattle.sessions.specs.declared.decision.Decision.{Decision}
use Rattle.session_core.specs.State.{DecisionsState}
use Rattle.devices.specs.declared.effect.Effect.{Effect}
use Rattle.disk.specs.declared.disk.Disk.{Ghosts}
use Rattle.disk.specs.State.{EveryImage}
use Rattle.store.specs.State.{StoreState, IsSettled, disk_of, store_state}
use Rattle.store.specs.declared.store.Store.{Store}
use Rattle.flusher.specs.Calls.{IsUntouched, LastFailed, NoneFailed}
use Rattle.flusher_lives.specs.declared.core_feed.CoreFeed.{CoreFeed}
use Rattle.flusher.specs.Chain.HasBroken.{FeedRefused, HadNoRoom, WasUncommitted, WasUnready}
use Rattle.flusher.specs.Chain.{FeedGives, GivesAll, HasBroken, HasEnded, IsChain, LeaveInOrder, batched_decisions, store_behind}
use Rattle.flusher_lives.specs.Coming.{DecidesAfterComing, DecidesMeanwhile, GivesAfterComing}
use Rattle.flusher.specs.Cycle.{HoldsWithOrWithout}
use Rattle.flusher_lives.specs.Deciding.{CommitsDecided, IsInStep, StaysInStep}
use Rattle.flusher_lives.proofs.Turned.{TakesAfter, gives_decided}

pub record TakingLaws : Type 0 where
  pub folding : (t : TableState) (ds : List Decision) → FitAll t ds → fold_of t (commands_of ds) ≡ with_decisions t ds
  pub joins : (t : TableState) (seq : ℕ) (first second : List Decision)
      → ContinueAll t seq (first ++ second) ↔ (ContinueAll t seq first × ContinueAll (with_decisions t first) (seq + length first) second)
  pub composing : (t : TableState) (first second : List Command) → fold_of t (first ++ second) ≡ fold_of (fold_of t first) second
  pub effects : (t : TableState) (first second : List Command) → effects_of t (first ++ second) ≡ effects_of t first ++ effects_of (fold_of t first) second

-- one take
module _ (laws : TakingLaws) (s : StoreState) (core next : DecisionsState) (decided batch : List Decision) (from : IsInStep s core)
    (takes : TakesAfter core decided MOST (Ok batch) next) where
  abbrev pub all : List Decision
  all = core.log ++ decided

  whole : ContinueAll core.base (core.opening + core.taken) all
  whole = takes.lawful.continues

  pub parts : batch ++ next.log ≡ all
  parts =
      ap (λ b. b ++ next.log) takes.took.0
      ∙ (ap (λ (n : DecisionsState). take MOST all ++ n.log) takes.took.1 ∙ take-append-drop MOST all)

  first : ContinueAll core.base (core.opening + core.taken) batch
  first =
      ((laws.joins core.base (core.opening + core.taken) batch next.log).0
      (subst (λ l. ContinueAll core.base (core.opening + core.taken) l) (sym parts) whole)).0

  pub continues : ContinueAll s.table s.seq batch
  continues =
      subst (λ t. ContinueAll t s.seq batch) from.table
      (subst (λ n. ContinueAll core.base n batch) from.seq first)

  pub goes_on : IsInStep (store_behind s (batch ∷ [])) next
  goes_on =
      record {
        table =
            ap (λ (n : DecisionsState). n.base) takes.took.1
            ∙ (ap (with_decisions core.base) (sym takes.took.0)
            ∙ (sym (laws.folding core.base batch first.fit)
            ∙ (ap (λ t. fold_of t (commands_of batch)) from.table ∙ ap (λ l. fold_of s.table (commands_of l)) (sym (append-nil batch)))));
        seq =
            let opening : next.opening ≡ core.opening = ap (λ (n : DecisionsState). n.opening) takes.took.1 in
            let taken : next.taken ≡ core.taken + length (take MOST all) = ap (λ (n : DecisionsState). n.taken) takes.took.1 in
            let size : length batch ≡ length (take MOST all) = ap length takes.took.0 in
            let more : length (batch ++ []) ≡ length batch = ap length (append-nil batch) in
            omega (arith, opening, taken, size, more, from.seq);
      }

  pub rest_continues : ContinueAll next.base (next.opening + next.taken) next.log
  rest_continues =
      let rest =
      ((laws.joins core.base (core.opening + core.taken) batch next.log).0
      (subst (λ l. ContinueAll core.base (core.opening + core.taken) l) (sym parts) whole)).1 in
      let base : with_decisions core.base batch ≡ next.base =
      ap (with_decisions core.base) takes.took.0 ∙ sym (ap (λ (n : DecisionsState). n.base) takes.took.1) in
      let opening : next.opening ≡ core.opening = ap (λ (n : DecisionsState). n.opening) takes.took.1 in
      let taken : next.taken ≡ core.taken + length (take MOST all) = ap (λ (n : DecisionsState). n.taken) takes.took.1 in
      let size : length batch ≡ length (take MOST all) = ap length takes.took.0 in
      let at : core.opening + core.taken + length batch ≡ next.opening + next.taken = omega (arith, opening, taken, size) in
      subst (λ t. ContinueAll t (next.opening + next.taken) next.log) base
      (subst (λ n. ContinueAll (with_decisions core.base batch) n next.log) at rest)

  -- what is decided later, too
  pub later : (more : List Decision) → ContinueAll next.base (next.opening + next.taken) (next.log ++ more)
      → ContinueAll core.base (core.opening + core.taken) (core.log ++ (decided ++ more))
  later more on =
      let base : next.base ≡ with_decisions core.base batch =
      ap (λ (n : DecisionsState). n.base) takes.took.1 ∙ ap (with_decisions core.base) (sym takes.took.0) in
      let opening : next.opening ≡ core.opening = ap (λ (n : DecisionsState). n.opening) takes.took.1 in
      let taken : next.taken ≡ core.taken + length (take MOST all) = ap (λ (n : DecisionsState). n.taken) takes.took.1 in
      let size : length batch ≡ length (take MOST all) = ap length takes.took.0 in
      let at : next.opening + next.taken ≡ core.opening + core.taken + length batch = omega (arith, opening, taken, size) in
      let second : ContinueAll (with_decisions core.base batch) (core.opening + core.taken + length batch) (next.log ++ more) =
      subst (λ t. ContinueAll t (core.opening + core.taken + length batch) (next.log ++ more)) base
      (subst (λ n. ContinueAll next.base n (next.log ++ more)) at on) in
      let lists : batch ++ (next.log ++ more) ≡ core.log ++ (decided ++ more) =
      sym (append_assoc batch next.log more) ∙ (ap (λ l. l ++ more) parts ∙ append_assoc core.log decided more) in
      subst (λ l. ContinueAll core.base (core.opening + core.taken) l) lists
      ((laws.joins core.base (core.opening + core.taken) batch (next.log ++ more)).1 (first, second))

-- ---- several takes

-- steps one after another
pub folds_then : {S A : Type 0} (step : S → A → S → Type 0) (p q r : S) (xs ys : List A) → FoldsTo step p xs q → FoldsTo step q ys r → FoldsTo step p (xs ++ ys) r
folds_then step p q r [] ys is more = subst (λ s. FoldsTo step s ys r) (sym is) more
folds_then step p q r (x ∷ xs) ys (mid, first, rest) more = (mid, first, folds_then step mid q r xs ys rest more)

one_more : (batches : List (List Decision)) (b : List Decision) → batched_decisions (batches ++ b ∷ []) ≡ batched_decisions batches ++ b
one_more batches b = flat_map-append (λ batch. batch) batches (b ∷ []) ∙ ap (λ l. batched_decisions batches ++ l) (append-nil b)

-- takes of a feed one after another, during which it makes these decisions in total
abbrev InTakes : {F : Type 0} → (F → List Decision → F → Type 0) → F → List Decision → F → Type 0
InTakes step old decided new =
    (parts : List (List Decision)) × (FoldsTo step old parts new × (flat_map (λ (part : List Decision). part) parts ≡ decided))

in_none : {F : Type 0} (step : F → List Decision → F → Type 0) (f : F) → InTakes step f [] f
in_none step f = ([], (refl, refl))

in_one : {F : Type 0} (step : F → List Decision → F → Type 0) (f g : F) (x : List Decision) → step f x g → InTakes step f x g
in_one step f g x first = (x ∷ [], ((g, first, refl), append-nil x))

pub in_both : {F : Type 0} (step : F → List Decision → F → Type 0) (f g h : F) (x y : List Decision) → InTakes step f x g → InTakes step g y h
    → InTakes step f (x ++ y) h
in_both step f g h x y (parts, (first, is)) (others, (second, are)) = (
  parts ++ others,
  (
    folds_then step f g h parts others first second,
    flat_map-append (λ (part : List Decision). part) parts others
        ∙ (ap (λ l. l ++ batched_decisions others) is ∙ ap (λ l. x ++ l) are),
  ),
)

module _ (laws : TakingLaws) {F : Type 0} (gives : FeedGives F) (core : F → DecisionsState) (step : F → List Decision → F → Type 0)
    (tells : (f g : F) (answer : Result (List Decision) Refusal) → gives f MOST answer g
    → (decided : List Decision) × (TakesAfter (core f) decided MOST answer (core g) × step f decided g)) where
  -- what several batches that were given leave
  pub record Came (s : StoreState) (first last : F) (batches : List (List Decision)) : Type 0 where
    pub decided : List Decision
    pub takes : InTakes step first decided last
    pub parts : batched_decisions batches ++ (core last).log ≡ (core first).log ++ decided
    pub continues : ContinueAll (core first).base ((core first).opening + (core first).taken) ((core first).log ++ decided)
    pub goes_on : IsInStep (store_behind s batches) (core last)
    pub later : (more : List Decision) → ContinueAll (core last).base ((core last).opening + (core last).taken) ((core last).log ++ more)
        → ContinueAll (core first).base ((core first).opening + (core first).taken) ((core first).log ++ (decided ++ more))

  same_store : (s : StoreState) (batches : List (List Decision)) (b : List Decision)
      → fold_of (store_behind s (b ∷ [])).table (commands_of (batched_decisions batches)) ≡ (store_behind s (b ∷ batches)).table
  same_store s batches b =
      ap (λ l. fold_of (fold_of s.table (commands_of l)) (commands_of (batched_decisions batches))) (append-nil b)
      ∙ (sym (laws.composing s.table (commands_of b) (commands_of (batched_decisions batches)))
      ∙ ap (fold_of s.table) (sym (map-append (λ (d : Decision). d.command) b (batched_decisions batches))))

  same_number : (s : StoreState) (batches : List (List Decision)) (b : List Decision)
      → (store_behind s (b ∷ [])).seq + length (batched_decisions batches) ≡ (store_behind s (b ∷ batches)).seq
  same_number s batches b =
      let one : length (b ++ []) ≡ length b = ap length (append-nil b) in
      let all = length-append b (batched_decisions batches) in
      omega (arith, one, all)

  pub came : (s : StoreState) (f : F) (batches : List (List Decision)) (g : F) → GivesAll gives f batches g → IsInStep s (core f)
      → ContinueAll (core f).base ((core f).opening + (core f).taken) (core f).log → Came s f g batches
  came s f [] g is from on =
      subst (λ g. Came s f g []) is
      (record {
        decided = [];
        takes = in_none step f;
        parts = sym (append-nil (core f).log);
        continues = subst (λ l. ContinueAll (core f).base ((core f).opening + (core f).taken) l) (sym (append-nil (core f).log)) on;
        goes_on = record { table = from.table; seq = let at = from.seq in omega (arith, at) };
        later = λ more h. h;
      })
  came s f (b ∷ batches) g (mid, (some, given), rest) from on =
      let told = tells f mid (Ok b) given in
      let next = came (store_behind s (b ∷ [])) mid batches g rest (goes_on laws s (core f) (core mid) told.0 b from told.1.0)
      (rest_continues laws s (core f) (core mid) told.0 b from told.1.0) in
      record {
        decided = told.0 ++ next.decided;
        takes = in_both step f mid g told.0 next.decided (in_one step f mid told.0 told.1.1) next.takes;
        parts =
            append_assoc b (batched_decisions batches) (core g).log
            ∙ (ap (λ l. b ++ l) next.parts
            ∙ (sym (append_assoc b (core mid).log next.decided)
            ∙ (ap (λ l. l ++ next.decided) (parts laws s (core f) (core mid) told.0 b from told.1.0)
            ∙ append_assoc (core f).log told.0 next.decided)));
        continues = later laws s (core f) (core mid) told.0 b from told.1.0 next.decided next.continues;
        later = λ more h.
            subst (λ l. ContinueAll (core f).base ((core f).opening + (core f).taken) ((core f).log ++ l)) (sym (append_assoc told.0 next.decided more))
            (later laws s (core f) (core mid) told.0 b from told.1.0 (next.decided ++ more) (next.later more h));
        goes_on =
            record {
              table = next.goes_on.table ∙ same_store s batches b;
              seq = next.goes_on.seq ∙ same_number s batches b;
            };
      }

  -- a batch that was given after these may be committed after them
  pub may_follow : (s : StoreState) (origin f g : F) (batches : List (List Decision)) (b : List Decision) → Came s origin f batches
      → GivesAll gives f (b ∷ []) g → IsLegalContinuation (store_behind s batches).table (store_behind s batches).seq b
  may_follow s origin f g batches b so (mid, (some, given), rest) =
      let told = tells f mid (Ok b) given in
      record { some = some; continues = continues laws (store_behind s batches) (core f) (core mid) told.0 b so.goes_on told.1.0 }

  not_unchecked : (failed : Bool) (a b c : Type 0) (e : Refusal) → MatchBool failed (e ≡ Failed) (((e ≡ Damaged) × a) ⊎ (b × ((e ≡ OutOfMemory) ⊎ ((e ≡ DeviceFailed) × c)))) → e ≢ OutOfStep
  not_unchecked true a b c e h = λ is. absurd cc
  not_unchecked false a b c e (inl h) = let damaged = h.0 in λ is. absurd cc
  not_unchecked false a b c e (inr (h, inl none)) = λ is. absurd cc
  not_unchecked false a b c e (inr (h, inr failed)) = let device = failed.0 in λ is. absurd cc

  not_uncommitted : (failed : Bool) (legal c : Type 0) (e : Refusal) → legal
      → MatchBool failed (e ≡ Failed) (((e ≡ OutOfStep) × (¬ legal)) ⊎ (legal × ((e ≡ OutOfMemory) ⊎ ((e ≡ DeviceFailed) × c)))) → e ≢ OutOfStep
  not_uncommitted true legal c e is h = λ step. absurd cc
  not_uncommitted false legal c e is (inl h) = absurd (h.1 is)
  not_uncommitted false legal c e is (inr (h, inl none)) = λ step. absurd cc
  not_uncommitted false legal c e is (inr (h, inr failed)) = let device = failed.0 in λ step. absurd cc

  -- so none is out of step
  pub in_step : (most : ℕ) (untouched failure : Type 0) (s : StoreState) (origin : F) (batches : List (List Decision)) (torn : List Decision) (f g : F) (e : Refusal)
      → Came s origin f batches → HasBroken gives most untouched failure s batches torn f g e → e ≢ OutOfStep
  in_step most untouched failure s origin batches torn f g e so (WasUnready same none empty (why, inl memory)) = λ is. absurd cc
  in_step most untouched failure s origin batches torn f g e so (WasUnready same none empty (why, inr (full, unchecked))) =
      not_unchecked s.failed _ _ failure e unchecked
  in_step most untouched failure s origin batches torn f g e so (HadNoRoom same none some memory) = λ is. absurd cc
  in_step most untouched failure s origin batches torn f g e so (FeedRefused ready none refused) =
      let memory = (tells f g (Err e) refused).1.0.took.0 in λ is. absurd cc
  in_step most untouched failure s origin batches torn f g e so (WasUncommitted ready next given uncommitted behind) =
      not_uncommitted s.failed _ failure e (may_follow s origin f next batches torn so given) uncommitted

  -- the core continues from a store that has these batches
  on_from : (s : StoreState) (t : StoreState) (core : DecisionsState) → t.table ≡ s.table → t.seq ≡ s.seq → IsInStep s core → IsInStep t core
  on_from s t core table seq from = record { table = from.table ∙ sym table; seq = from.seq ∙ sym seq }

  pub ended : (most : ℕ) (s new : StoreState) (origin : F) (batches : List (List Decision)) (f g : F) → Came s origin f batches
      → new.table ≡ fold_of s.table (commands_of (batched_decisions batches)) → new.seq ≡ s.seq + length (batched_decisions batches)
      → HasEnded gives most new batches f g → IsInStep new (core g)
  ended most s new origin batches f g so table seq (inl (same, why)) =
      subst (λ f. IsInStep new (core f)) (sym same) (on_from (store_behind s batches) new (core f) table seq so.goes_on)
  ended most s new origin batches f g so table seq (inr (few, given)) =
      let told = tells f g (Ok []) given in
      let behind = goes_on laws (store_behind s batches) (core f) (core g) told.0 [] so.goes_on told.1.0 in
      record { table = behind.table ∙ sym table; seq = let at = behind.seq in omega (arith, at, seq) }

-- ---- what leaves

-- the effects of batches are given away in calls, which are all of theirs
left_in_calls : (laws : TakingLaws) {C V : Type 0} (effects : V → List Effect) (call : C → V → C → Type 0) (t : TableState) (batches : List (List Decision)) (p q : C)
    → LeaveInOrder effects call t batches p q
    → (calls : List V) × ((flat_map effects calls ≡ effects_of t (commands_of (batched_decisions batches))) × FoldsTo call p calls q)
left_in_calls laws effects call t [] p q same = ([], (refl, sym same))
left_in_calls laws effects call t (b ∷ batches) p q (released, (next, (all, (made, rest)))) =
    let later = left_in_calls laws effects call (fold_of t (commands_of b)) batches next q rest in
    let lists : commands_of (b ++ batched_decisions batches) ≡ commands_of b ++ commands_of (batched_decisions batches) =
    map-append (λ (d : Decision). d.command) b (batched_decisions batches) in (
      released ∷ later.0,
      (
        ap (λ l. l ++ flat_map effects later.0) all
            ∙ (ap (λ l. effects_of t (commands_of b) ++ l) later.1.0
            ∙ (sym (laws.effects t (commands_of b) (commands_of (batched_decisions batches))) ∙ ap (effects_of t) (sym lists))),
        (next, made, later.1.1),
      ),
    )

-- ---- chains of a core

abbrev core_gives : CoreFeed → ℕ → Result (List Decision) Refusal → CoreFeed → Type 0
core_gives = GivesAfterComing

core_tells : (f g : CoreFeed) (answer : Result (List Decision) Refusal) → core_gives f MOST answer g
    → (decided : List Decision) × (TakesAfter f.core.decisions decided MOST answer g.core.decisions × DecidesAfterComing f decided g)
core_tells f g answer given = gives_decided f g answer given

module _ (laws : TakingLaws) {D C V : Type 0} (disk : Ghosts D) (effects : V → List Effect) (call : C → V → C → Type 0) (most : ℕ)
    (old new : Store D disk) (f g : CoreFeed) (p q : C) (result : Result ℕ Refusal)
    (is : IsChain disk core_gives effects call most old new f g p q result)
    (from : IsInStep (store_state disk.state old) f.core.decisions)
    (on : ContinueAll f.core.decisions.base (f.core.decisions.opening + f.core.decisions.taken) f.core.decisions.log) where
  so : Came laws core_gives (λ f. f.core.decisions) DecidesAfterComing core_tells (store_state disk.state old) f is.feed is.batches
  so = came laws core_gives (λ f. f.core.decisions) DecidesAfterComing core_tells (store_state disk.state old) f is.batches is.feed is.given from on

  abbrev EndsSo : Result ℕ Refusal → Type 0
  EndsSo r =
      MatchResult r
      (λ count. (count ≡ length (batched_decisions is.batches)) × ((is.torn ≡ [])
      × HasEnded core_gives most (store_state disk.state new) is.batches is.feed g))
      (λ e. (length is.batches < most)
      × HasBroken core_gives most (IsUntouched disk.state old new)
      (LastFailed disk.failures disk.outlook old new)
      (store_state disk.state old) is.batches is.torn is.feed g e)

  abbrev CallsSo : Result ℕ Refusal → Type 0
  CallsSo r =
      MatchResult r (λ _. NoneFailed disk.failures disk.outlook old new)
      (λ e. NoneFailed disk.failures disk.outlook old new ⊎ ((e ≡ DeviceFailed) × LastFailed disk.failures disk.outlook old new))

  pub ends_in_step : IfErr result (λ e. e ≢ OutOfStep)
  ends_in_step = on_err result is.ends
    where
      on_err : (r : Result ℕ Refusal) → EndsSo r → IfErr r (λ e. e ≢ OutOfStep)
      on_err (Ok count) h = tt
      on_err (Err e) (few, broken) =
          in_step laws core_gives (λ f. f.core.decisions) DecidesAfterComing core_tells most (IsUntouched disk.state old new) (LastFailed disk.failures disk.outlook old new)
          (store_state disk.state old) f is.batches is.torn is.feed g e so broken

  given_away : (calls : List V) × ((flat_map effects calls ≡ effects_of (store_state disk.state old).table (commands_of (batched_decisions is.batches))) × FoldsTo call p calls q)
  given_away = left_in_calls laws effects call (store_state disk.state old).table is.batches p q is.leave

  -- what was decided, if this is torn
  commits : (decided torn waiting : List Decision) → DecidesMeanwhile f decided g → is.torn ≡ torn → batched_decisions is.batches ++ (torn ++ waiting) ≡ f.core.decisions.log ++ decided
      → ContinueAll f.core.decisions.base (f.core.decisions.opening + f.core.decisions.taken) (f.core.decisions.log ++ decided)
      → CommitsDecided disk.honest effects call (store_state disk.state old) (store_state disk.state new) f g p q
  commits decided torn waiting meanwhile torn_is lists continue =
      record {
        decided = decided;
        committed = batched_decisions is.batches;
        torn = torn;
        waiting = waiting;
        meanwhile = meanwhile;
        beginning = lists;
        continues = continue;
        table = is.commits.table;
        seq = is.commits.seq;
        calls = given_away.0;
        left = given_away.1.0;
        given = given_away.1.1;
        images = λ honest settled. subst (λ t. EveryImage (disk.state (disk_of new)) (HoldsWithOrWithout (store_state disk.state new) t)) torn_is (is.images honest settled);
      }

  abbrev Commits : Type 0
  Commits = CommitsDecided disk.honest effects call (store_state disk.state old) (store_state disk.state new) f g p q

  -- after the batches nothing is torn, and no other was asked for
  untorn : is.torn ≡ [] → g ≡ is.feed → Commits
  untorn none same =
      commits so.decided [] is.feed.core.decisions.log (subst (λ last. DecidesMeanwhile f so.decided last) (sym same) so.takes) none so.parts so.continues

  -- nothing is torn, and another was asked for, after what came before that
  untorn_asked : (answer : Result (List Decision) Refusal) → is.torn ≡ [] → core_gives is.feed MOST answer g → Commits
  untorn_asked answer none given =
      let told = core_tells is.feed g answer given in
      commits (so.decided ++ told.0) [] (is.feed.core.decisions.log ++ told.0)
      (in_both DecidesAfterComing f is.feed g so.decided told.0 so.takes (in_one DecidesAfterComing is.feed g told.0 told.1.1)) none
      (sym (append_assoc (batched_decisions is.batches) is.feed.core.decisions.log told.0)
      ∙ (ap (λ l. l ++ told.0) so.parts ∙ append_assoc f.core.decisions.log so.decided told.0))
      (so.later told.0 told.1.0.lawful.continues)

  module _ (next : CoreFeed) (given : GivesAll core_gives is.feed (is.torn ∷ []) next) where
    -- the torn one was given, too
    came_with_torn : Came laws core_gives (λ f. f.core.decisions) DecidesAfterComing core_tells (store_state disk.state old) f next (is.batches ++ is.torn ∷ [])
    came_with_torn =
        came laws core_gives (λ f. f.core.decisions) DecidesAfterComing core_tells (store_state disk.state old) f (is.batches ++ is.torn ∷ []) next
        (folds_then (λ (feed : CoreFeed) (batch : List Decision) (next : CoreFeed). (batch ≢ []) × core_gives feed MOST (Ok batch) next) f is.feed next is.batches (is.torn ∷ []) is.given given) from on

    lists_with_torn : batched_decisions is.batches ++ (is.torn ++ next.core.decisions.log) ≡ f.core.decisions.log ++ came_with_torn.decided
    lists_with_torn =
        sym (append_assoc (batched_decisions is.batches) is.torn next.core.decisions.log)
        ∙ (ap (λ l. l ++ next.core.decisions.log) (sym (one_more is.batches is.torn)) ∙ came_with_torn.parts)

    with_torn : g ≡ next → Commits
    with_torn same =
        commits came_with_torn.decided is.torn next.core.decisions.log (subst (λ last. DecidesMeanwhile f came_with_torn.decided last) (sym same) came_with_torn.takes) refl lists_with_torn came_with_torn.continues

    -- and one more was asked for
    with_torn_asked : (answer : Result (List Decision) Refusal) → core_gives next MOST answer g → Commits
    with_torn_asked answer more =
        let told = core_tells next g answer more in
        commits (came_with_torn.decided ++ told.0) is.torn (next.core.decisions.log ++ told.0)
        (in_both DecidesAfterComing f next g came_with_torn.decided told.0 came_with_torn.takes (in_one DecidesAfterComing next g told.0 told.1.1)) refl
        (ap (λ l. batched_decisions is.batches ++ l) (sym (append_assoc is.torn next.core.decisions.log told.0))
        ∙ (sym (append_assoc (batched_decisions is.batches) (is.torn ++ next.core.decisions.log) told.0)
        ∙ (ap (λ l. l ++ told.0) lists_with_torn ∙ append_assoc f.core.decisions.log came_with_torn.decided told.0)))
        (came_with_torn.later told.0 told.1.0.lawful.continues)

  by_break : (e : Refusal) → HasBroken core_gives most (IsUntouched disk.state old new) (LastFailed disk.failures disk.outlook old new)
      (store_state disk.state old) is.batches is.torn is.feed g e → Commits
  by_break e (WasUnready same none empty why) = untorn none same
  by_break e (HadNoRoom same none some memory) = untorn none same
  by_break e (FeedRefused ready none refused) = untorn_asked (Err e) none refused
  by_break e (WasUncommitted ready next given uncommitted (inl same)) = with_torn next given same
  by_break e (WasUncommitted ready next given uncommitted (inr (device, (fewer, (answer, more))))) = with_torn_asked next given answer more

  abbrev InStep : Type 0
  InStep =
      StaysInStep disk.honest effects call (store_state disk.state old) (store_state disk.state new) f g p q

  settles : NoneFailed disk.failures disk.outlook old new → disk.honest → IsSettled (store_state disk.state old) → IsSettled (store_state disk.state new)
  settles none honest settled = is.settled honest settled none

  by_end : is.torn ≡ [] → NoneFailed disk.failures disk.outlook old new → HasEnded core_gives most (store_state disk.state new) is.batches is.feed g → InStep
  unfolding untorn untorn_asked commits
  by_end none calls (inl (same, why)) = (
    untorn none same,
    (
      refl,
      (
        sym (ap (λ (f : CoreFeed). f.core.decisions.log) same),
        (
          ended laws core_gives (λ f. f.core.decisions) DecidesAfterComing core_tells most (store_state disk.state old) (store_state disk.state new) f is.batches is.feed g so
              is.commits.table is.commits.seq (inl (same, why)),
          settles calls,
        ),
      ),
    ),
  )
  by_end none calls (inr (few, given)) =
      let told = core_tells is.feed g (Ok []) given in
      let behind = store_behind (store_state disk.state old) is.batches in (
        untorn_asked (Ok []) none given,
        (
          refl,
          (
            sym (parts laws behind is.feed.core.decisions g.core.decisions told.0 [] so.goes_on told.1.0),
            (
              ended laws core_gives (λ f. f.core.decisions) DecidesAfterComing core_tells most (store_state disk.state old) (store_state disk.state new) f is.batches is.feed g so
                  is.commits.table is.commits.seq (inr (few, given)),
              settles calls,
            ),
          ),
        ),
      )

  pub in_step_behind : OnOk result InStep
  in_step_behind = by_result result is.ends is.calls
    where
      by_result : (r : Result ℕ Refusal) → EndsSo r → CallsSo r → OnOk r InStep
      by_result (Ok count) (many, (none, ends)) calls = by_end none calls ends
      by_result (Err e) h calls = tt

  pub commits_decided : CommitsDecided disk.honest effects call (store_state disk.state old) (store_state disk.state new) f g p q
  commits_decided = by_result result is.ends is.calls
    where
      by_result : (r : Result ℕ Refusal) → EndsSo r → CallsSo r
          → CommitsDecided disk.honest effects call (store_state disk.state old) (store_state disk.state new) f g p q
      by_result (Ok count) (many, (none, ends)) calls = (by_end none calls ends).0
      by_result (Err e) (few, broken) calls = by_break e broken
