-- A chain's batches, one device call after another.
use Rattle.std.proofs.Common.{◌≡◌, ◌⊎◌, ◌+◌, ◌∙◌, ℕ, List, [], ◌∷◌, ◌++◌, length, map, Option, Some, None, inl, inr, sym, ap, subst, refl, arith, append_assoc, append-nil, length-append}
use Rattle.std.proofs.lemmas.List.{map-append}
use Rattle.devices.specs.declared.effect.Effect.{Effect}
use Rattle.sessions.specs.Decision.{ContinueAll, FitAll, IsLegalContinuation, commands_of, effects_in, with_decisions}
use Rattle.sessions.specs.Table.{TableState, effects_of, fold_of}
use Rattle.sessions.specs.declared.decision.Decision.{Decision}
use Rattle.store.specs.Flights.{Flight, MayLeave, Stage, all_failed, all_succeeded, durable_in}
use Rattle.store.specs.State.{StoreState}
use Rattle.store.specs.UnderWay.{IsOnItsWay, flights_behind, flights_in}
use Rattle.store.specs.declared.under_way.UnderWay.{UnderWay}
use Rattle.store.specs.declared.under_way.UnderWay.TheVariants.{Begun, Written, BodySynced, GateWritten, Following, Paired, Checkpoint}
use Rattle.flusher.specs.Chain.{GivesAll, FeedGives, LeaveInOrder, batched_decisions}
use Rattle.flusher.specs.Cycle.{Commits}
use Rattle.flusher.proofs.Holding.{AreFolded}
use Rattle.flusher.proofs.Living.{AreComposed}

-- ---- what is under way

-- the batches under way
abbrev pub batches_of : List (Flight Decision) → List (List Decision)
batches_of flights = map (λ flight. flight.batch) flights

-- a call doesn't change which batches these are
pub batches_stay : (flights : List (Flight Decision)) → batches_of (all_succeeded flights) ≡ batches_of flights
batches_stay [] = refl
batches_stay (flight ∷ []) = refl
batches_stay (first ∷ second ∷ rest) = ap (λ l. first.batch ∷ l) (batches_stay (second ∷ rest))

-- none of them is durable
pub none_durable : {T : Type 0} (under_way : UnderWay T) (settled : List Decision) → durable_in settled (flights_in under_way) ≡ settled
none_durable (Begun phase along) settled = refl
none_durable (Written phase along) settled = refl
none_durable (BodySynced phase along) settled = refl
none_durable (GateWritten phase along) settled = refl
none_durable (Following opened along following behind) settled = refl
none_durable (Paired phase along behind) settled = refl
none_durable (Checkpoint phase) settled = refl

pub none_durable_behind : {T : Type 0} (behind : Option (UnderWay T)) (settled : List Decision) → durable_in settled (flights_behind behind) ≡ settled
none_durable_behind None settled = refl
none_durable_behind (Some next) settled = none_durable next settled

-- nor is any of them after a call that failed
pub failed_durable : {T : Type 0} (under_way : UnderWay T) → durable_in [] (all_failed (flights_in under_way)) ≡ []
failed_durable (Begun phase along) = refl
failed_durable (Written phase along) = refl
failed_durable (BodySynced phase along) = refl
failed_durable (GateWritten phase along) = refl
failed_durable (Following opened along following behind) = refl
failed_durable (Paired phase along behind) = refl
failed_durable (Checkpoint phase) = refl

-- then at most the oldest one is left
pub left_first : {T : Type 0} (under_way : UnderWay T) (batch : List Decision) (rest : List (List Decision)) (kept : List Decision)
    → batches_of (flights_in under_way) ≡ batch ∷ rest → MayLeave [] (all_failed (flights_in under_way)) kept → (kept ≡ []) ⊎ (kept ≡ batch)
left_first (Begun phase along) batch rest kept is left = inl left
left_first (Written phase along) batch rest kept is left = inl left
left_first (BodySynced phase along) batch rest kept is (inl none) = inl none
left_first (BodySynced phase along) batch rest kept is (inr same) = inr (cc)
left_first (GateWritten phase along) batch rest kept is (inl none) = inl none
left_first (GateWritten phase along) batch rest kept is (inr same) = inr (cc)
left_first (Following opened along following behind) batch rest kept is (inl none) = inl none
left_first (Following opened along following behind) batch rest kept is (inr same) = inr (cc)
left_first (Paired phase along behind) batch rest kept is (inl none) = inl none
left_first (Paired phase along behind) batch rest kept is (inr same) = inr (cc)
left_first (Checkpoint phase) batch rest kept is left = inl left

same_first : (x y : List Decision) (xs ys : List (List Decision)) → ◌≡◌ {A = List (List Decision)} (x ∷ xs) (y ∷ ys) → x ≡ y
same_first x y xs ys is = cc

-- the oldest one is a legal continuation of the store's table
pub first_legal : {T : Type 0} (s : StoreState) (under_way : UnderWay T) (batch : List Decision) (rest : List (List Decision))
    → batches_of (flights_in under_way) ≡ batch ∷ rest → IsOnItsWay s under_way → IsLegalContinuation s.table s.seq batch
first_legal s (Begun phase along) batch rest is way = subst (IsLegalContinuation s.table s.seq) (same_first _ _ _ _ is) way.legal
first_legal s (Written phase along) batch rest is way = subst (IsLegalContinuation s.table s.seq) (same_first _ _ _ _ is) way.legal
first_legal s (BodySynced phase along) batch rest is way = subst (IsLegalContinuation s.table s.seq) (same_first _ _ _ _ is) way.legal
first_legal s (GateWritten phase along) batch rest is way = subst (IsLegalContinuation s.table s.seq) (same_first _ _ _ _ is) way.legal
first_legal s (Following opened along following behind) batch rest is way = subst (IsLegalContinuation s.table s.seq) (same_first _ _ _ _ is) way.0.legal
first_legal s (Paired phase along behind) batch rest is way = subst (IsLegalContinuation s.table s.seq) (same_first _ _ _ _ is) way.first.legal
first_legal s (Checkpoint phase) batch rest is way = let no : ⊥ = cc in absurd no

-- ---- how many calls are left

abbrev rank_of_stage : Stage → ℕ
rank_of_stage Stage.Begun = 4
rank_of_stage Stage.Written = 3
rank_of_stage Stage.BodySynced = 2
rank_of_stage Stage.GateWritten = 1
rank_of_stage stage = 0

-- by the youngest batch
abbrev pub rank_of : List (Flight Decision) → ℕ
rank_of [] = 0
rank_of (flight ∷ []) = rank_of_stage flight.stage
rank_of (first ∷ second ∷ rest) = rank_of (second ∷ rest)

-- ---- batches that were committed

-- the laws of sessions that this uses
pub record FoldLaws : Type 0 where
  pub folded : AreFolded
  pub effects : (t : TableState) (ds : List Decision) → FitAll t ds → effects_of t (commands_of ds) ≡ effects_in ds
  pub continued : (t : TableState) (seq : ℕ) (first second : List Decision) → ContinueAll t seq first → ContinueAll (with_decisions t first) (seq + length first) second
      → ContinueAll t seq (first ++ second)
  pub joined : (t : TableState) (first second : List Decision) → with_decisions t (first ++ second) ≡ with_decisions (with_decisions t first) second
  pub composed : AreComposed

commands-append : (first second : List Decision) → commands_of (first ++ second) ≡ commands_of first ++ commands_of second
commands-append first second = map-append (λ (d : Decision). d.command) first second

pub decisions_then : (batches : List (List Decision)) (batch : List Decision) → batched_decisions (batches ++ batch ∷ []) ≡ batched_decisions batches ++ batch
decisions_then [] batch = append-nil batch
decisions_then (b ∷ batches) batch = ap (λ l. b ++ l) (decisions_then batches batch) ∙ sym (append_assoc b (batched_decisions batches) batch)

-- nothing is committed yet
pub commits_none : (s : StoreState) → Commits s s []
commits_none s = record { continues = record { fit = tt; numbered = tt }; table = refl; seq = omega arith }

-- one more batch is committed
pub commits_more : FoldLaws → (old s new : StoreState) (batches : List (List Decision)) (batch : List Decision) → Commits old s (batched_decisions batches)
    → IsLegalContinuation s.table s.seq batch → new.table ≡ with_decisions s.table batch → new.seq ≡ s.seq + length batch
    → Commits old new (batched_decisions (batches ++ batch ∷ []))
commits_more laws old s new batches batch before legal table seq =
    let ds = batched_decisions batches in
    let there : s.table ≡ with_decisions old.table ds = before.table ∙ laws.folded old.table ds before.continues.fit in
    let next = subst (λ n. ContinueAll (with_decisions old.table ds) n batch) before.seq (subst (λ t. ContinueAll t s.seq batch) there legal.continues) in
    let all = laws.continued old.table old.seq ds batch before.continues next in
    let long = length-append ds batch in
    let counted = before.seq in
    subst (Commits old new) (sym (decisions_then batches batch)) (record {
      continues = all;
      table = table ∙ (ap (λ t. with_decisions t batch) there ∙ (sym (laws.joined old.table ds batch) ∙ sym (laws.folded old.table (ds ++ batch) all.fit)));
      seq = omega (arith, seq, counted, long);
    })

-- ---- what came from the feed, and what left

pub gives_more : {F : Type 0} (gives : FeedGives F) (old mid new : F) (batches more : List (List Decision)) → GivesAll gives old batches mid → GivesAll gives mid more new
    → GivesAll gives old (batches ++ more) new
gives_more gives old mid new [] more is then = subst (λ f. GivesAll gives f more new) (sym is) then
gives_more gives old mid new (b ∷ batches) more (next, first, rest) then = (next, first, gives_more gives next mid new batches more rest then)

-- the table that batches leave
fold_then : FoldLaws → (t : TableState) (batch : List Decision) (batches : List (List Decision))
    → fold_of (fold_of t (commands_of batch)) (commands_of (batched_decisions batches)) ≡ fold_of t (commands_of (batch ++ batched_decisions batches))
fold_then laws t batch batches =
    sym (laws.composed t (commands_of batch) (commands_of (batched_decisions batches))) ∙ ap (fold_of t) (sym (commands-append batch (batched_decisions batches)))

pub leave_more : FoldLaws → {C V : Type 0} (effects : V → List Effect) (call : C → V → C → Type 0) (t : TableState) (batches : List (List Decision)) (batch : List Decision)
    (old mid new : C) (released : V) → LeaveInOrder effects call t batches old mid
    → effects released ≡ effects_of (fold_of t (commands_of (batched_decisions batches))) (commands_of batch) → call mid released new
    → LeaveInOrder effects call t (batches ++ batch ∷ []) old new
leave_more laws effects call t [] batch old mid new released is all made = (released, (new, (all, (subst (λ o. call o released new) is made, refl))))
leave_more laws effects call t (b ∷ batches) batch old mid new released (v, (next, (first, (step, rest)))) all made = (
  v,
  (
    next,
    (
      first,
      (
        step,
        leave_more laws effects call (fold_of t (commands_of b)) batches batch next mid new released rest
            (all ∙ ap (λ u. effects_of u (commands_of batch)) (sym (fold_then laws t b batches))) made,
      ),
    ),
  ),
)
