-- What chains commit of what they draw.
use Rattle.std.proofs.Common.{◌≡◌, ◌≤◌, ◌<◌, ◌+◌, ◌*◌, ◌++◌, ◌∙◌, ℕ, zero, suc, List, [], ◌∷◌, Result, Ok, Err, MatchResult, OnOk, ap, arith, drop, flat_map, inl, inr, length, length-append, append_assoc, append-nil, refl, subst, sym}
use Rattle.std.proofs.Math.Seq.{drop-append_seam}
use Rattle.std.proofs.lemmas.List.{drop-drop, length-drop, map-append}
use Rattle.std.specs.List.{FoldsTo}
use mathlib.Core.List.{IsPrefix}
use Rattle.devices.specs.declared.command.Command.{Command}
use Rattle.devices.specs.declared.effect.Effect.{Effect}
use Rattle.disk.specs.State.{EveryImage}
use Rattle.disk.specs.declared.disk.Disk.{Ghosts}
use Rattle.lw_types.specs.declared.refusal.Refusal.{Refusal}
use Rattle.sessions.specs.Decision.{ContinueAll, commands_of, with_decisions}
use Rattle.sessions.specs.Table.{TableState, effects_of, fold_of}
use Rattle.sessions.specs.declared.decision.Decision.{Decision}
use Rattle.store.specs.State.{StoreState, IsSettled, store_state}
use Rattle.store.specs.declared.store.Store.{Store}
use Rattle.flusher.specs.Chain.{GivesAll, HasBroken, HasEnded, IsChain, LeaveInOrder, batched_decisions}
use Rattle.flusher.specs.Chain.HasBroken.{WasUnready, HadNoRoom, FeedRefused, WasUncommitted}
use Rattle.flusher.specs.Cycle.{Commits, HoldsWithOrWithout}
use Rattle.session_core.specs.Taking.{DrawsNext, TakerState}
use Rattle.flusher.specs.Drawn.{CommitsTaken}
use Rattle.flusher.specs.Serving.{MakeChains, answers_of, last_answer}
use Rattle.flusher.proofs.Chains.{FoldLaws}
use Rattle.flusher.proofs.Leading.{flat_more, folds_more}

-- ---- beginnings of lists

begins_itself : {A : Type 0} (xs : List A) → IsPrefix xs xs
begins_itself xs = ([], append-nil xs)

begins_along : {A : Type 0} (xs ys zs : List A) → IsPrefix xs ys → IsPrefix ys zs → IsPrefix xs zs
begins_along xs ys zs (t, is) (u, on) = (t ++ u, sym (append_assoc xs t u) ∙ (ap (λ l. l ++ u) is ∙ on))

-- a beginning as long as the whole is the whole
begins_whole : {A : Type 0} (xs ys : List A) → IsPrefix xs ys → length ys ≤ length xs → xs ≡ ys
begins_whole [] [] p le = refl
begins_whole [] (y ∷ ys) p le = absurd (omega (arith, le))
begins_whole (x ∷ xs) [] p le = absurd (cc (p.1))
begins_whole (x ∷ xs) (y ∷ ys) p le =
    let rest = begins_whole xs ys (p.0, cc (p.1)) (omega (arith, le)) in cc (p.1, rest)

drop_longer : {A : Type 0} (n : ℕ) (h more : List A) → IsPrefix (drop n h) (drop n (h ++ more))
drop_longer zero h more = (more, refl)
drop_longer (suc n) [] more = (drop (suc n) more, refl)
drop_longer (suc n) (x ∷ h) more = drop_longer n h more

-- what comes next in a list comes next in a longer one
pub next_in_longer : {A : Type 0} (n : ℕ) (xs h longer : List A) → IsPrefix xs (drop n h) → IsPrefix h longer → IsPrefix xs (drop n longer)
next_in_longer n xs h longer is (more, on) =
    begins_along xs (drop n h) (drop n longer) is (subst (λ l. IsPrefix (drop n h) (drop n l)) on (drop_longer n h more))

-- what comes next, and what comes after it
pub next_two : {A : Type 0} (n m : ℕ) (xs ys h : List A) → m ≡ n + length xs → IsPrefix xs (drop n h) → IsPrefix ys (drop m h) → IsPrefix (xs ++ ys) (drop n h)
next_two n m xs ys h at (t, is) (u, on) =
    let rest : drop m h ≡ t =
    ap (λ k. drop k h) at ∙ (sym (drop-drop (length xs) n h) ∙ (ap (drop (length xs)) (sym is) ∙ drop-append_seam xs t)) in
    (u, append_assoc xs ys u ∙ (ap (λ l. xs ++ l) (on ∙ rest) ∙ is))

-- ---- what the feed gave

record Drew (p q : TakerState) (ds : List Decision) : Type 0 where
  pub next : IsPrefix ds (drop p.taken q.seen)
  pub seen : IsPrefix p.seen q.seen
  pub taken : q.taken ≡ p.taken + length ds

drew_none : (p q : TakerState) → q ≡ p → Drew p q []
drew_none p q same = subst (λ d. Drew p d []) (sym same) (record {
  next = (drop p.taken p.seen, refl);
  seen = begins_itself p.seen;
  taken = omega arith;
})

drew_one : (p : TakerState) (most : ℕ) (batch : List Decision) (q : TakerState) → DrawsNext p most (Ok batch) q → Drew p q batch
drew_one p most batch q (taken, (few, (next, (seen, short)))) = record { next = next; seen = seen; taken = taken }

drew_both : (p q r : TakerState) (xs ys : List Decision) → Drew p q xs → Drew q r ys → Drew p r (xs ++ ys)
drew_both p q r xs ys first second = record {
  next = next_two p.taken q.taken xs ys r.seen first.taken (next_in_longer p.taken xs q.seen r.seen first.next second.seen) second.next;
  seen = begins_along p.seen q.seen r.seen first.seen second.seen;
  taken = let a = first.taken in let b = second.taken in let c = length-append xs ys in omega (arith, a, b, c);
}

drew_all : (p : TakerState) (batches : List (List Decision)) (q : TakerState) → GivesAll DrawsNext p batches q → Drew p q (batched_decisions batches)
drew_all p [] q same = drew_none p q (sym same)
drew_all p (batch ∷ batches) q (next, (some, given), rest) =
    drew_both p next q batch (batched_decisions batches) (drew_one p 64 batch next given) (drew_all next batches q rest)

drew_more : (p q r : TakerState) (ds : List Decision) → Drew p q ds → Drew q r [] → Drew p r ds
drew_more p q r ds first second = subst (Drew p r) (append-nil ds) (drew_both p q r ds [] first second)

-- after a chain that wasn't refused
drew_ended : (most : ℕ) (s : StoreState) (batches : List (List Decision)) (p q : TakerState) → HasEnded DrawsNext most s batches p q → Drew p q []
drew_ended most s batches p q (inl (same, why)) = drew_none p q same
drew_ended most s batches p q (inr (few, given)) = drew_one p 64 [] q given

-- what was taken and given up after a chain that was refused
record GaveUp (p q : TakerState) (torn : List Decision) : Type 0 where
  pub next : IsPrefix torn (drop p.taken q.seen)
  pub seen : IsPrefix p.seen q.seen
  pub least : p.taken + length torn ≤ q.taken
  pub most : q.taken ≤ p.taken + 128

gave_none : (p q : TakerState) (torn : List Decision) → q ≡ p → torn ≡ [] → GaveUp p q torn
gave_none p q torn same nothing = subst (GaveUp p q) (sym nothing) (subst (λ d. GaveUp p d []) (sym same) (record {
  next = (drop p.taken p.seen, refl);
  seen = begins_itself p.seen;
  least = omega arith;
  most = omega arith;
}))

gave_one : (p q : TakerState) (torn : List Decision) → DrawsNext p 64 (Ok torn) q → GaveUp p q torn
gave_one p q torn (taken, (few, (next, (seen, short)))) = record {
  next = next;
  seen = seen;
  least = omega (arith, taken);
  most = omega (arith, taken, few);
}

gave_two : (p q r : TakerState) (torn : List Decision) (answer : Result (List Decision) Refusal) → DrawsNext p 64 (Ok torn) q → DrawsNext q 64 answer r → GaveUp p r torn
gave_two p q r torn (Ok after) (taken, (few, (next, (seen, short)))) (taken', (few', (next', (seen', short')))) = record {
  next = next_in_longer p.taken torn q.seen r.seen next seen';
  seen = begins_along p.seen q.seen r.seen seen seen';
  least = omega (arith, taken, taken');
  most = omega (arith, taken, taken', few, few');
}
gave_two p q r torn (Err e) one (is, same) = subst (λ d. GaveUp p d torn) (sym same) (gave_one p q torn one)

gave_up : (most : ℕ) (untouched failure : Type 0) (s : StoreState) (batches : List (List Decision)) (torn : List Decision) (p q : TakerState) (e : Refusal)
    → HasBroken DrawsNext most untouched failure s batches torn p q e → GaveUp p q torn
gave_up most untouched failure s batches torn p q e (WasUnready same nothing first why) = gave_none p q torn same nothing
gave_up most untouched failure s batches torn p q e (HadNoRoom same nothing some is) = gave_none p q torn same nothing
gave_up most untouched failure s batches torn p q e (FeedRefused ready nothing (is, same)) = gave_none p q torn same nothing
gave_up most untouched failure s batches torn p q e (WasUncommitted ready next (mid, (some, given), same) why further) =
    let one : DrawsNext p 64 (Ok torn) next = subst (λ d. DrawsNext p 64 (Ok torn) d) same given in
    elim further [
      | inl is ↦ subst (λ d. GaveUp p d torn) (sym is) (gave_one p next torn one)
      | inr (device, (more, (answer, after))) ↦ gave_two p next q torn answer one after
    ]

-- ---- what was committed

abbrev as_ok : {T : Type 0} → T → Result T Refusal
as_ok done = Ok done

-- the laws of sessions on effects that this uses
abbrev pub EffectsCompose : Type 0
EffectsCompose = (t : TableState) (first second : List Command) → effects_of t (first ++ second) ≡ effects_of t first ++ effects_of (fold_of t first) second

commands_both : (first second : List Decision) → commands_of (first ++ second) ≡ commands_of first ++ commands_of second
commands_both first second = map-append (λ (d : Decision). d.command) first second

commits_both : FoldLaws → (s m n : StoreState) (xs ys : List Decision) → Commits s m xs → Commits m n ys → Commits s n (xs ++ ys)
commits_both laws s m n xs ys first second =
    let there : m.table ≡ with_decisions s.table xs = first.table ∙ laws.folded s.table xs first.continues.fit in
    let next = subst (λ k. ContinueAll (with_decisions s.table xs) k ys) first.seq (subst (λ t. ContinueAll t m.seq ys) there second.continues) in
    let a = first.seq in
    let b = second.seq in
    let c = length-append xs ys in
    record {
      continues = laws.continued s.table s.seq xs ys first.continues next;
      table =
          second.table
          ∙ (ap (λ t. fold_of t (commands_of ys)) first.table
          ∙ (sym (laws.composed s.table (commands_of xs) (commands_of ys)) ∙ ap (fold_of s.table) (sym (commands_both xs ys))));
      seq = omega (arith, a, b, c);
    }

effects_both : EffectsCompose → (s m : StoreState) (xs ys : List Decision) → m.table ≡ fold_of s.table (commands_of xs)
    → effects_of s.table (commands_of (xs ++ ys)) ≡ effects_of s.table (commands_of xs) ++ effects_of m.table (commands_of ys)
effects_both compose s m xs ys is =
    ap (effects_of s.table) (commands_both xs ys)
    ∙ (compose s.table (commands_of xs) (commands_of ys)
    ∙ ap (λ t. effects_of s.table (commands_of xs) ++ effects_of t (commands_of ys)) (sym is))

module _ (laws : FoldLaws) (compose : EffectsCompose) {C V : Type 0} (effects : V → List Effect) (call : C → V → C → Type 0) where
  -- what chains did, not refused or refused
  record Along {T : Type 0} (honest : Type 0) (old new : StoreState) (before after : TakerState) (old_out new_out : C) (result : Result T Refusal) : Type 0 where
    pub committed : List Decision
    pub torn : List Decision
    pub next : IsPrefix (committed ++ torn) (drop before.taken after.seen)
    pub seen : IsPrefix before.seen after.seen
    pub commits : Commits old new committed
    pub calls : List V
    pub left : flat_map effects calls ≡ effects_of old.table (commands_of committed)
    pub given : FoldsTo call old_out calls new_out
    pub taken : MatchResult result
        (λ _. (torn ≡ []) × (after.taken ≡ before.taken + length committed))
        (λ _. (before.taken + length (committed ++ torn) ≤ after.taken) × (after.taken ≤ before.taken + length committed + 2 * 64))
    pub settled : OnOk result (honest → IsSettled old → IsSettled new)
    pub images : honest → IsSettled old → EveryImage new.log.disk (HoldsWithOrWithout new torn)

  record Left (t : TableState) (ds : List Decision) (x y : C) : Type 0 where
    pub calls : List V
    pub left : flat_map effects calls ≡ effects_of t (commands_of ds)
    pub given : FoldsTo call x calls y

  left_in_order : (t : TableState) (batches : List (List Decision)) (x y : C) → LeaveInOrder effects call t batches x y → Left t (batched_decisions batches) x y
  left_in_order t [] x y same = record { calls = []; left = refl; given = sym same }
  left_in_order t (batch ∷ batches) x y (released, (next, (all, (made, rest)))) =
      let others = left_in_order (fold_of t (commands_of batch)) batches next y rest in
      record {
        calls = released ∷ others.calls;
        left =
            ap (λ l. l ++ flat_map effects others.calls) all
            ∙ (ap (λ l. effects_of t (commands_of batch) ++ l) others.left
            ∙ (sym (compose t (commands_of batch) (commands_of (batched_decisions batches)))
            ∙ ap (effects_of t) (sym (commands_both batch (batched_decisions batches)))));
        given = (next, made, others.given);
      }

  module _ {D : Type 0} (disk : Ghosts D) (most : ℕ) where
    -- one chain that wasn't refused
    one_well : {T : Type 0} (old new : Store D disk) (p q : TakerState) (x y : C) (n : ℕ) (done : T)
        → IsChain disk DrawsNext effects call most old new p q x y (Ok n)
        → Along disk.honest (store_state disk.state old) (store_state disk.state new) p q x y (as_ok done)
    one_well old new p q x y n done chain =
        let ds = batched_decisions chain.batches in
        let drew = drew_more p chain.feed q ds (drew_all p chain.batches chain.feed chain.given)
        (drew_ended most (store_state disk.state new) chain.batches chain.feed q chain.ends.1.1) in
        let left = left_in_order (store_state disk.state old).table chain.batches x y chain.leave in
        record {
          committed = ds;
          torn = [];
          next = subst (λ l. IsPrefix l (drop p.taken q.seen)) (sym (append-nil ds)) drew.next;
          seen = drew.seen;
          commits = chain.commits;
          calls = left.calls;
          left = left.left;
          given = left.given;
          taken = (refl, drew.taken);
          settled = λ honest settled. chain.settled honest settled chain.calls;
          images = λ honest settled. subst (λ torn. EveryImage (store_state disk.state new).log.disk (HoldsWithOrWithout (store_state disk.state new) torn)) chain.ends.1.0
              (chain.images honest settled);
        }

    -- one that was
    one_refused : {T : Type 0} (old new : Store D disk) (p q : TakerState) (x y : C) (e : Refusal)
        → IsChain disk DrawsNext effects call most old new p q x y (Err e)
        → Along {T = T} disk.honest (store_state disk.state old) (store_state disk.state new) p q x y (Err e)
    one_refused old new p q x y e chain =
        let ds = batched_decisions chain.batches in
        let mid = chain.feed in
        let drew = drew_all p chain.batches mid chain.given in
        let gave = gave_up most _ _ _ chain.batches chain.torn mid q e chain.ends.1 in
        let left = left_in_order (store_state disk.state old).table chain.batches x y chain.leave in
        let both = length-append ds chain.torn in
        let first = drew.taken in
        let least = gave.least in
        let more = gave.most in
        record {
          committed = ds;
          torn = chain.torn;
          next = next_two p.taken mid.taken ds chain.torn q.seen first (next_in_longer p.taken ds mid.seen q.seen drew.next gave.seen) gave.next;
          seen = begins_along p.seen mid.seen q.seen drew.seen gave.seen;
          commits = chain.commits;
          calls = left.calls;
          left = left.left;
          given = left.given;
          taken = (omega (arith, both, first, least), omega (arith, first, more));
          settled = tt;
          images = chain.images;
        }

  -- after a chain that wasn't refused
  then_drawn : {T U : Type 0} (honest : Type 0) (s m n : StoreState) (p q r : TakerState) (x y z : C) (done : U) (result : Result T Refusal)
      → Along honest s m p q x y (as_ok done) → Along honest m n q r y z result
      → Along honest s n p r x z result
  then_drawn {T} {U} honest s m n p q r x y z done result first second =
      let ds = first.committed in
      let more = second.committed in
      let torn = second.torn in
      let at : q.taken ≡ p.taken + length ds = first.taken.1 in
      let came : IsPrefix ds (drop p.taken q.seen) =
      subst (λ l. IsPrefix l (drop p.taken q.seen)) (ap (λ l. ds ++ l) first.taken.0 ∙ append-nil ds) first.next in
      record {
        committed = ds ++ more;
        torn = torn;
        next = subst (λ l. IsPrefix l (drop p.taken r.seen)) (sym (append_assoc ds more torn))
            (next_two p.taken q.taken ds (more ++ torn) r.seen at (next_in_longer p.taken ds q.seen r.seen came second.seen) second.next);
        seen = begins_along p.seen q.seen r.seen first.seen second.seen;
        commits = commits_both laws s m n ds more first.commits second.commits;
        calls = first.calls ++ second.calls;
        left =
            flat_more effects call first.calls second.calls
            ∙ (ap (λ l. l ++ flat_map effects second.calls) first.left
            ∙ (ap (λ l. effects_of s.table (commands_of ds) ++ l) second.left ∙ sym (effects_both compose s m ds more first.commits.table)));
        given = folds_more effects call x y z first.calls second.calls first.given second.given;
        taken = counted result second.taken;
        settled = settles result second.settled;
        images = λ honest settled. second.images honest (first.settled honest settled);
      }
    where
      counted : (result : Result T Refusal)
          → MatchResult result
          (λ _. (second.torn ≡ []) × (r.taken ≡ q.taken + length second.committed))
          (λ _. (q.taken + length (second.committed ++ second.torn) ≤ r.taken) × (r.taken ≤ q.taken + length second.committed + 2 * 64))
          → MatchResult result
          (λ _. (second.torn ≡ []) × (r.taken ≡ p.taken + length (first.committed ++ second.committed)))
          (λ _. (p.taken + length ((first.committed ++ second.committed) ++ second.torn) ≤ r.taken)
          × (r.taken ≤ p.taken + length (first.committed ++ second.committed) + 2 * 64))
      counted (Ok done) (nothing, all) =
          let at = first.taken.1 in
          let both = length-append first.committed second.committed in
          (nothing, omega (arith, at, both, all))
      counted (Err e) (least, more) =
          let at = first.taken.1 in
          let both = length-append first.committed second.committed in
          let three = length-append (first.committed ++ second.committed) second.torn in
          let two = length-append second.committed second.torn in
          (omega (arith, at, both, two, three, least), omega (arith, at, both, more))

      settles : (result : Result T Refusal) → OnOk result (honest → IsSettled m → IsSettled n) → OnOk result (honest → IsSettled s → IsSettled n)
      settles (Ok done) rests = λ honest settled. rests honest (first.settled honest settled)
      settles (Err e) rests = tt

  module _ {D : Type 0} (disk : Ghosts D) (most : ℕ) (some_may : 0 < most) where
    -- the last of several chains: if it wasn't refused, its last take found no more
    abbrev AtEnd : TakerState → Result (Unit {0}) Refusal → Type 0
    AtEnd q result = OnOk result (q.taken ≡ length q.seen)

    none_given : (batches : List (List Decision)) (p q : TakerState) → GivesAll DrawsNext p batches q → 0 ≡ length (batched_decisions batches) → batches ≡ []
    none_given [] p q given none = refl
    none_given ([] ∷ batches) p q (next, (some, given), rest) none = absurd (some refl)
    none_given ((d ∷ batch) ∷ batches) p q given none = absurd (omega (arith, none))

    found_no_more : (s : StoreState) (batches : List (List Decision)) (p q : TakerState) → batches ≡ [] → HasEnded DrawsNext most s batches p q → q.taken ≡ length q.seen
    found_no_more s batches p q none (inl (same, inl all)) = let is : length batches ≡ 0 = ap length none in absurd (omega (arith, some_may, all, is))
    found_no_more s batches p q none (inl (same, inr (some, full))) = absurd (some none)
    found_no_more s batches p q none (inr (few, (taken, (least, (next, (seen, short)))))) = short (omega arith)

    abbrev Whole : (old new : Store D disk) (p q : TakerState) (x y : C) (result : Result (Unit {0}) Refusal) → Type 0
    Whole old new p q x y result = Along disk.honest (store_state disk.state old) (store_state disk.state new) p q x y result × AtEnd q result

    last_one : (old new : Store D disk) (p q : TakerState) (x y : C) (result : Result (Unit {0}) Refusal)
        → IsChain disk DrawsNext effects call most old new p q x y (last_answer result) → Whole old new p q x y result
    last_one old new p q x y (Ok done) chain = (
      one_well disk most old new p q x y 0 done chain,
      found_no_more (store_state disk.state new) chain.batches chain.feed q (none_given chain.batches p chain.feed chain.given chain.ends.0) chain.ends.1.1,
    )
    last_one old new p q x y (Err e) chain = (one_refused disk most old new p q x y e chain, tt)

    -- several chains
    along_all : (old new : Store D disk) (p q : TakerState) (x y : C) (counts : List ℕ) (result : Result (Unit {0}) Refusal)
        → MakeChains disk DrawsNext effects call most old new p q x y (answers_of counts result) → Whole old new p q x y result
    along_all old new p q x y [] result (s, (f, (o, (chain, (same, (same_feed, same_out)))))) =
        subst (λ n. Whole old n p q x y result) (sym same)
        (subst (λ d. Whole old s p d x y result) (sym same_feed)
        (subst (λ z. Whole old s p f x z result) (sym same_out) (last_one old s p f x o result chain)))
    along_all old new p q x y (count ∷ counts) result (s, (f, (o, (chain, rest)))) =
        let others = along_all s new f q o y counts result rest in (
          then_drawn {U = ℕ} disk.honest (store_state disk.state old) (store_state disk.state s) (store_state disk.state new) p f q x o y count result
              (one_well disk most old s p f x o count count chain) others.0,
          others.1,
        )

    pub chains_commit : (old new : Store D disk) (p q : TakerState) (x y : C) (counts : List ℕ) (result : Result (Unit {0}) Refusal)
        → MakeChains disk DrawsNext effects call most old new p q x y (answers_of counts result)
        → CommitsTaken disk.honest effects call (store_state disk.state old) (store_state disk.state new) p q x y result
    chains_commit old new p q x y counts result made = let (is, ended) = along_all old new p q x y counts result made in record {
      committed = is.committed;
      torn = is.torn;
      next = is.next;
      seen = is.seen;
      commits = is.commits;
      calls = is.calls;
      left = is.left;
      given = is.given;
      all = whole result is ended;
      taken = counted result is;
      settled = is.settled;
      images = is.images;
    }
      where
        whole : (result : Result (Unit {0}) Refusal) (is : Along disk.honest (store_state disk.state old) (store_state disk.state new) p q x y result) → AtEnd q result
            → OnOk result ((is.committed ≡ drop p.taken q.seen) × ((is.torn ≡ []) × (q.taken ≡ length q.seen)))
        whole (Err e) is ended = tt
        whole (Ok done) is ended =
            let next = subst (λ l. IsPrefix l (drop p.taken q.seen)) (ap (λ l. is.committed ++ l) is.taken.0 ∙ append-nil is.committed) is.next in
            let long = length-drop p.taken q.seen in
            let taken = is.taken.1 in
            (begins_whole is.committed (drop p.taken q.seen) next (omega (arith, long, taken, ended)), (is.taken.0, ended))

        counted : (result : Result (Unit {0}) Refusal) (is : Along disk.honest (store_state disk.state old) (store_state disk.state new) p q x y result)
            → MatchResult result
            (λ _. q.taken ≡ p.taken + length is.committed)
            (λ _. (p.taken + length (is.committed ++ is.torn) ≤ q.taken) × (q.taken ≤ p.taken + length is.committed + 2 * 64))
        counted (Ok done) is = is.taken.1
        counted (Err e) is = is.taken
