-- What was committed of what was decided.
use Rattle.std.proofs.Common.{◌≡◌, ◌∙◌, ◌+◌, ◌++◌, ◌∷◌, ℕ, Bool, true, false, List, [], Result, Ok, Err, MatchResult, IfErr, IfOk, OnOk, ap, append_assoc, arith, drop, length, length-append, refl, subst, sym}
use Rattle.std.specs.Prelude.{◌↔◌, IsTrue}
use Rattle.std.proofs.lemmas.List.{append-nil}
use mathlib.Core.List.{IsPrefix}
use Rattle.devices.specs.declared.effect.Effect.{Effect}
use Rattle.lw_types.specs.declared.refusal.Refusal.{Refusal}
use Rattle.lnsd_operator.specs.declared.fault.ServeFault.{ServeFault}
use Rattle.lnsd_operator.specs.declared.fault.ServeFault.TheVariants.{Refused}
use Rattle.session_core.specs.Taking.{TakerState, new_taker}
use Rattle.sessions.specs.declared.decision.Decision.{Decision}
use Rattle.store.specs.State.{StoreState}
use Rattle.flusher.specs.Cycle.{Commits}
use Rattle.flusher.specs.Drawn.{CommitsTaken}
use Rattle.lnsd_life.specs.Served.{CommitsInOrder, CommitsHistory, IsUntold}
use Rattle.lnsd_life.specs.declared.report.LifeReport.{LifeReport}

begins : {A : Type 0} (xs ys zs : List A) → IsPrefix (xs ++ ys) zs → IsPrefix xs zs
begins xs ys zs (more, is) = (ys ++ more, sym (append_assoc xs ys more) ∙ is)

-- a store that has committed nothing
pub nothing_committed : (s : StoreState) → Commits s s []
nothing_committed s = record {
  continues = record { fit = tt; numbered = tt };
  table = refl;
  seq = omega arith;
}

pub none_decided : (s : StoreState) (before : TakerState) (seen : List Decision) (e : Refusal) → CommitsInOrder s s before seen (Err e)
none_decided s before seen e = record {
  committed = [];
  next = (drop before.taken seen, refl);
  commits = nothing_committed s;
  all = tt;
}

module _ {C V : Type 0} (honest : Type 0) (effects : V → List Effect) (call : C → V → C → Type 0) (old new : StoreState) (before after : TakerState) (x y : C) where
  all_seen : (ended : Result (Unit {0}) Refusal) (t : CommitsTaken honest effects call old new before after x y ended) → OnOk ended (t.committed ≡ drop before.taken after.seen)
  all_seen (Ok done) t = t.all.0
  all_seen (Err e) t = tt

  -- what chains did, with what was seen of the history
  pub seen_decided : (ended : Result (Unit {0}) Refusal) (start : TakerState) (seen : List Decision) → before ≡ start → seen ≡ after.seen
      → CommitsTaken honest effects call old new before after x y ended → CommitsInOrder old new start seen ended
  seen_decided ended start seen from is t =
      subst (λ s. CommitsInOrder old new s seen ended) from
      (subst (λ l. CommitsInOrder old new before l ended) (sym is)
      (record {
        committed = t.committed;
        next = begins t.committed t.torn (drop before.taken after.seen) t.next;
        commits = t.commits;
        all = all_seen ended t;
      }))

  -- if they ended well, all that was seen was taken
  pub seen_counted : (ended : Result (Unit {0}) Refusal) (start : TakerState) (seen : List Decision) → before ≡ start → seen ≡ after.seen
      → CommitsTaken honest effects call old new before after x y ended
      → OnOk ended (new.seq + before.taken ≡ old.seq + after.taken) → OnOk ended (new.seq + start.taken ≡ old.seq + length seen)
  seen_counted (Ok done) start seen from is t counted =
      let all : after.taken ≡ length after.seen = t.all.1.1 in
      let same : before.taken ≡ start.taken = ap (λ (s : TakerState). s.taken) from in
      let many : length seen ≡ length after.seen = ap length is in
      omega (arith, counted, all, same, many)
  seen_counted (Err e) start seen from is t counted = tt

-- a report's number is that of all decisions
pub told_history : (ended : Result (Unit {0}) Refusal) (seen : List Decision) (report : Result LifeReport ServeFault) (old new : StoreState)
    → IfErr ended (λ refusal. report ≡ Err (Refused refusal)) → OnOk ended (MatchResult report (λ r. r.made ≡ length seen) IsUntold)
    → CommitsInOrder old new new_taker seen ended → CommitsHistory old new report
told_history (Ok done) seen (Ok report) old new refused told d = record {
  history = seen;
  committed = d.committed;
  next = d.next;
  commits = d.commits;
  all = (d.all, told);
}
told_history (Ok done) seen (Err fault) old new refused told d = record {
  history = seen;
  committed = d.committed;
  next = d.next;
  commits = d.commits;
  all = tt;
}
told_history (Err e) seen report old new refused told d = record {
  history = seen;
  committed = d.committed;
  next = d.next;
  commits = d.commits;
  all = subst (λ r. IfOk r (λ (of : LifeReport). (d.committed ≡ seen) × (of.made ≡ length seen))) (sym refused) tt;
}

-- of two beginnings of one list, those of one length are the same
pub same_length : {A : Type 0} (xs ys : List A) → IsPrefix xs ys → length xs ≡ length ys → xs ≡ ys
same_length {A} xs ys (more, is) even = sym (append-nil xs) ∙ (ap (λ l. xs ++ l) (sym (none more many)) ∙ is)
  where
    many : length more ≡ 0
    many = omega (arith, even, ap length is, length-append xs more)

    none : (l : List A) → length l ≡ 0 → l ≡ []
    none [] e = refl
    none (l ∷ ls) e = absurd (omega (arith, e))

-- so it is if one of them is the beginning of the other
pub same_list : {A : Type 0} (xs ys : List A) (begins : Bool) → (IsTrue begins ↔ IsPrefix xs ys) → (begins ≡ false → IsPrefix ys xs)
    → length xs ≡ length ys → xs ≡ ys
same_list xs ys true exact otherwise even = same_length xs ys (exact.0 refl) even
same_list xs ys false exact otherwise even = sym (same_length ys xs (otherwise refl) (sym even))
