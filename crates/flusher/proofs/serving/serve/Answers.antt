use denote.Param.Always.{always_mut, mut_next}
use denote.Param.Members.{Called, Mut}
use Rattle.std.proofs.Common.{Vec, ℕ, zero, suc, Bool, false, ◌≡◌, ◌<◌, ◌++◌, ◌∷◌, [], List, map, rules, arith, Result, Ok, refl, subst, sym}
use Rattle.devices.specs.declared.effect.Effect.{Effect}
use Rattle.disk.specs.declared.disk.Disk.{Ghosts}
use Rattle.lw_types.specs.declared.refusal.Refusal.{Refusal}
use Rattle.std.proofs.lemmas.Fn.{FoldsTo-push}
use Rattle.std.specs.Global.{Global}
use Rattle.store.specs.State.{store_state}
use Rattle.store.specs.declared.store.Store.{Store}
use Rattle.flusher.specs.Released.{effects_of_all}
use Rattle.flusher.specs.declared.released.Released.{Released}
use Rattle.flusher.specs.Chain.{FeedGives, IsChain}
use Rattle.flusher.specs.Serving.{GoesOnAfter}
use Rattle.flusher.proofs.Leading.{chains_then, counts_then, nothing_yet, leaves_callable, lead_then}
use Rattle.flusher.proofs.serving.serve.Goals as goal
use Rattle.flusher.proofs.serving.serve.Goals.{else-branch-eq0-via-then-branch-eq0+else-done, else-branch-eq0-via-else-branch-eq0}

-- a chain's result and its bound, by other names
last_as : {D F C V : Type 0} {disk : Ghosts D} {gives : FeedGives F} {effects : V → List Effect}
    {call : C → V → C → Type 0} {most bound : ℕ} {old new : Store D disk} {old_feed new_feed : F}
    {old_out new_out : C} {result answer : Result ℕ Refusal} → bound ≡ most → result ≡ answer
    → IsChain disk gives effects call bound old new old_feed new_feed old_out new_out result
    → IsChain disk gives effects call most old new old_feed new_feed old_out new_out answer
last_as {D} {F} {C} {V} {disk} {gives} {effects} {call} {most} {bound} {old} {new} {old_feed}
    {new_feed} {old_out} {new_out} {result} {answer} is_most is_answer chain =
    subst (λ m. IsChain disk gives effects call m old new old_feed new_feed old_out new_out answer)
    is_most
    (subst (λ r. IsChain disk gives effects call bound old new old_feed new_feed old_out new_out r)
    is_answer chain)

-- after a chain without a batch it was asked whether all is done
asked : {S : Type 0} (f : Mut S (Unit {0}) Bool) (count : ℕ) (old new mid : S) (answer : Bool) → count ≡ 0 → answer ≡ false → Called f old tt answer mid → new ≡ mid
    → GoesOnAfter (λ before answer after. Called f before tt answer after) old count new
asked f count old new mid answer none not_yet is same =
    subst (λ n. GoesOnAfter (λ before answer after. Called f before tt answer after) old n new) (sym none)
    (subst (λ s. Called f old tt false s) (sym same) (subst (λ b. Called f old tt b mid) not_yet is))

-- and after one with a batch it wasn't
unasked : {S : Type 0} (f : Mut S (Unit {0}) Bool) (count : ℕ) (old new : S) → 0 < count → new ≡ old
    → GoesOnAfter (λ before answer after. Called f before tt answer after) old count new
unasked f zero old new some same = absurd (omega (arith, some))
unasked f (suc count) old new some same = same

pub loop-init : goal.loop-init
loop-init g c = (
  c.requires.out,
  (
    c.requires.done,
    (
      λ honest.
          nothing_yet (λ (released : Vec Released Global). effects_of_all released.items) (λ before released after. Called g.C.FnMut before (released, tt) tt after)
          (store_state g.D.Disk.state c.args.store.now) c.args.out.now,
      ([], ((refl, (refl, refl)), refl)),
    ),
  ),
)

pub returns-in_err-chain-clause-lives : goal.returns-in_err-chain-clause-lives
returns-in_err-chain-clause-lives g c = λ honest.
    lead_then (λ (released : Vec Released Global). effects_of_all released.items) (λ before released after. Called g.C.FnMut before (released, tt) tt after)
    (store_state g.D.Disk.state c.args.store.now) (store_state g.D.Disk.state c.loop.store) (store_state g.D.Disk.state c.chain.new.store)
    c.args.out.now c.loop.out c.chain.new.out (c.loop.invariant.1.1.0 honest) (c.chain.ensures.lives honest)

pub returns-then-done-clause-lives : goal.returns-then-done-clause-lives
returns-then-done-clause-lives g c = λ honest.
    lead_then (λ (released : Vec Released Global). effects_of_all released.items) (λ before released after. Called g.C.FnMut before (released, tt) tt after)
    (store_state g.D.Disk.state c.args.store.now) (store_state g.D.Disk.state c.loop.store) (store_state g.D.Disk.state c.chain.new.store)
    c.args.out.now c.loop.out c.chain.new.out (c.loop.invariant.1.1.0 honest) (c.chain.ensures.lives honest)

pub loop-preserved : goal.loop-preserved
loop-preserved g c = (
  (let done = c.in_ok-chain.ensures.chain in leaves_callable (λ (released : Vec Released Global). effects_of_all released.items) g.C.FnMut _ done.batches c.loop.out c.chain.new.out done.leave c.loop.invariant.0),
  (
    elim c.else-branch-eq0.branch [
      | else-branch-eq0-via-then-branch-eq0+else-done w ↦ mut_next g.S.FnMut _ _ _ _ _ w.done.ensures (sym w.done-is) c.loop.invariant.1.0
      | else-branch-eq0-via-else-branch-eq0 w ↦ subst (always_mut g.S.FnMut) (sym w.done-is) c.loop.invariant.1.0
    ],
    (
      λ honest.
          lead_then (λ (released : Vec Released Global). effects_of_all released.items) (λ before released after. Called g.C.FnMut before (released, tt) tt after)
          (store_state g.D.Disk.state c.args.store.now) (store_state g.D.Disk.state c.loop.store) (store_state g.D.Disk.state c.chain.new.store)
          c.args.out.now c.loop.out c.chain.new.out (c.loop.invariant.1.1.0 honest) (c.chain.ensures.lives honest),
      (
        c.loop.invariant.1.1.1.0 ++ c.in_ok-chain.field-0 ∷ [],
        (
          counts_then g.D.Disk g.F.Feed.gives (λ (released : Vec Released Global). effects_of_all released.items)
              (λ before released after. Called g.C.FnMut before (released, tt) tt after) 64 c.args.store.now c.loop.store c.chain.new.store
              c.args.feed.now c.loop.feed c.chain.new.feed c.args.out.now c.loop.out c.chain.new.out c.loop.invariant.1.1.1.0
              c.in_ok-chain.field-0 c.loop.invariant.1.1.1.1.0 (last_as c.served.ensures refl c.in_ok-chain.ensures.chain),
          FoldsTo-push (GoesOnAfter (λ before answer after. Called g.S.FnMut before tt answer after)) c.args.done.now c.loop.invariant.1.1.1.0 c.loop.done c.in_ok-chain.field-0
              c.else-branch-eq0.done c.loop.invariant.1.1.1.1.1
              (elim c.else-branch-eq0.branch [
                | else-branch-eq0-via-then-branch-eq0+else-done w ↦ asked g.S.FnMut c.in_ok-chain.field-0 c.loop.done c.else-branch-eq0.done _ _ (omega (arith, w.if-branch-eq0.true))
                    w.if-done.false w.done.ensures w.done-is
                | else-branch-eq0-via-else-branch-eq0 w ↦ unasked g.S.FnMut c.in_ok-chain.field-0 c.loop.done c.else-branch-eq0.done (omega (arith, w.if-branch-eq0.false)) w.done-is
              ]),
        ),
      ),
    ),
  ),
)

pub returns-in_err-chain-clause-chains : goal.returns-in_err-chain-clause-chains
returns-in_err-chain-clause-chains g c = (
  c.loop.invariant.1.1.1.0,
  (
    chains_then g.D.Disk g.F.Feed.gives (λ (released : Vec Released Global). effects_of_all released.items)
        (λ before released after. Called g.C.FnMut before (released, tt) tt after) 64 c.args.store.now c.loop.store c.chain.new.store
        c.args.feed.now c.loop.feed c.chain.new.feed c.args.out.now c.loop.out c.chain.new.out (map (λ count. Ok count) c.loop.invariant.1.1.1.0)
        _ c.loop.invariant.1.1.1.1.0 (last_as c.served.ensures (search rules) c.in_err-chain.ensures.chain),
    (c.loop.done, (c.loop.invariant.1.1.1.1.1, search rules)),
  ),
)

pub returns-then-done-clause-chains : goal.returns-then-done-clause-chains
returns-then-done-clause-chains g c = (
  c.loop.invariant.1.1.1.0,
  (
    chains_then g.D.Disk g.F.Feed.gives (λ (released : Vec Released Global). effects_of_all released.items)
        (λ before released after. Called g.C.FnMut before (released, tt) tt after) 64 c.args.store.now c.loop.store c.chain.new.store
        c.args.feed.now c.loop.feed c.chain.new.feed c.args.out.now c.loop.out c.chain.new.out (map (λ count. Ok count) c.loop.invariant.1.1.1.0)
        _ c.loop.invariant.1.1.1.1.0 (last_as c.served.ensures (search rules) c.in_ok-chain.ensures.chain),
    (c.loop.done, (c.loop.invariant.1.1.1.1.1, search rules)),
  ),
)
