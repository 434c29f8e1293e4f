use Rattle.std.proofs.Common.{◌≡◌, ◌≢◌, ◌∙◌, ◌<◌, ◌+◌, ◌-◌, ◌^◌, ℕ, Option, None, Some, MatchOption, MatchResult, Result, IfSome, IfErr, ap, subst, sym}
use Rattle.std.proofs.lemmas.Result.{IfErr-weaker}
use Rattle.disk.specs.Outlook.{IsArmed}
use Rattle.disk.specs.Outlook.Outlook.{AllSucceed, FailsAfter}
use Rattle.disk.specs.State.{IsPermitted, NothingOpen, State}
use Rattle.disk.specs.declared.disk.Disk.{Ghosts}
use Rattle.disk.specs.declared.sim.Image.{Image}
use Rattle.lw_types.specs.declared.refusal.Refusal.{Refusal}
use Rattle.lw_types.specs.declared.refusal.Refusal.TheVariants.{DeviceFailed}
use Rattle.store.specs.Made.{IsOpenAnswer}
use Rattle.store.specs.State.{HoldsOn, disk_of}
use Rattle.store.specs.declared.store.Store.{Store}
use Rattle.store.proofs.HoldingOn.{content_is_left, holds_on_from}
use Rattle.flusher_lives.specs.OverLives.{IsLeftBy, IsReopened}
use Rattle.flusher_lives.proofs.over_lives.reopen.Goals as goal
use Rattle.flusher_lives.proofs.over_lives.reopen.Goals.{in-Some, in_default}

-- what a crash left, or the disk as it was, may have been left of the disk
may_be_left : (crash : Option Image) (old left : State) → MatchOption crash (left ≡ old) (λ image. IsLeftBy image old left) → IsPermitted old left.content
may_be_left None old left same = subst (λ (s : State). IsPermitted s left.content) same (content_is_left left)
may_be_left (Some image) old left is = is.permitted

-- and what holds that holds what the disk held
still_held : (crash : Option Image) (old left back : State) → MatchOption crash (left ≡ old) (λ image. IsLeftBy image old left) → HoldsOn left back → HoldsOn old back
still_held None old left back same on = subst (λ (s : State). HoldsOn s back) same on
still_held (Some image) old left back is on = holds_on_from old left back is.permitted is.settled.nothing_open on

-- the disk that was opened holds what was left
reopened : {D : Type 0} (disk : Ghosts D) (crash : Option Image) (failing : Option ℕ) (old left at : D) (r : Result (Store D disk) (D × Refusal))
    → MatchOption crash (disk.state left ≡ disk.state old) (λ image. IsLeftBy image (disk.state old) (disk.state left))
    → disk.failures left ≡ disk.failures old
    → disk.state at ≡ disk.state left → disk.failures at ≡ disk.failures left
    → IfSome failing (λ n. disk.failures old + 1 < 2 ^ 64 → disk.outlook at ≡ FailsAfter (n - 1))
    → (failing ≡ None → disk.outlook at ≡ disk.outlook old)
    → IsOpenAnswer disk at (λ error. error.1) r
    → IfErr r (λ error. (error.1 ≡ DeviceFailed → disk.failures error.0 ≡ disk.failures at + 1) × (error.1 ≢ DeviceFailed → disk.failures error.0 ≡ disk.failures at))
    → (disk.outlook at ≡ AllSucceed → IfErr r (λ error. disk.outlook error.0 ≡ AllSucceed))
    → (IsArmed (disk.outlook at) → MatchResult r (λ store. IsArmed (disk.outlook (disk_of store)))
    (λ error. (error.1 ≡ DeviceFailed → disk.outlook error.0 ≡ AllSucceed) × (error.1 ≢ DeviceFailed → IsArmed (disk.outlook error.0))))
    → IfErr r (λ error. error.1 ≢ DeviceFailed → NothingOpen (disk.state error.0) × ((disk.state error.0).content ≡ (disk.state at).content))
    → IfErr r (λ error. HoldsOn (disk.state at) (disk.state error.0))
    → IsReopened disk crash failing old r
reopened disk crash failing old left at r is count same same_count armed unarmed answer device still_unarmed still_armed unwritten kept =
    let there : MatchOption crash (disk.state at ≡ disk.state old) (λ image. IsLeftBy image (disk.state old) (disk.state at)) =
    subst (λ (s : State). MatchOption crash (s ≡ disk.state old) (λ image. IsLeftBy image (disk.state old) s)) (sym same) is in
    record {
      at = at;
      left = there;
      permitted = may_be_left crash (disk.state old) (disk.state at) there;
      failures = same_count ∙ count;
      armed = armed;
      unarmed = unarmed;
      answer = answer;
      device = device;
      still_unarmed = still_unarmed;
      still_armed = still_armed;
      unwritten = unwritten;
      kept = IfErr-weaker r _ _ (λ error on. still_held crash (disk.state old) (disk.state at) (disk.state error.0) there on) kept;
    }

pub returns : goal.returns
returns g c = elim c.match-failing.branch [
  | in-Some w ↦ reopened g.D.Disk c.args.crash.now c.args.failing c.args.disk c.crash_to.new.disk c.match-failing.disk c.open_back.result
      c.crash_to.ensures.left c.crash_to.ensures.failures
      (ap g.D.Disk.state w.disk-is ∙ w.arm.ensures.same) (ap g.D.Disk.failures w.disk-is ∙ w.arm.ensures.failures)
      (subst (λ f. IfSome f (λ n. g.D.Disk.failures c.args.disk + 1 < 2 ^ 64 → g.D.Disk.outlook c.match-failing.disk ≡ FailsAfter (n - 1))) (sym w.in-Some.is)
      (λ fits. ap g.D.Disk.outlook w.disk-is
      ∙ (w.arm.ensures.armed (subst (λ m. m + 1 < 2 ^ 64) (sym c.crash_to.ensures.failures) fits) ∙ ap (λ n. FailsAfter (n - 1)) w.get.ensures.value)))
      (λ none. let is = w.in-Some.is in let no : ⊥ = cc in absurd no)
      c.open_back.ensures.made c.open_back.ensures.device c.open_back.ensures.unarmed c.open_back.ensures.armed
      (c.open_back.ensures.memory g.met.D.Sim.is_honest) (c.open_back.ensures.kept g.met.D.Sim.is_honest)
  | in_default w ↦ reopened g.D.Disk c.args.crash.now c.args.failing c.args.disk c.crash_to.new.disk c.match-failing.disk c.open_back.result
      c.crash_to.ensures.left c.crash_to.ensures.failures
      (ap g.D.Disk.state w.disk-is) (ap g.D.Disk.failures w.disk-is)
      (subst (λ f. IfSome f (λ n. g.D.Disk.failures c.args.disk + 1 < 2 ^ 64 → g.D.Disk.outlook c.match-failing.disk ≡ FailsAfter (n - 1))) (sym w.in_default.is) tt)
      (λ none. ap g.D.Disk.outlook w.disk-is ∙ c.crash_to.ensures.outlook) c.open_back.ensures.made c.open_back.ensures.device c.open_back.ensures.unarmed
      c.open_back.ensures.armed (c.open_back.ensures.memory g.met.D.Sim.is_honest) (c.open_back.ensures.kept g.met.D.Sim.is_honest)
]
