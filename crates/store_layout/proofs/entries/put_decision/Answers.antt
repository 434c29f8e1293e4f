use Rattle.std.proofs.Common.{◌≡◌, ◌++◌, ℕ, List, Option, Some, None, Result, Ok, Err, refl, subst, sym}
use Rattle.std.specs.Option.{IfSome, MatchOption}
use Rattle.std.specs.Result.{MatchResult}
use Rattle.lw_types.specs.declared.refusal.Refusal.{Refusal}
use Rattle.lw_types.specs.declared.refusal.Refusal.TheVariants.{OutOfMemory}
use Rattle.devices.specs.Becoming.{MayBecome}
use Rattle.devices.specs.declared.device.Device.{Device}
use Rattle.record_codec.specs.declared.version.RecordVersion.{RecordVersion}
use Rattle.record_codec.specs.Change.{IsChangeOf}
use Rattle.sessions.specs.declared.decision.Decision.{Decision}
use Rattle.record_codec.specs.Version.{newest}
use Rattle.store_layout.specs.Entries.{EntryValue, IsEntry, IsEntryOf, entry}
use Rattle.store_layout.specs.Entries.EntryValue.{Changed, Whole}
use Rattle.store_layout.proofs.entries.put_decision.Goals as goal

pub put_change_entry-requires : goal.put_change_entry-requires
put_change_entry-requires c =
    let d = c.args.decision.now in
    subst (λ (o : Option Device). IfSome o (λ before. MayBecome before d.after)) c.in-Some.is (c.a_decision_is_a_step.ensures d)

module _ (v : RecordVersion) (d : Decision) (old new : List ℕ) where
  whole_put : (r : Result (Unit {0}) Refusal) → d.before ≡ None
      → MatchResult r (λ _. (new ≡ old ++ entry v (Whole d.slot d.after)) × IsEntry v (Whole d.slot d.after)) (λ e. (e ≡ OutOfMemory) × (new ≡ old))
      → MatchResult r (λ _. (e : EntryValue) × (new ≡ old ++ entry v e) × IsEntry v e × IsEntryOf v d e) (λ e. (e ≡ OutOfMemory) × (new ≡ old))
  whole_put (Ok u) none put =
      let e = Whole d.slot d.after in
      (e, put.0, put.1, subst (λ (o : Option Device). MatchOption o (e ≡ Whole d.slot d.after) (λ before. (change : List ℕ) × (e ≡ Changed d.slot change) × IsChangeOf v before d.after change)) (sym none) refl)
  whole_put (Err e) none refused = refused

  change_put : (r : Result (Unit {0}) Refusal) (before : Device) → d.before ≡ Some before
      → MatchResult r (λ _. (change : List ℕ) × (new ≡ old ++ entry v (Changed d.slot change)) × IsEntry v (Changed d.slot change) × IsChangeOf v before d.after change) (λ e. (e ≡ OutOfMemory) × (new ≡ old))
      → MatchResult r (λ _. (e : EntryValue) × (new ≡ old ++ entry v e) × IsEntry v e × IsEntryOf v d e) (λ e. (e ≡ OutOfMemory) × (new ≡ old))
  change_put (Ok u) before some put =
      let e = Changed d.slot put.0 in
      (e, put.1, put.2, subst (λ (o : Option Device). MatchOption o (e ≡ Whole d.slot d.after) (λ x. (change : List ℕ) × (e ≡ Changed d.slot change) × IsChangeOf v x d.after change)) (sym some) (put.0, refl, put.3))
  change_put (Err e) before some refused = refused

pub returns-in-None : goal.returns-in-None
returns-in-None c = whole_put newest c.args.decision.now c.args.out.now.items c.put_entry.new.out.items c.put_entry.result c.in-None.is c.put_entry.ensures

pub returns-in-Some : goal.returns-in-Some
returns-in-Some c =
    change_put newest c.args.decision.now c.args.out.now.items c.put_change_entry.new.out.items c.put_change_entry.result c.in-Some.before c.in-Some.is c.put_change_entry.ensures
