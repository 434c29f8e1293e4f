use Rattle.std.proofs.Common.{◌≡◌, ◌≢◌, ◌≤◌, ◌⊎◌, inl, inr, ◌∙◌, ℕ, List, Some, Result, Ok, Err, length, refl, sym, ap, subst, arith}
use Rattle.std.proofs.lemmas.Option.{none-some, slice_get_read, slice_get_past, same_Some}
use Rattle.std.proofs.lemmas.Bool.{ltb-true, ltb-false}
use Rattle.std.specs.Prelude.{slice_get}
use Rattle.std.specs.Result.{IfOk, IfErr, MatchResult}
use Rattle.lw_types.specs.declared.refusal.Refusal.{Refusal}
use Rattle.lw_types.specs.declared.refusal.Refusal.TheVariants.{OutOfMemory, Damaged}
use Rattle.devices.specs.declared.device.Device.{Device}
use Rattle.record_codec.specs.declared.version.RecordVersion.{RecordVersion}
use Rattle.record_codec.specs.Change.{IsChangeOf, IsSomeChange}
use Rattle.sessions.specs.Table.{TableState}
use Rattle.store_layout.specs.Entries.{LeavesRecord}
use Rattle.store_layout.specs.Entries.EntryValue.{Changed}
use Rattle.store_layout.proofs.replaying.changed_record.Goals as goal

-- what a change leaves is what was read from it
left : (v : RecordVersion) (t : TableState) (slot : ℕ) (before : Device) (change : List ℕ) (r : Result Device Refusal) → slice_get t.devices slot ≡ Some before
    → IfOk r (λ after. IsChangeOf v before after change) → ((after : Device) → IsChangeOf v before after change → MatchResult r (λ found. found ≡ after) (λ e. e ≡ OutOfMemory))
    → IfErr r (λ e. (e ≡ OutOfMemory) ⊎ (e ≡ Damaged))
    → MatchResult r (λ after. LeavesRecord v t (Changed slot change) after)
    (λ e. e ≢ OutOfMemory → (e ≡ Damaged) × ((after : Device) → ¬ (LeavesRecord v t (Changed slot change) after)))
left v t slot before change (Ok after) at found only refused = (before, at, found)
left v t slot before change (Err e) at found only (inl memory) = λ other. absurd (other memory)
left v t slot before change (Err e) at found only (inr damaged) = λ other. (
  damaged,
  λ after is. other (only after (subst (λ (d : Device). IsChangeOf v d after change) (same_Some is.0 before (sym is.1 ∙ at)) is.2)),
)

pub returns-in-None-clause-left : goal.returns-in-None-clause-left
returns-in-None-clause-left c other = (
  refl,
  λ after is.
      let devices = c.devices.ensures.devices in
      let past : length c.devices.result.now ≤ c.from.result = ltb-false c.from.result (length c.devices.result.now) (sym c.in-None.ensures.lookup.0) in
      let long = ap length devices in
      none-some is.0 (sym (slice_get_past c.args.table.now.devices c.args.slot (omega arith)) ∙ is.1),
)

-- memory runs out only for changes of the record at the slot
wanted : (v : RecordVersion) (t : TableState) (slot : ℕ) (before : Device) (change : List ℕ) (r : Result Device Refusal) → slice_get t.devices slot ≡ Some before
    → (r ≡ Err OutOfMemory → IsSomeChange v before change) → IfErr r (λ e. e ≡ OutOfMemory → (after : Device) × LeavesRecord v t (Changed slot change) after)
wanted v t slot before change (Ok after) at memory = tt
wanted v t slot before change (Err e) at memory = λ is. let change_is = memory (ap Err is) in (change_is.0, (before, at, change_is.1))

pub returns-in-Some : goal.returns-in-Some
returns-in-Some c =
    let found = c.in-Some.ensures.lookup in
    let within = ltb-true c.from.result (length c.devices.result.now) (sym found.0) in
    let read = slice_get_read c.devices.result.now (length c.devices.result.now) c.from.result c.in-Some.before.now refl within found.1 in
    let at : slice_get c.args.table.now.devices c.args.slot ≡ Some c.in-Some.before.now =
    ap (λ (l : List Device). slice_get l c.args.slot) (sym c.devices.ensures.devices) ∙ (ap (slice_get c.devices.result.now) (sym c.from.ensures) ∙ read) in
    let k = c.read_change.ensures in
    record {
      left = left c.args.version c.args.table.now c.args.slot c.in-Some.before.now c.args.change.now c.read_change.result at k.found k.only k.refused;
      memory = wanted c.args.version c.args.table.now c.args.slot c.in-Some.before.now c.args.change.now c.read_change.result at k.memory;
    }
