use Rattle.std.proofs.Common.{◌+◌, suc, ◌≡◌, ◌<◌, ◌≤◌, ◌∙◌, length, Some, None, map, set, sym, ap, subst, refl, arith}
use Rattle.std.specs.Prelude.{◌-◌, nat_eq, slice_get}
use Rattle.std.specs.HashMap.{get, spare}
use Rattle.std.specs.Vec.{vec_capacity}
use Rattle.sessions.specs.declared.table.TheConstants.{MOST_SLOTS}
use Rattle.std.proofs.lemmas.List.{length-map}
use Rattle.std.proofs.lemmas.Option.{slice_get-get_or}
use Rattle.devices.specs.Restored.{restored_device}
use Rattle.devices.specs.declared.device.Device.{Device}
use Rattle.sessions.specs.Index.{HaveOwnSlots, table_of}
use Rattle.sessions.specs.Restored.{spent_device}
use Rattle.sessions.specs.Table.{slot_of}
use Rattle.sessions.proofs.Restoring.{all_restored, has_left, next_restored, own_slots, restored_up_to, same_place, still_long, still_there, unfound}
use Rattle.sessions.proofs.table.Table.restore.Goals as goal

pub loop-slot-preserved : goal.loop-slot-preserved
loop-slot-preserved c =
    let devices = c.self.inside.devices.items in
    let items = c.loop-slot.self-inside.devices.items in
    let since = c.args.since in
    let n = c.loop-slot.slot in
    let d = c.index_mut.result.now in
    let so_far : items ≡ restored_up_to since n devices = c.loop-slot.invariant.0 in
    let long : length items ≡ length devices = ap length so_far ∙ still_long since n devices in
    let within : n < length items = omega (arith, long, c.loop-slot-test.true, c.len-slot-end.ensures, c.self.inside.devices.ok.0) in
    let at : slice_get devices n ≡ Some d =
    sym (still_there since n devices) ∙ (ap (λ l. slice_get l n) (sym so_far) ∙ (slice_get-get_or items n d within ∙ ap Some (sym c.index_mut.ensures.value))) in
    let none : spent_device since (table_of c.self.inside) ≡ None =
    ap (spent_device since) c.self.view_is ∙ unfound (λ (x : Device). x.dev_eui) (spent_device since c.args.self.now) (sym c.spent_device.ensures ∙ c.in_default.is) in
    let left = has_left since devices n d none at in (
      ap (λ l. set l n c.restore-restored.new.self) so_far
          ∙ (ap (set (restored_up_to since n devices) n) (c.restore-restored.ensures.restored (c.restore-restored.ensures.left ∙ left)) ∙ (next_restored since n devices d at ∙ ap (λ k. restored_up_to since k devices) (let next : suc n ≡ n + 1 = omega arith in next))),
      c.loop-slot.invariant.1,
    )

pub invariant_of-self : goal.invariant_of-self
invariant_of-self c =
    let devices = c.self.inside.devices.items in
    let since = c.args.since in
    let items : c.loop-slot.self-inside.devices.items ≡ map (restored_device since) devices =
    c.loop-slot.invariant.0 ∙ all_restored since c.loop-slot.slot devices (omega (arith, c.loop-slot-test.false, c.len-slot-end.ensures)) in
    let rest = c.loop-slot.invariant.1 in
    let long : length c.loop-slot.self-inside.devices.items ≡ length devices = ap length items ∙ length-map devices (restored_device since) in
    record {
      few = subst (λ n. length c.loop-slot.self-inside.devices.items ≤ n) (sym rest.1.1.0) (omega (arith, long, c.self.invariant.few));
      slots = subst (λ n. n ≤ MOST_SLOTS) (sym rest.1.1.0) c.self.invariant.slots;
      finds = λ e. ap (λ i. get nat_eq i e) rest.1.1.1 ∙ (c.self.invariant.finds e ∙ (sym (same_place (restored_device since) (λ d. refl) e 0 devices) ∙ ap (slot_of e) (sym items)));
      own = subst HaveOwnSlots (sym items) (own_slots (restored_device since) (λ d. refl) devices c.self.invariant.own);
      room = subst (λ n. n ≤ vec_capacity c.loop-slot.self-inside.devices) (sym rest.1.1.0) (omega (arith, rest.0, c.self.invariant.room));
      spare =
          subst (λ n. n - length c.loop-slot.self-inside.devices.items ≤ spare c.loop-slot.self-inside.index) (sym rest.1.1.0)
          (subst (λ i. c.self.inside.slots - length c.loop-slot.self-inside.devices.items ≤ spare i) (sym rest.1.1.1) (omega (arith, long, c.self.invariant.spare)));
    }
