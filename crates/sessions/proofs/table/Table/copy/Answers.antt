use Rattle.std.proofs.Common.{◌≡◌, ◌≤◌, ◌∙◌, [], ◌∷◌, ◌++◌, nat_eq, cond, is_ok, sym, ap, refl, arith}
use Rattle.std.proofs.lemmas.List.{take_all}
use Rattle.std.proofs.lemmas.Option.{slice_get_read}
use Rattle.std.proofs.lemmas.Result.{IfOk-at_ok}
use Rattle.std.specs.HashMap.{get, spare}
use Rattle.std.specs.Vec.{vec_capacity}
use Rattle.std.proofs.Common.{length, subst}
use Rattle.sessions.specs.Index.{HaveOwnSlots}
use Rattle.sessions.specs.Table.{slot_of}
use Rattle.sessions.proofs.CopyState.{copied-more}
use Rattle.sessions.proofs.table.Table.copy.Goals as goal

pub loop-slot-preserved : goal.loop-slot-preserved
loop-slot-preserved c =
    let from = c.deref-device-items.result.now in
    let n = c.loop-slot.slot in
    let x = c.device-item.result in
    let own : HaveOwnSlots from = subst HaveOwnSlots (sym c.deref-device-items.ensures.value) c.self.invariant.own in
    let updates = IfOk-at_ok (λ _. _) c.unwrap.ensures c.insert-indexed.ensures.updates in
    let items = c.push-pushed.ensures.items ∙ ap (λ r. cond (is_ok r) (c.loop-slot.devices.items ++ c.in_ok-copy.field-0 ∷ []) c.loop-slot.devices.items) c.unwrap-in-loop-slot.ensures in
    copied-more n c.get-most.result from c.loop-slot.devices.items c.push-pushed.new.self.items x c.in_ok-copy.field-0
    (vec_capacity c.loop-slot.devices) (vec_capacity c.push-pushed.new.self) (get nat_eq c.loop-slot.index) (get nat_eq c.insert-indexed.new.self)
    (spare c.loop-slot.index) (spare c.insert-indexed.new.self)
    c.loop-slot-test.true c.device-item.is (own n x (slice_get_read from (length from) n x refl c.loop-slot-test.true c.device-item.is)) c.loop-slot.invariant items c.in_ok-copy.ensures c.push-pushed.ensures.capacity updates.0 c.insert-indexed.ensures.spare

pub invariant_of-result : goal.invariant_of-result
invariant_of-result c =
    let from = c.deref-device-items.result.now in
    let done : length from ≤ c.loop-slot.slot = c.loop-slot-test.false in
    let items : c.loop-slot.devices.items ≡ c.self.inside.devices.items = c.loop-slot.invariant.devices ∙ (take_all c.loop-slot.slot from done ∙ c.deref-device-items.ensures.value) in
    let fewer = c.self.invariant.few in
    let long = ap length c.deref-device-items.ensures.value in
    record {
      few = rw items c.self.invariant.few;
      slots = c.self.invariant.slots;
      finds = λ e. c.loop-slot.invariant.finds e ∙ ap (slot_of e) (take_all c.loop-slot.slot from done ∙ (c.deref-device-items.ensures.value ∙ sym items));
      own = subst HaveOwnSlots (sym items) c.self.invariant.own;
      room = omega (arith, c.loop-slot.invariant.whole, c.get-most.ensures.value);
      spare = rw items (omega (arith, c.loop-slot.invariant.room, c.get-most.ensures.value, c.loop-slot.auto.slot-end));
    }
