-- Marks that are used up once.
use Rattle.std.proofs.Common.{◌≡◌, ◌≢◌, ◌<◌, inl, inr, ℕ, List, [], ◌∷◌, ◌++◌, length, nat_lt, cond, Option, Some, None, Result, Ok, Err, arith, refl, sym, ap, subst, ◌∙◌}
use Rattle.std.specs.Prelude.{slice_get, unwrap_or}
use Rattle.std.specs.List.{AllByRecursion}
use Rattle.std.proofs.lemmas.List.Elements.{All-from_recursion, recursion_from_All}
use Rattle.std.proofs.lemmas.Option.{none-some, slice_get_past}
use Rattle.lw_types.specs.declared.identifiers.Eui.{Eui}
use Rattle.lw_types.specs.declared.refusal.Refusal.{Refusal}
use Rattle.lw_types.specs.declared.refusal.Refusal.TheVariants.{DevEuiTaken, TableFull}
use Rattle.join_server.specs.declared.grant.JoinGrant.{JoinGrant}
use Rattle.devices.specs.Activation.{with_grant}
use Rattle.devices.specs.Device.{new_device}
use Rattle.devices.specs.Heard.{best_of}
use Rattle.devices.specs.DeviceStep.{DeviceStep, device_step}
use Rattle.devices.specs.declared.command.Command.{Command}
use Rattle.devices.specs.declared.command.Command.TheVariants.{Heard, Provision, Queue, QueueMac}
use Rattle.devices.specs.declared.device.Device.{Device}
use Rattle.devices.specs.declared.effect.Effect.{Effect}
use Rattle.devices.specs.declared.heard.Hearing.{Hearing}
use Rattle.devices.specs.declared.mark.Mark.{Mark}
use Rattle.devices.specs.declared.mark.Mark.TheVariants.{Granted}
use Rattle.devices.specs.Mark.{mark_of}
use Rattle.sessions.specs.Join.{accept_effects, join_ask, join_state, session_name, granted_session}
use Rattle.sessions.specs.Marks.{AreDistinct, AreOnce, Covers, HasUsedUp, IsSound, IsSubsequence, marks_of, session_in}
use Rattle.sessions.specs.Served.{received_in, served_at}
use Rattle.sessions.specs.Step.{provisioned_effects, step1}
use Rattle.sessions.specs.Table.{TableState, TableStep, effects_of, empty_table, fold_of, new_slot, place_for, sender_slot, slot_of, step, step_effects, with_step}
use Rattle.sessions.specs.declared.served.Served.{Served}
use Rattle.sessions.specs.declared.served.Served.TheVariants.{Request, Uplink}
use Rattle.sessions.proofs.Covering.{Changes, Regrants, moves_changed, order_at, sound_changed}
use Rattle.sessions.proofs.Grants.{Passes, answered-next, order_none, passes_grant, passes_nothing, passes_unmarked}
use Rattle.sessions.proofs.Joins.{IsGranted, both_ok, join-ok, no_ok, ok_is}
use Rattle.sessions.proofs.Moves.{Moves, all_append, all_then, distinct_append, marks_of-append, moves_nowhere, moves_then}
use Rattle.sessions.proofs.Queues.{IsQueued, queue-ok, queue_mac-ok}
use Rattle.sessions.proofs.Runs.{known-device, sender-device, step-carried, step-parts}
use Rattle.sessions.proofs.Frames.{heard-ok, uplink-ok}
use Rattle.sessions.proofs.Slots.{split}
use Rattle.sessions.proofs.Uplinks.{Carries, FitsAreOf, uplink-carries}

-- ---- one command

-- a slot is given only to a new name, and is the next one
new_slot-is : (t : TableState) (found : Option ℕ) (slot : ℕ) → new_slot t found ≡ Ok slot → (found ≡ None) × (slot ≡ length t.devices)
new_slot-is t (Some taken) slot h = no_ok DevEuiTaken slot _ h
new_slot-is t None slot h =
    split (nat_lt (length t.devices) t.slots)
    (λ room. (refl, sym (ok_is (length t.devices) slot (sym (ap (λ b. cond b (Ok (length t.devices)) (Err TableFull)) room) ∙ h))))
    (λ full. no_ok TableFull slot _ (sym (ap (λ b. cond b (Ok (length t.devices)) (Err TableFull)) full) ∙ h))

-- the Join-Accept of a granted session, or nothing, is the device's
accept-theirs : (d : Device) (grant : JoinGrant) (best : Option Hearing)
    → AllByRecursion (λ m. d.dev_eui ≡ (session_in m).dev_eui) (marks_of (accept_effects d.dev_eui grant best))
accept-theirs d grant None = tt
accept-theirs d grant (Some best) = (refl, tt)

accept-passes : (d : Device) (grant : JoinGrant) (best : Option Hearing) → unwrap_or d.activation.granted 0 < grant.join_nonce
    → Passes d.activation (with_grant d.activation (granted_session grant)) (marks_of (accept_effects d.dev_eui grant best))
accept-passes d grant best later = at best
  where
    granted : Passes d.activation (with_grant d.activation (granted_session grant)) (Granted (session_name d.dev_eui grant) ∷ [])
    granted = passes_grant d.activation (granted_session grant) later (session_name d.dev_eui grant) refl

    at : (best : Option Hearing) → Passes d.activation (with_grant d.activation (granted_session grant)) (marks_of (accept_effects d.dev_eui grant best))
    at None = passes_unmarked d.activation (with_grant d.activation (granted_session grant)) (Granted (session_name d.dev_eui grant) ∷ []) granted
    at (Some best) = granted

-- a join that was carried out on the device at its own slot
join-changes : (t : TableState) (slot : ℕ) (d : Device) (hearings : List Hearing) (request : List ℕ) (o : DeviceStep)
    → slot_of d.dev_eui.0 t.devices ≡ Some slot → slice_get t.devices slot ≡ Some d → IsGranted t.net_id slot d hearings request o
    → Regrants t slot o.device (marks_of o.effects)
join-changes t slot d hearings request o own at g =
    let next = answered-next (join_state d) (join_ask t.net_id slot d request 0) g.granted g.answer in
    let later : unwrap_or d.activation.granted 0 < g.granted.1.join_nonce = omega (arith, next) in
    subst (λ (o : DeviceStep). Regrants t slot o.device (marks_of o.effects)) g.is
    (record {
      device = d;
      own = own;
      at = at;
      named = refl;
      theirs = accept-theirs d g.granted.1 (best_of hearings);
      passes = accept-passes d g.granted.1 (best_of hearings) later;
    })

-- queueing leaves the device's grants unchanged
queue-changes : (t : TableState) (slot : ℕ) (d : Device) (dev_eui : Eui) (o : DeviceStep)
    → slot_of d.dev_eui.0 t.devices ≡ Some slot → slice_get t.devices slot ≡ Some d → IsQueued d dev_eui o
    → Regrants t slot o.device (marks_of o.effects)
queue-changes t slot d dev_eui o own at q =
    subst (Regrants t slot o.device) (sym q.unmarked)
    (record { device = d; own = own; at = at; named = q.named; theirs = tt; passes = passes_nothing d.activation o.device.activation q.same })

-- an uplink that was carried out uses up marks of the device
uplink-changes : (t : TableState) (slot : ℕ) (d : Device) (o : DeviceStep) → slot_of d.dev_eui.0 t.devices ≡ Some slot → slice_get t.devices slot ≡ Some d
    → Carries d o → Regrants t slot o.device (marks_of o.effects)
uplink-changes t slot d o own at carries =
    record { device = d; own = own; at = at; named = carries.named; theirs = carries.theirs; passes = carries.passes }

-- nothing has left a network without devices
pub empty_used_up : (net_id slots : ℕ) → HasUsedUp (empty_table net_id slots) []
empty_used_up net_id slots =
    record {
      sound = record { own = λ slot d at. absurd (none-some d at); in_order = λ k d within. absurd (omega arith) };
      covered = λ k d within. absurd (omega arith);
      distinct = tt;
    }

-- An uplink fits only into a session of its own device.
module _ (fits : FitsAreOf) where
  served-changes : (t : TableState) (slot : ℕ) (d : Device) (hearings : List Hearing) (served : Served) (o : DeviceStep) → IsSound t
      → slot_of d.dev_eui.0 t.devices ≡ Some slot → slice_get t.devices slot ≡ Some d → served_at t.net_id slot d hearings served ≡ Ok o
      → Regrants t slot o.device (marks_of o.effects)
  served-changes t slot d hearings (Request bytes) o sound own at is =
      join-changes t slot d hearings bytes o own at (join-ok t.net_id slot d hearings bytes o is)
  served-changes t slot d hearings (Uplink u) o sound own at is =
      uplink-changes t slot d o own at
      (uplink-carries fits t.net_id slot d hearings u o (order_at t slot d sound at) (uplink-ok t.net_id slot d hearings u o is).1)

  carried-changes : (t : TableState) (c : Command) (slot : ℕ) (o : DeviceStep) → IsSound t → place_for t c ≡ Ok slot
      → step1 t.net_id slot (slice_get t.devices slot) c ≡ Ok o → Changes t slot o.device (marks_of o.effects)
  carried-changes t (Provision p) slot o sound place is =
      let next = new_slot-is t (slot_of p.dev_eui.0 t.devices) slot place in
      let empty = slice_get_past t.devices slot (let last = next.1 in omega arith) in
      let carried : step1 t.net_id slot None (Provision p) ≡ Ok o = ap (λ b. step1 t.net_id slot b (Provision p)) (sym empty) ∙ is in
      subst (λ (o : DeviceStep). Changes t slot o.device (marks_of o.effects)) (ok_is (device_step (new_device p) (provisioned_effects slot p)) o carried)
      (inr (record { next = next.1; is_new = next.0; in_order = order_none }, refl))
  carried-changes t (Heard h) slot o sound place is =
      let served = both_ok (received_in h) (sender_slot t) slot place in
      let found = sender-device t served.0 slot sound.own served.2 in
      let carried : step1 t.net_id slot (Some found.0) (Heard h) ≡ Ok o = ap (λ b. step1 t.net_id slot b (Heard h)) (sym found.1) ∙ is in
      let heard = heard-ok t.net_id slot found.0 h o carried in
      inl (served-changes t slot found.0 h.hearings heard.0 o sound found.2 found.1 heard.2)
  carried-changes t (Queue q) slot o sound place is =
      let found = known-device t q.dev_eui.0 slot place in
      let carried : step1 t.net_id slot (Some found.0) (Queue q) ≡ Ok o = ap (λ b. step1 t.net_id slot b (Queue q)) (sym found.1) ∙ is in
      inl (queue-changes t slot found.0 q.dev_eui o found.2 found.1 (queue-ok found.0 q o carried))
  carried-changes t (QueueMac q) slot o sound place is =
      let found = known-device t q.dev_eui.0 slot place in
      let carried : step1 t.net_id slot (Some found.0) (QueueMac q) ≡ Ok o = ap (λ b. step1 t.net_id slot b (QueueMac q)) (sym found.1) ∙ is in
      inl (queue-changes t slot found.0 q.dev_eui o found.2 found.1 (queue_mac-ok found.0 q o carried))

  -- ---- a step of a table

  step-changes : (t : TableState) (c : Command) (s : TableStep) → IsSound t → step t c ≡ Ok s → Changes t s.slot s.after (marks_of s.effects)
  step-changes t c s sound is = carried-changes t c s.slot (device_step s.after s.effects) sound (step-parts t c s is).0 (step-carried t c s is)

  moves-stepped : (t : TableState) (c : Command) → IsSound t → Moves Covers t (with_step t (step t c)) (marks_of (step_effects (step t c)))
  moves-stepped t c sound = at (step t c) refl
    where
      at : (r : Result TableStep Refusal) → step t c ≡ r → Moves Covers t (with_step t r) (marks_of (step_effects r))
      at (Ok s) is = moves_changed t s.slot s.after (marks_of s.effects) (step-changes t c s sound is)
      at (Err e) is = moves_nowhere Covers t

  sound-stepped : (t : TableState) (c : Command) → IsSound t → IsSound (with_step t (step t c))
  sound-stepped t c sound = at (step t c) refl
    where
      at : (r : Result TableStep Refusal) → step t c ≡ r → IsSound (with_step t r)
      at (Ok s) is = sound_changed t s.slot s.after (marks_of s.effects) (step-changes t c s sound is) sound
      at (Err e) is = sound

  -- ---- commands

  moves-folded : (t : TableState) (commands : List Command) → IsSound t → Moves Covers t (fold_of t commands) (marks_of (effects_of t commands))
  moves-folded t [] sound = moves_nowhere Covers t
  moves-folded t (c ∷ commands) sound =
      let then = with_step t (step t c) in
      subst (λ ms. Moves Covers t (fold_of then commands) ms) (sym (marks_of-append (step_effects (step t c)) (effects_of then commands)))
      (moves_then Covers t then (fold_of then commands) (marks_of (step_effects (step t c))) (marks_of (effects_of then commands)) (moves-stepped t c sound)
      (moves-folded then commands (sound-stepped t c sound)))

  sound-folded : (t : TableState) (commands : List Command) → IsSound t → IsSound (fold_of t commands)
  sound-folded t [] sound = sound
  sound-folded t (c ∷ commands) sound = sound-folded (with_step t (step t c)) commands (sound-stepped t c sound)

  pub once_in_commands : (t : TableState) (commands : List Command) → IsSound t → AreOnce (effects_of t commands)
  once_in_commands t commands sound = (moves-folded t commands sound).distinct

  pub used_up_by_commands : (t : TableState) (marks : List Mark) (commands : List Command) → HasUsedUp t marks
      → HasUsedUp (fold_of t commands) (marks ++ marks_of (effects_of t commands))
  used_up_by_commands t marks commands used =
      let moves = moves-folded t commands used.sound in
      let more = marks_of (effects_of t commands) in
      let after = fold_of t commands in
      let before : AllByRecursion (λ m. Covers t m) marks = recursion_from_All (λ m. Covers t m) marks used.covered in
      record {
        sound = sound-folded t commands used.sound;
        covered = All-from_recursion (λ m. Covers after m) (marks ++ more)
            (all_append (λ m. Covers after m) marks more (all_then (λ m. Covers t m) (λ m. Covers after m) marks moves.keeps before) moves.covered);
        distinct = distinct_append (λ m. Covers t m) marks more before moves.fresh used.distinct moves.distinct;
      }

  -- from then on no mark is used up twice
  pub once_from_empty : (net_id slots : ℕ) (commands : List Command) → AreOnce (effects_of (empty_table net_id slots) commands)
  once_from_empty net_id slots commands = (used_up_by_commands (empty_table net_id slots) [] commands (empty_used_up net_id slots)).distinct

-- ---- parts

-- what holds of a list's elements holds of those that remain
all_left : (P : Mark → Type 0) (ys xs : List Mark) → IsSubsequence xs ys → AllByRecursion P ys → AllByRecursion P xs
all_left P [] xs is all = subst (λ (l : List Mark). AllByRecursion P l) (sym is) tt
all_left P (y ∷ ys) xs (inl is) all = all_left P ys xs is all.1
all_left P (y ∷ ys) xs (inr (rest, front, is)) all =
    subst (λ (l : List Mark). AllByRecursion P l) (sym front) (all.0, all_left P ys rest is all.1)

distinct_left : (ys xs : List Mark) → IsSubsequence xs ys → AreDistinct ys → AreDistinct xs
distinct_left [] xs is distinct = subst (λ (l : List Mark). AreDistinct l) (sym is) tt
distinct_left (y ∷ ys) xs (inl is) distinct = distinct_left ys xs is distinct.1
distinct_left (y ∷ ys) xs (inr (rest, front, is)) distinct =
    subst (λ (l : List Mark). AreDistinct l) (sym front) (all_left (λ z. y ≢ z) ys rest is distinct.0, distinct_left ys rest is distinct.1)

-- an effect was dropped, and so was its mark
dropped : (mark : Option Mark) (effect : Effect) (effects : List Effect) (marks : List Mark) → mark_of effect ≡ mark
    → IsSubsequence marks (marks_of effects) → IsSubsequence marks (marks_of (effect ∷ effects))
dropped None effect effects marks is h = rw is h
dropped (Some mark) effect effects marks is h = rw is (inl h)

-- or it remained
left : (mark : Option Mark) (effect : Effect) (rest effects : List Effect) → mark_of effect ≡ mark
    → IsSubsequence (marks_of rest) (marks_of effects) → IsSubsequence (marks_of (effect ∷ rest)) (marks_of (effect ∷ effects))
left None effect rest effects is h = rw is h
left (Some mark) effect rest effects is h = rw is (inr (marks_of rest, refl, h))

marks_left : (effects part : List Effect) → IsSubsequence part effects → IsSubsequence (marks_of part) (marks_of effects)
marks_left [] part is = ap (λ (l : List Effect). marks_of l) is
marks_left (effect ∷ effects) part (inl is) = dropped (mark_of effect) effect effects (marks_of part) refl (marks_left effects part is)
marks_left (effect ∷ effects) part (inr (rest, front, is)) =
    subst (λ (l : List Effect). IsSubsequence (marks_of l) (marks_of (effect ∷ effects))) (sym front)
    (left (mark_of effect) effect rest effects refl (marks_left effects rest is))

behind : (marks part all : List Mark) → IsSubsequence part all → IsSubsequence (marks ++ part) (marks ++ all)
behind [] part all is = is
behind (m ∷ marks) part all is = inr (marks ++ part, refl, behind marks part all is)

pub once_in_a_part : (effects part : List Effect) → IsSubsequence part effects → AreOnce effects → AreOnce part
once_in_a_part effects part is once = distinct_left (marks_of effects) (marks_of part) (marks_left effects part is) once

used_up_in_a_part : (t : TableState) (marks part : List Mark) → IsSubsequence part marks → HasUsedUp t marks → HasUsedUp t part
used_up_in_a_part t marks part is used =
    record {
      sound = used.sound;
      covered = All-from_recursion (λ m. Covers t m) part
          (all_left (λ m. Covers t m) marks part is (recursion_from_All (λ m. Covers t m) marks used.covered));
      distinct = distinct_left marks part is used.distinct;
    }

pub used_up_by_a_part : (t : TableState) (marks : List Mark) (effects part : List Effect) → IsSubsequence part effects
    → HasUsedUp t (marks ++ marks_of effects) → HasUsedUp t (marks ++ marks_of part)
used_up_by_a_part t marks effects part is used =
    used_up_in_a_part t (marks ++ marks_of effects) (marks ++ marks_of part)
    (behind marks (marks_of part) (marks_of effects) (marks_left effects part is)) used
