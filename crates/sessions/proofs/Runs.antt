-- Decisions that continue a table, joined and folded.
use Rattle.std.proofs.Common.{Err, inl, ◌≡◌, ◌+◌, ◌∙◌, ℕ, List, [], ◌∷◌, ◌++◌, length, Result, Ok, suc, sym, ap, subst, refl, arith}
use Rattle.std.proofs.Common.{◌<◌, ◌≤◌, zero, cond, Bool, true, false, nat_lt, Option, Some, None, take, drop, get_or}
use Rattle.std.proofs.lemmas.Bool.{ltb-true, lt-ltb}
use Rattle.std.proofs.lemmas.List.{append_assoc, take_more, drop_more, take-append-drop, length-take-le, take_at, take_all}
use Rattle.std.proofs.lemmas.Option.{none-some, same_Some, slice_get_past, slice_get_within}
use Rattle.std.specs.Option.{MatchOption}
use Rattle.std.specs.Result.{IsErrAnd}
use Rattle.std.proofs.lemmas.Result.{err_from_is_err_and}
use Rattle.std.specs.Prelude.{MatchBool}
use Rattle.devices.specs.declared.device.Device.{Device}
use Rattle.lw_types.specs.declared.refusal.Refusal.TheVariants.{TableFull, DevEuiTaken, OutOfMemory, UnknownDevAddr, UnknownDevEui}
use Rattle.devices.specs.Device.{new_device}
use Rattle.devices.specs.declared.command.Provisioning.{Provisioning}
use Rattle.devices.specs.declared.command.Command.{Command}
use Rattle.devices.specs.declared.command.Command.TheVariants.{Provision, Heard, Queue, QueueMac}
use Rattle.std.specs.List.{slice_get}
use Rattle.lw_types.specs.declared.refusal.Refusal.{Refusal}
use Rattle.lw_types.specs.Answer.{Answers, AnswersWithMemory}
use Rattle.lw_types.specs.declared.identifiers.Eui.{Eui}
use Rattle.uplinks.specs.Chain.{◌>>=◌}
use Rattle.devices.specs.DeviceStep.{DeviceStep, device_step}
use Rattle.devices.specs.Address.{slot_at}
use Rattle.join_server.specs.Request.{dev_eui_of}
use Rattle.sessions.specs.Step.{step1, provisioned_effects}
use Rattle.sessions.specs.Served.{received_in, unknown_sender}
use Rattle.sessions.specs.declared.served.Served.{Served}
use Rattle.sessions.specs.declared.served.Served.TheVariants.{Request, Uplink}
use Rattle.sessions.specs.Index.{HaveOwnSlots}
use Rattle.sessions.proofs.Joins.{both_ok, no_ok}
use Rattle.sessions.proofs.Frames.{heard-name, heard-sender}
use Rattle.sessions.proofs.Queues.{queue-ok, queue_mac-ok}
use Rattle.sessions.proofs.Slots.{place-found, split}
use Rattle.sessions.specs.Table.{TableState, TableStep, TakesNext, CanPlace, CanPut, place_for, known_slot, new_slot, sender_slot, slot_of, used_slot, with_device, step, step_at, with_step, step_effects, fold_of, effects_of}
use Rattle.sessions.specs.Decision.{Continues, AnswersTo, HasPlace, is_frugal, IsDecision, IsStepped, FitsTable, FitAll, AreNumbered, ContinueAll, with_decision, with_decisions, with_before, without_decision, without_decisions, commands_of, effects_in}
use Rattle.sessions.specs.declared.table.decide.Stepped.{Stepped}
use Rattle.sessions.specs.declared.decision.Decision.{Decision}
use Rattle.lw_types.specs.RefusalLemmas.{same_Err}

same_Ok : {A : Type 0} (x y : A) → ◌≡◌ {A = Result A Refusal} (Ok x) (Ok y) → x ≡ y
same_Ok x y h = cc

err_ok : {A : Type 0} (e : Refusal) (x : A) → ◌≡◌ {A = Result A Refusal} (Err e) (Ok x) → ⊥
err_ok e x h = cc

ok-or-err : {A : Type 0} (e : Refusal) (x : A) (P : Type 0) → ◌≡◌ {A = Result A Refusal} (Err e) (Ok x) → P
ok-or-err e x P h = absurd (err_ok e x h)

taken-ok : (x : ℕ) → ◌≡◌ {A = Result ℕ Refusal} (Err DevEuiTaken) (Ok x) → ⊥
taken-ok x h = cc

err-ok : {A : Type 0} (x : A) → ◌≡◌ {A = Result A Refusal} (Err TableFull) (Ok x) → ⊥
err-ok x h = cc

no-ok : {P : Type 0} {A : Type 0} (x : A) → ◌≡◌ {A = Result A Refusal} (Err TableFull) (Ok x) → P
no-ok {P} x h = absurd (err-ok x h)

-- a slot is given only to a new name, and is the next one
new_slot-ok : (t : TableState) (found : Option ℕ) (slot : ℕ) (P : Type 0) → new_slot t found ≡ Ok slot
    → (found ≡ None → slot ≡ length t.devices → slot < t.slots → P) → P
new_slot-ok t (Some taken) slot P h goes = absurd (taken-ok slot h)
new_slot-ok t None slot P h goes =
    split (nat_lt (length t.devices) t.slots)
    (λ room.
    let last = same_Ok (length t.devices) slot (sym (ap (λ b. cond b (Ok (length t.devices)) (Err TableFull)) room) ∙ h) in
    let within = ltb-true (length t.devices) t.slots room in
    goes refl (sym last) (omega arith))
    (λ full. no-ok slot (sym (ap (λ b. cond b (Ok (length t.devices)) (Err TableFull)) full) ∙ h))

MatchOption-of_none : {X : Type 0} (o : Option X) (P : Type 0) (Q : X → Type 0) → o ≡ None → P → MatchOption o P Q
MatchOption-of_none o P Q none p = subst (λ o. MatchOption o P Q) (sym none) p

MatchOption-of_some : {X : Type 0} (o : Option X) (x : X) (P : Type 0) (Q : X → Type 0) → o ≡ Some x → Q x → MatchOption o P Q
MatchOption-of_some o x P Q is q = subst (λ o. MatchOption o P Q) (sym is) q

-- a provisioning's outcome has its device's name
name_provisioned : (net_id slot : ℕ) (p : Provisioning) (o : DeviceStep) → step1 net_id slot None (Provision p) ≡ Ok o → o.device.dev_eui.0 ≡ p.dev_eui.0
name_provisioned net_id slot p o is = ap (λ (o : DeviceStep). o.device.dev_eui.0) (sym (same_Ok (device_step (new_device p) (provisioned_effects slot p)) o is))

-- no device is provisioned to a slot in use
not_provisioned : (net_id slot : ℕ) (d : Device) (p : Provisioning) (o : DeviceStep) (P : Type 0) → step1 net_id slot (Some d) (Provision p) ≡ Ok o → P
not_provisioned net_id slot d p o P is = ok-or-err DevEuiTaken o P is

-- a step leaves a known device its name
keeps_name : (net_id slot : ℕ) (d : Device) (c : Command) (o : DeviceStep) → step1 net_id slot (Some d) c ≡ Ok o → d.dev_eui ≡ o.device.dev_eui
keeps_name net_id slot d (Provision p) o is = not_provisioned net_id slot d p o _ is
keeps_name net_id slot d (Heard h) o is = heard-name net_id slot d h o is
keeps_name net_id slot d (Queue q) o is = (queue-ok d q o is).named
keeps_name net_id slot d (QueueMac q) o is = (queue_mac-ok d q o is).named

-- no frame is carried out if there is no device
unheard_ok : (frame : Result Served Refusal) (o : DeviceStep) (P : Type 0) → (frame >>= λ served. Err (unknown_sender served)) ≡ Ok o → P
unheard_ok (Ok served) o P h = no_ok (unknown_sender served) o P h
unheard_ok (Err e) o P h = no_ok e o P h

-- the slot of a command that was carried out on what is at a slot
place-carried : (t : TableState) (slot : ℕ) (c : Command) (before : Option Device) (o : DeviceStep) → step1 t.net_id slot before c ≡ Ok o
    → before ≡ slice_get t.devices slot → HasPlace t slot o.device before → place_for t c ≡ Ok slot
place-carried t slot (Provision p) (Some d) o is at place = not_provisioned t.net_id slot d p o _ is
place-carried t slot (Provision p) None o is at place =
    let name = name_provisioned t.net_id slot p o is in
    let within : nat_lt (length t.devices) t.slots ≡ true = lt-ltb (length t.devices) t.slots (omega (arith, place.0, place.1)) in
    ap (new_slot t) (ap (λ e. slot_of e t.devices) (sym name) ∙ place.2)
    ∙ (ap (λ b. cond b (Ok (length t.devices)) (Err TableFull)) within ∙ ap Ok (sym place.0))
place-carried t slot (Heard h) None o is at place = unheard_ok (received_in h) o _ is
place-carried t slot (Heard h) (Some d) o is at place = heard-sender t slot d h o is place (sym at)
place-carried t slot (Queue q) None o is at place = no_ok UnknownDevEui o _ is
place-carried t slot (Queue q) (Some d) o is at place = ap known_slot (ap (λ e. slot_of e t.devices) (queue-ok d q o is).asked ∙ place)
place-carried t slot (QueueMac q) None o is at place = no_ok UnknownDevEui o _ is
place-carried t slot (QueueMac q) (Some d) o is at place = ap known_slot (ap (λ e. slot_of e t.devices) (queue_mac-ok d q o is).asked ∙ place)

-- a decision that was made of a table is the step of its command there
step-fits : (t : TableState) (d : Decision) → FitsTable t d
    → step t d.command ≡ Ok (step_at d.slot (slice_get t.devices d.slot) (device_step d.after d.effects))
step-fits t d fits =
    let carried : step1 t.net_id d.slot d.before d.command ≡ Ok (device_step d.after d.effects) = ap (λ n. step1 n d.slot d.before d.command) (sym fits.net) ∙ d.is_step in
    let place = place-carried t d.slot d.command d.before (device_step d.after d.effects) carried fits.before fits.place in
    ap (λ (p : Result ℕ Refusal). p >>= λ slot. step1 t.net_id slot (slice_get t.devices slot) d.command >>= λ o. Ok (step_at slot (slice_get t.devices slot) o)) place
    ∙ ap (λ p. p >>= λ o. Ok (step_at d.slot (slice_get t.devices d.slot) o))
    (ap (λ b. step1 t.net_id d.slot b d.command) (sym fits.before) ∙ carried)

pub folded-fit : (t : TableState) (ds : List Decision) → FitAll t ds → fold_of t (commands_of ds) ≡ with_decisions t ds
folded-fit t [] fit = refl
folded-fit t (d ∷ ds) fit =
    ap (λ s. fold_of (with_step t s) (commands_of ds)) (step-fits t d fit.0) ∙ folded-fit (with_decision t d) ds fit.1

pub effects_of-fit : (t : TableState) (ds : List Decision) → FitAll t ds → effects_of t (commands_of ds) ≡ effects_in ds
effects_of-fit t [] fit = refl
effects_of-fit t (d ∷ ds) fit =
    ap (λ s. step_effects s ++ effects_of (with_step t s) (commands_of ds)) (step-fits t d fit.0)
    ∙ ap (λ es. d.effects ++ es) (effects_of-fit (with_decision t d) ds fit.1)

pub folded-append : (t : TableState) (first second : List Command) → fold_of t (first ++ second) ≡ fold_of (fold_of t first) second
folded-append t [] second = refl
folded-append t (command ∷ first) second = folded-append (with_step t (step t command)) first second

pub effects_of-append : (t : TableState) (first second : List Command)
    → effects_of t (first ++ second) ≡ effects_of t first ++ effects_of (fold_of t first) second
effects_of-append t [] second = refl
effects_of-append t (command ∷ first) second =
    let s = step t command in
    ap (λ es. step_effects s ++ es) (effects_of-append (with_step t s) first second)
    ∙ sym (append_assoc (step_effects s) (effects_of (with_step t s) first) (effects_of (fold_of (with_step t s) first) second))

pub applied_all-append : (t : TableState) (first second : List Decision) → with_decisions t (first ++ second) ≡ with_decisions (with_decisions t first) second
applied_all-append t [] second = refl
applied_all-append t (d ∷ first) second = applied_all-append (with_decision t d) first second

pub FitAll-append : (t : TableState) (first second : List Decision) → FitAll t first → FitAll (with_decisions t first) second → FitAll t (first ++ second)
FitAll-append t [] second one two = two
FitAll-append t (d ∷ first) second one two = (one.0, FitAll-append (with_decision t d) first second one.1 two)

pub FitAll-split : (t : TableState) (first second : List Decision) → FitAll t (first ++ second) → FitAll t first × FitAll (with_decisions t first) second
FitAll-split t [] second both = (tt, both)
FitAll-split t (d ∷ first) second both = let rest = FitAll-split (with_decision t d) first second both.1 in ((both.0, rest.0), rest.1)

pub AreNumbered-append : (seq : ℕ) (first second : List Decision) → AreNumbered seq first → AreNumbered (seq + length first) second → AreNumbered seq (first ++ second)
AreNumbered-append seq [] second one two = let e : seq + 0 ≡ seq = omega arith in subst (λ n. AreNumbered n second) e two
AreNumbered-append seq (d ∷ first) second one two =
    let e : seq + suc (length first) ≡ (seq + 1) + length first = omega arith in
    (one.0, AreNumbered-append (seq + 1) first second one.1 (subst (λ n. AreNumbered n second) e two))

pub AreNumbered-split : (seq : ℕ) (first second : List Decision) → AreNumbered seq (first ++ second) → AreNumbered seq first × AreNumbered (seq + length first) second
AreNumbered-split seq [] second both = let e : seq ≡ seq + 0 = omega arith in (tt, subst (λ n. AreNumbered n second) e both)
AreNumbered-split seq (d ∷ first) second both =
    let rest = AreNumbered-split (seq + 1) first second both.1 in
    let e : (seq + 1) + length first ≡ seq + suc (length first) = omega arith in
    ((both.0, rest.0), subst (λ n. AreNumbered n second) e rest.1)

pub ContinueAll-append : (t : TableState) (seq : ℕ) (first second : List Decision) → ContinueAll t seq first
    → ContinueAll (with_decisions t first) (seq + length first) second → ContinueAll t seq (first ++ second)
ContinueAll-append t seq first second one two =
    record { fit = FitAll-append t first second one.fit two.fit; numbered = AreNumbered-append seq first second one.numbered two.numbered }

pub ContinueAll-split : (t : TableState) (seq : ℕ) (first second : List Decision) → ContinueAll t seq (first ++ second)
    → ContinueAll t seq first × ContinueAll (with_decisions t first) (seq + length first) second
ContinueAll-split t seq first second both =
    let fit = FitAll-split t first second both.fit in
    let numbered = AreNumbered-split seq first second both.numbered in
    (record { fit = fit.0; numbered = numbered.0 }, record { fit = fit.1; numbered = numbered.1 })

-- a decision that was made of a table brings a device to the next slot, or changes the record of a
-- known one
by_place : (t : TableState) (d : Decision) → FitsTable t d → (P : Type 0)
    → (slice_get t.devices d.slot ≡ None → TakesNext t d.slot d.after → P)
    → ((device : Device) → slice_get t.devices d.slot ≡ Some device → device.dev_eui ≡ d.after.dev_eui → slot_of device.dev_eui.0 t.devices ≡ Some d.slot → P) → P
by_place t d fits P next used = by_before d.before (sym fits.before) fits.place d.is_step
  where
    by_before : (before : Option Device) → slice_get t.devices d.slot ≡ before → HasPlace t d.slot d.after before
        → step1 d.net_id d.slot before d.command ≡ Ok (device_step d.after d.effects) → P
    by_before None found place is = next found place
    by_before (Some device) found place is = used device found (keeps_name d.net_id d.slot device d.command (device_step d.after d.effects) is) place

-- the record of a decision that was made of a table has its place there
pub CanPlace-fits : (t : TableState) (d : Decision) → FitsTable t d → CanPlace t d.slot d.after
CanPlace-fits t d fits =
    by_place t d fits (CanPlace t d.slot d.after)
    (λ empty next. MatchOption-of_none (slice_get t.devices d.slot) _ _ empty next)
    (λ device found same own. MatchOption-of_some (slice_get t.devices d.slot) device _ _ found same)

-- and may be put there
pub CanPut-fits : (t : TableState) (d : Decision) → FitsTable t d → CanPut t d.slot d.after
CanPut-fits t d fits =
    by_place t d fits (CanPut t d.slot d.after)
    (λ empty next. (omega (arith, next.0), fits.within, MatchOption-of_none (slot_of d.after.dev_eui.0 t.devices) _ _ next.2 tt))
    (λ device found same own.
    let within = slice_get_within t.devices d.slot device found in
    let kept : slot_of d.after.dev_eui.0 t.devices ≡ Some d.slot = ap (λ (e : Eui). slot_of e.0 t.devices) (sym same) ∙ own in
    (omega arith, fits.within, MatchOption-of_some (slot_of d.after.dev_eui.0 t.devices) d.slot _ _ kept refl))

-- it can be taken back
taken_back-applied : (t : TableState) (d : Decision) → FitsTable t d → without_decision (with_decision t d) d ≡ t
taken_back-applied t d fits =
    by_place t d fits (without_decision (with_decision t d) d ≡ t)
    (λ empty next.
    ap (with_before (with_decision t d) d.slot) (fits.before ∙ empty)
    ∙ ap (λ ds. record t { devices = ds }) (take_at_end t.devices d.slot d.after next.0))
    (λ device found same own.
    ap (with_before (with_decision t d) d.slot) (fits.before ∙ found)
    ∙ ap (λ ds. record t { devices = ds }) (put_back t.devices d.slot d.after device found))
  where
    take_at_end : (ds : List Device) (slot : ℕ) (x : Device) → slot ≡ length ds → take slot (with_device slot x ds) ≡ ds
    take_at_end ds slot x last =
        let all : take slot ds ≡ ds = take_all slot ds (omega arith) in
        ap (λ front. take slot (front ++ x ∷ drop (suc slot) ds)) all ∙ take_at ds (x ∷ drop (suc slot) ds) slot (sym last)

    put_back : (ds : List Device) (slot : ℕ) (x old : Device) → slice_get ds slot ≡ Some old → with_device slot old (with_device slot x ds) ≡ ds
    put_back [] slot x old found = absurd (none-some old found)
    put_back (d ∷ ds) zero x old found = ap (λ y. y ∷ ds) (sym (same_Some d old found))
    put_back (d ∷ ds) (suc slot) x old found = ap (λ ys. d ∷ ys) (put_back ds slot x old found)

pub taken_back_all-applied_all : (t : TableState) (ds : List Decision) → FitAll t ds → without_decisions (with_decisions t ds) ds ≡ t
taken_back_all-applied_all t [] fit = refl
taken_back_all-applied_all t (d ∷ ds) fit = ap (λ s. without_decision s d) (taken_back_all-applied_all (with_decision t d) ds fit.1) ∙ taken_back-applied t d fit.0

pub FitAll-next : (t : TableState) (n : ℕ) (d : Decision) (ds : List Decision) → n < length ds → d ≡ get_or ds n d
    → FitAll t ds → FitsTable (with_decisions t (take n ds)) d
FitAll-next t n d ds within item fit =
    let at : drop n ds ≡ d ∷ drop (n + 1) ds = drop_more ds n d within ∙ ap (λ x. x ∷ drop (n + 1) ds) (sym item) in
    (subst (FitAll (with_decisions t (take n ds))) at (FitAll-split t (take n ds) (drop n ds) (subst (FitAll t) (sym (take-append-drop n ds)) fit)).1).0

pub applied_all-next : (t : TableState) (n : ℕ) (d : Decision) (ds : List Decision) → n < length ds → d ≡ get_or ds n d
    → with_decisions t (take (n + 1) ds) ≡ with_decision (with_decisions t (take n ds)) d
applied_all-next t n d ds within item =
    ap (with_decisions t) (take_more ds n d within ∙ ap (λ x. take n ds ++ x ∷ []) (sym item)) ∙ applied_all-append t (take n ds) (d ∷ [])

-- an answer that isn't a refusal is what is wanted
pub AnswersTo-ok : {A B : Type 0} (c : Command) (wanted : Result A Refusal) (Is : A → B → Type 0) (found : B) → AnswersTo c wanted Is (Ok found)
    → (x : A) × (wanted ≡ Ok x) × Is x found
AnswersTo-ok {A} {B} c wanted Is found answers = by_frugal (is_frugal c wanted) wanted answers
  where
    by_frugal : (frugal : Bool) (wanted : Result A Refusal) → MatchBool frugal (Answers wanted Is (Ok found)) (AnswersWithMemory wanted Is (Ok found))
        → (x : A) × (wanted ≡ Ok x) × Is x found
    by_frugal true (Ok x) is = (x, refl, is)
    by_frugal true (Err e) refused = ok-or-err e found _ (sym refused)
    by_frugal false (Ok x) is = (x, refl, is)
    by_frugal false (Err e) none = absurd none

pub AnswersTo-is : {A B : Type 0} (c : Command) (wanted : Result A Refusal) (Is : A → B → Type 0) (x : A) (found : B) → wanted ≡ Ok x → Is x found
    → AnswersTo c wanted Is (Ok found)
AnswersTo-is {A} {B} c wanted Is x found ok is = subst (λ (w : Result A Refusal). AnswersTo c w Is (Ok found)) (sym ok) (by_frugal (is_frugal c (Ok x)))
  where
    by_frugal : (frugal : Bool) → MatchBool frugal (Answers (Ok x) Is (Ok found)) (AnswersWithMemory (Ok x) Is (Ok found))
    by_frugal true = is
    by_frugal false = is

-- a refusal that is passed on is still the answer
pub AnswersTo-handed : {A B C : Type 0} (c : Command) (wanted : Result A Refusal) (Is : A → B → Type 0) (Is' : A → C → Type 0) (e : Refusal)
    → AnswersTo c wanted Is (Err e) → AnswersTo c wanted Is' (Err e)
AnswersTo-handed {A} {B} {C} c wanted Is Is' e answers = by_frugal (is_frugal c wanted) wanted answers
  where
    by_frugal : (frugal : Bool) (wanted : Result A Refusal) → MatchBool frugal (Answers wanted Is (Err e)) (AnswersWithMemory wanted Is (Err e))
        → MatchBool frugal (Answers {B = C} wanted Is' (Err e)) (AnswersWithMemory {B = C} wanted Is' (Err e))
    by_frugal true (Ok x) h = h
    by_frugal true (Err e') h = same_Err e e' h
    by_frugal false wanted h = h

pub AnswersTo-err : {A B C : Type 0} (c : Command) (wanted : Result A Refusal) (Is : A → B → Type 0) (Is' : A → C → Type 0) (e : Refusal) (result : Result C Refusal)
    → IsErrAnd result (λ x. x ≡ e) → AnswersTo c wanted Is (Err e) → AnswersTo c wanted Is' result
AnswersTo-err {A} {B} {C} c wanted Is Is' e result handed answers =
    let r = err_from_is_err_and result handed in
    subst (AnswersTo c wanted Is') (sym (r.1 ∙ ap Err r.2)) (AnswersTo-handed c wanted Is Is' e answers)

-- and so is OutOfMemory, if something is wanted
pub AnswersTo-memory : {A B : Type 0} (c : Command) (wanted : Result A Refusal) (Is : A → B → Type 0) (x : A) (e : Refusal) (result : Result B Refusal) → wanted ≡ Ok x
    → IsErrAnd result (λ y. y ≡ e) → e ≡ OutOfMemory → AnswersTo c wanted Is result
AnswersTo-memory {A} {B} c wanted Is x e result ok handed none =
    let r = err_from_is_err_and result handed in
    subst (AnswersTo c wanted Is) (sym (r.1 ∙ ap Err r.2)) (subst (λ (w : Result A Refusal). AnswersTo c w Is (Err e)) (sym ok) (by_frugal (is_frugal c (Ok x))))
  where
    by_frugal : (frugal : Bool) → MatchBool frugal (Answers (Ok x) Is (Err e)) (AnswersWithMemory (Ok x) Is (Err e))
    by_frugal true = none
    by_frugal false = inl none

-- a step of a table is at its command's slot, on the record there
pub step-parts : (t : TableState) (c : Command) (s : TableStep) → step t c ≡ Ok s → (place_for t c ≡ Ok s.slot) × (s.before ≡ slice_get t.devices s.slot)
step-parts t c s h = at (place_for t c) refl h
  where
    done : (slot : ℕ) (r : Result DeviceStep Refusal) → (r >>= λ o. Ok (step_at slot (slice_get t.devices slot) o)) ≡ Ok s → place_for t c ≡ Ok slot
        → (place_for t c ≡ Ok s.slot) × (s.before ≡ slice_get t.devices s.slot)
    done slot (Ok o) e is =
        let same = same_Ok (step_at slot (slice_get t.devices slot) o) s e in
        (is ∙ ap (λ (x : TableStep). Ok x.slot) same, sym (ap (λ (x : TableStep). x.before) same) ∙ ap (λ (x : TableStep). slice_get t.devices x.slot) same)
    done slot (Err e') e is = ok-or-err e' s _ e

    at : (p : Result ℕ Refusal) → place_for t c ≡ p → (p >>= λ slot. step1 t.net_id slot (slice_get t.devices slot) c >>= λ o. Ok (step_at slot (slice_get t.devices slot) o)) ≡ Ok s
        → (place_for t c ≡ Ok s.slot) × (s.before ≡ slice_get t.devices s.slot)
    at (Ok slot) is e = done slot (step1 t.net_id slot (slice_get t.devices slot) c) e is
    at (Err e') is e = ok-or-err e' s _ e

-- and is what the command does there
pub step-carried : (t : TableState) (c : Command) (s : TableStep) → step t c ≡ Ok s
    → step1 t.net_id s.slot (slice_get t.devices s.slot) c ≡ Ok (device_step s.after s.effects)
step-carried t c s is =
    let at = both_ok (place_for t c) (λ slot. step1 t.net_id slot (slice_get t.devices slot) c >>= λ o. Ok (step_at slot (slice_get t.devices slot) o)) s is in
    let done =
    both_ok (step1 t.net_id at.0 (slice_get t.devices at.0) c) (λ o. Ok (step_at at.0 (slice_get t.devices at.0) o)) s at.2 in
    let same = same_Ok (step_at at.0 (slice_get t.devices at.0) done.0) s done.2 in
    let here : at.0 ≡ s.slot = ap (λ (x : TableStep). x.slot) same in
    ap (λ slot. step1 t.net_id slot (slice_get t.devices slot) c) (sym here)
    ∙ (done.1 ∙ ap (λ (x : TableStep). Ok (device_step x.after x.effects)) same)

-- so it is a decision
pub IsStepped-step : (t : TableState) (c : Command) (s : TableStep) (net_id : ℕ) (before : Option Device) (found : Stepped) → step t c ≡ Ok s → IsStepped s found
    → net_id ≡ t.net_id → before ≡ slice_get t.devices found.slot → step1 net_id found.slot before c ≡ Ok (device_step found.after found.effects)
IsStepped-step t c s net_id before found is made net at =
    ap (λ n. step1 n found.slot before c) net
    ∙ (ap (λ b. step1 t.net_id found.slot b c) at
    ∙ (ap (λ slot. step1 t.net_id slot (slice_get t.devices slot) c) made.slot
    ∙ (step-carried t c s is
    ∙ (ap (λ x. Ok (device_step x s.effects)) (sym made.after) ∙ ap (λ es. Ok (device_step found.after es)) (sym made.effects)))))

pub IsStepped-before : (t : TableState) (c : Command) (s : TableStep) (before : Option Device) (found : Stepped) → step t c ≡ Ok s → IsStepped s found
    → before ≡ slice_get t.devices found.slot → before ≡ s.before
IsStepped-before t c s before found is made at = at ∙ (ap (slice_get t.devices) made.slot ∙ sym (step-parts t c s is).1)

known-ok : (found : Option ℕ) (slot : ℕ) → known_slot found ≡ Ok slot → found ≡ Some slot
known-ok (Some own) slot is = ap Some (same_Ok own slot is)
known-ok None slot is = no_ok UnknownDevEui slot _ is

-- the device with a known name
pub known-device : (t : TableState) (dev_eui slot : ℕ) → known_slot (slot_of dev_eui t.devices) ≡ Ok slot
    → (d : Device) × (slice_get t.devices slot ≡ Some d) × (slot_of d.dev_eui.0 t.devices ≡ Some slot)
known-device t dev_eui slot known =
    let found = known-ok (slot_of dev_eui t.devices) slot known in
    let f = place-found (λ (d : Device). d.dev_eui.0) dev_eui 0 t.devices slot found in
    let here : slot ≡ f.0 = (let h = f.2 in omega arith) in
    (f.1, ap (slice_get t.devices) here ∙ f.3, ap (λ e. slot_of e t.devices) f.4 ∙ found)

-- the device to which an address leads
used-device : (t : TableState) (found slot : ℕ) → HaveOwnSlots t.devices → used_slot found (slice_get t.devices found) ≡ Ok slot
    → (d : Device) × (slice_get t.devices slot ≡ Some d) × (slot_of d.dev_eui.0 t.devices ≡ Some slot)
used-device t found slot own used = at (slice_get t.devices found) refl used
  where
    at : (o : Option Device) → slice_get t.devices found ≡ o → used_slot found o ≡ Ok slot
        → (d : Device) × (slice_get t.devices slot ≡ Some d) × (slot_of d.dev_eui.0 t.devices ≡ Some slot)
    at (Some d) is same = let there = ap (slice_get t.devices) (sym (same_Ok found slot same)) ∙ is in (d, there, own slot d there)
    at None is none = no_ok UnknownDevAddr slot _ none

-- the device that sent a frame
pub sender-device : (t : TableState) (served : Served) (slot : ℕ) → HaveOwnSlots t.devices → sender_slot t served ≡ Ok slot
    → (d : Device) × (slice_get t.devices slot ≡ Some d) × (slot_of d.dev_eui.0 t.devices ≡ Some slot)
sender-device t (Request bytes) slot own sender = known-device t (dev_eui_of bytes) slot sender
sender-device t (Uplink u) slot own sender = used-device t (slot_at u.frame.dev_addr.0) slot own sender

-- a known device is in its place
device-place : (t : TableState) (slot : ℕ) (after d : Device) → length t.devices ≤ t.slots → slice_get t.devices slot ≡ Some d
    → slot_of d.dev_eui.0 t.devices ≡ Some slot → (slot < t.slots) × HasPlace t slot after (slice_get t.devices slot)
device-place t slot after d few at own =
    let within = slice_get_within t.devices slot d at in
    (omega arith, MatchOption-of_some (slice_get t.devices slot) d _ _ at own)

known-place : (t : TableState) (dev_eui slot : ℕ) (after : Device) → length t.devices ≤ t.slots → known_slot (slot_of dev_eui t.devices) ≡ Ok slot
    → (slot < t.slots) × HasPlace t slot after (slice_get t.devices slot)
known-place t dev_eui slot after few known =
    let found = known-device t dev_eui slot known in
    device-place t slot after found.0 few found.1 found.2

-- a record that a step leaves has its place
pub place-stepped : (t : TableState) (c : Command) (slot : ℕ) (o : DeviceStep) → length t.devices ≤ t.slots → HaveOwnSlots t.devices → place_for t c ≡ Ok slot
    → step1 t.net_id slot (slice_get t.devices slot) c ≡ Ok o → (slot < t.slots) × HasPlace t slot o.device (slice_get t.devices slot)
place-stepped t (Provision p) slot o few own place is =
    new_slot-ok t (slot_of p.dev_eui.0 t.devices) slot ((slot < t.slots) × HasPlace t slot o.device (slice_get t.devices slot)) place (λ new last room.
    let past : length t.devices ≤ slot = omega arith in
    let empty = slice_get_past t.devices slot past in
    let name = name_provisioned t.net_id slot p o (ap (λ b. step1 t.net_id slot b (Provision p)) (sym empty) ∙ is) in
    (room, MatchOption-of_none (slice_get t.devices slot) _ _ empty (last, room, ap (λ e. slot_of e t.devices) name ∙ new)))
place-stepped t (Heard h) slot o few own place is =
    let served = both_ok (received_in h) (sender_slot t) slot place in
    let found = sender-device t served.0 slot own served.2 in
    device-place t slot o.device found.0 few found.1 found.2
place-stepped t (Queue q) slot o few own place is = known-place t q.dev_eui.0 slot o.device few place
place-stepped t (QueueMac q) slot o few own place is = known-place t q.dev_eui.0 slot o.device few place

-- a decision that is a step of a table was made of it
pub Fits-decision : (t : TableState) (seq : ℕ) (c : Command) (s : TableStep) (d : Decision) → length t.devices ≤ t.slots → HaveOwnSlots t.devices → step t c ≡ Ok s
    → IsDecision t seq c s d → FitsTable t d
Fits-decision t seq c s d few own is made =
    let parts = step-parts t c s is in
    let at : slice_get t.devices s.slot ≡ slice_get t.devices d.slot = ap (slice_get t.devices) (sym made.slot) in
    let before = made.before ∙ (parts.1 ∙ at) in
    let placed_at : place_for t c ≡ Ok d.slot = parts.0 ∙ ap Ok (sym made.slot) in
    let carried : step1 t.net_id d.slot (slice_get t.devices d.slot) c ≡ Ok (device_step d.after d.effects) =
    ap (λ n. step1 n d.slot (slice_get t.devices d.slot) c) (sym made.net)
    ∙ (ap (λ b. step1 d.net_id d.slot b c) (sym before) ∙ (ap (step1 d.net_id d.slot d.before) (sym made.command) ∙ d.is_step)) in
    let place = place-stepped t c d.slot (device_step d.after d.effects) few own placed_at carried in
    record {
      net = made.net;
      before = before;
      within = place.0;
      place = subst (HasPlace t d.slot d.after) (sym before) place.1;
    }

-- a decision after those that continue a table continues what they leave
pub ContinueAll-next : (t : TableState) (seq n : ℕ) (d : Decision) (ds : List Decision) → n < length ds → d ≡ get_or ds n d
    → ContinueAll t seq ds → Continues (with_decisions t (take n ds)) (seq + n) d
ContinueAll-next t seq n d ds within item all =
    let at : drop n ds ≡ d ∷ drop (n + 1) ds = drop_more ds n d within ∙ ap (λ x. x ∷ drop (n + 1) ds) (sym item) in
    let parts = ContinueAll-split t seq (take n ds) (drop n ds) (subst (ContinueAll t seq) (sym (take-append-drop n ds)) all) in
    let long : length (take n ds) ≡ n = length-take-le n ds (omega arith) in
    let left = with_decisions t (take n ds) in
    let rest : ContinueAll left (seq + n) (d ∷ drop (n + 1) ds) =
    subst (λ k. ContinueAll left (seq + k) (d ∷ drop (n + 1) ds)) long (subst (ContinueAll left (seq + length (take n ds))) at parts.1) in
    record { fits = rest.fit.0; number = rest.numbered.0 }

-- one decision more
pub ContinueAll-more : (t : TableState) (seq n : ℕ) (d : Decision) (ds : List Decision) → n < length ds → d ≡ get_or ds n d
    → ContinueAll t seq (take n ds) → Continues (with_decisions t (take n ds)) (seq + n) d → ContinueAll t seq (take (n + 1) ds)
ContinueAll-more t seq n d ds within item front next =
    let long : length (take n ds) ≡ n = length-take-le n ds (omega arith) in
    let one : ContinueAll (with_decisions t (take n ds)) (seq + n) (d ∷ []) = record { fit = (next.fits, tt); numbered = (next.number, tt) } in
    let placed_so = ContinueAll-append t seq (take n ds) (d ∷ []) front (subst (λ k. ContinueAll (with_decisions t (take n ds)) (seq + k) (d ∷ [])) (sym long) one) in
    subst (ContinueAll t seq) (sym (take_more ds n d within ∙ ap (λ x. take n ds ++ x ∷ []) (sym item))) placed_so
