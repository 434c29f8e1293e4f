-- Sessions on record count as granted.
use Rattle.std.proofs.Common.{◌≡◌, ◌≤◌, ◌<◌, ◌+◌, ◌∙◌, ℕ, List, [], ◌∷◌, map, set, drop, zero, suc, Option, Some, None, cond, nat_eq, nat_lt, max, slice_get, take, get_or, length, ◌++◌, sym, ap, subst, refl, arith}
use Rattle.std.specs.Prelude.{All, option_map, unwrap_or}
use Rattle.std.specs.List.{position_from}
use Rattle.std.proofs.Math.Nat.{le-max_left, le-max_right, max-eq_left, max-eq_right, max-le}
use Rattle.std.proofs.lemmas.Bool.{eqb-true, eq-eqb, ltb-true, ltb-false}
use Rattle.std.proofs.lemmas.List.{take_more}
use Rattle.std.proofs.lemmas.Option.{none-some, same_Some, slice_get-map}
use Rattle.devices.specs.Activation.{Grants, grants_of}
use Rattle.devices.specs.Restored.{raised_device, raised_grants}
use Rattle.devices.specs.declared.device.Device.{Device}
use Rattle.devices.specs.declared.mark.Mark.{Mark}
use Rattle.devices.specs.declared.mark.SessionName.{SessionName}
use Rattle.sessions.specs.Index.{HaveOwnSlots}
use Rattle.sessions.specs.Marks.{session_in}
use Rattle.sessions.specs.Restored.{highest, raised_by, raised_by_all, raised_table, IsSince, IsSinceRecord}
use Rattle.sessions.specs.Table.{TableState, slot_of}
use Rattle.sessions.proofs.Restoring.{own_slots, same_place}
use Rattle.sessions.proofs.Slots.{own-last, place-found, split}

abbrev name : Device → ℕ
name d = d.dev_eui.0

-- where the first device of this name is, in a list that begins at slot i
abbrev place : ℕ → ℕ → List Device → Option ℕ
place e i devices = position_from (λ d. nat_eq d.dev_eui.0 e) i devices

-- a device keeps its name
pub keeps : (s : SessionName) (d : Device) → (raised_by s d).dev_eui.0 ≡ d.dev_eui.0
keeps s d =
    split (nat_eq d.dev_eui.0 s.dev_eui.0)
    (λ here. ap (λ b. (cond b (raised_device s.join_nonce d) d).dev_eui.0) here)
    (λ there. ap (λ b. (cond b (raised_device s.join_nonce d) d).dev_eui.0) there)

-- the device that the session names is raised
pub named : (s : SessionName) (d : Device) → d.dev_eui.0 ≡ s.dev_eui.0 → raised_by s d ≡ raised_device s.join_nonce d
named s d same = ap (λ b. cond b (raised_device s.join_nonce d) d) (eq-eqb d.dev_eui.0 s.dev_eui.0 same)

-- ---- one device of a table

-- if no device has this name, nothing is raised
pub unraised : (s : SessionName) (i : ℕ) (devices : List Device) → place s.dev_eui.0 i devices ≡ None → map (raised_by s) devices ≡ devices
unraised s i [] none = refl
unraised s i (d ∷ devices) none =
    split (nat_eq d.dev_eui.0 s.dev_eui.0)
    (λ here. absurd (none-some i (sym none ∙ ap (λ b. cond b (Some i) (place s.dev_eui.0 (i + 1) devices)) here)))
    (λ there.
    let rest : place s.dev_eui.0 (i + 1) devices ≡ None = sym (ap (λ b. cond b (Some i) (place s.dev_eui.0 (i + 1) devices)) there) ∙ none in
    ap (λ b. cond b (raised_device s.join_nonce d) d ∷ map (raised_by s) devices) there ∙ ap (λ l. d ∷ l) (unraised s (i + 1) devices rest))

-- the first device of this name is raised, and there is no other
pub one_raised : (s : SessionName) (n i j : ℕ) (devices : List Device) (d : Device) → slice_get devices n ≡ Some d → d.dev_eui.0 ≡ s.dev_eui.0
    → place s.dev_eui.0 i devices ≡ Some (i + n) → place s.dev_eui.0 j (drop (suc n) devices) ≡ None
    → set devices n (raised_device s.join_nonce d) ≡ map (raised_by s) devices
one_raised s n i j [] d at same first last = absurd (none-some d at)
one_raised s zero i j (x ∷ devices) d at same first last =
    let this : x ≡ d = same_Some x d at in
    ap (λ y. y ∷ devices) (sym (named s d same) ∙ ap (raised_by s) (sym this))
    ∙ ap (λ l. raised_by s x ∷ l) (sym (unraised s j devices last))
one_raised s (suc n) i j (x ∷ devices) d at same first last =
    split (nat_eq x.dev_eui.0 s.dev_eui.0)
    (λ here.
    let no : i ≡ i + suc n = same_Some i (i + suc n) (sym (ap (λ b. cond b (Some i) (place s.dev_eui.0 (i + 1) devices)) here) ∙ first) in
    absurd (omega arith))
    (λ there.
    let later : i + suc n ≡ (i + 1) + n = omega arith in
    let rest : place s.dev_eui.0 (i + 1) devices ≡ Some ((i + 1) + n) = sym (ap (λ b. cond b (Some i) (place s.dev_eui.0 (i + 1) devices)) there) ∙ (first ∙ ap Some later) in
    ap (λ l. x ∷ l) (one_raised s n (i + 1) j devices d at same rest last)
    ∙ sym (ap (λ b. cond b (raised_device s.join_nonce x) x ∷ map (raised_by s) devices) there))

-- the device at its own slot is raised
pub raised_at : (s : SessionName) (n : ℕ) (devices : List Device) (d : Device) → HaveOwnSlots devices → slice_get devices n ≡ Some d
    → slot_of s.dev_eui.0 devices ≡ Some n → d.dev_eui.0 ≡ s.dev_eui.0 → set devices n (raised_device s.join_nonce d) ≡ map (raised_by s) devices
raised_at s n devices d own at found same =
    let last : place s.dev_eui.0 0 (drop (suc n) devices) ≡ None = subst (λ e. place e 0 (drop (suc n) devices) ≡ None) same (own-last name n d devices 0 own at) in
    let here : slot_of s.dev_eui.0 devices ≡ Some (0 + n) = found ∙ ap Some (let e : n ≡ 0 + n = omega arith in e) in
    one_raised s n 0 0 devices d at same here last

-- ---- what a record represents

-- the last granted JoinNonce is the higher one of the two
raised_nonce : (to : ℕ) (g : Grants) → unwrap_or (raised_grants to g).granted 0 ≡ max (unwrap_or g.granted 0) to
raised_nonce to g =
    split (nat_lt (unwrap_or g.granted 0) to)
    (λ below.
    let less : unwrap_or g.granted 0 < to = ltb-true (unwrap_or g.granted 0) to below in
    ap (λ b. unwrap_or (cond b (grants_of (Some to) g.current g.pending) g).granted 0) below ∙ sym (max-eq_right (omega (arith, less))))
    (λ above.
    let more : to ≤ unwrap_or g.granted 0 = ltb-false (unwrap_or g.granted 0) to above in
    ap (λ b. unwrap_or (cond b (grants_of (Some to) g.current g.pending) g).granted 0) above ∙ sym (max-eq_left more))

-- a device's last granted JoinNonce
abbrev granted : Device → ℕ
granted d = unwrap_or d.activation.granted 0

-- no last granted JoinNonce is lowered
grows : (s : SessionName) (d : Device) → granted d ≤ granted (raised_by s d)
grows s d =
    split (nat_eq d.dev_eui.0 s.dev_eui.0)
    (λ here.
    let higher : granted (raised_by s d) ≡ max (granted d) s.join_nonce =
    ap (λ b. granted (cond b (raised_device s.join_nonce d) d)) here ∙ raised_nonce s.join_nonce d.activation in
    subst (λ n. granted d ≤ n) (sym higher) (le-max_left (granted d) s.join_nonce))
    (λ there. subst (λ n. granted d ≤ n) (sym (ap (λ b. granted (cond b (raised_device s.join_nonce d) d)) there)) (omega arith))

-- the last granted JoinNonce of the device that the session names is at least the session's
reaches : (s : SessionName) (d : Device) (e : ℕ) → d.dev_eui.0 ≡ e → cond (nat_eq s.dev_eui.0 e) s.join_nonce 0 ≤ granted (raised_by s d)
reaches s d e is =
    split (nat_eq s.dev_eui.0 e)
    (λ here.
    let same : d.dev_eui.0 ≡ s.dev_eui.0 = is ∙ sym (eqb-true s.dev_eui.0 e here) in
    let higher : granted (raised_by s d) ≡ max (granted d) s.join_nonce = ap granted (named s d same) ∙ raised_nonce s.join_nonce d.activation in
    subst (λ n. n ≤ granted (raised_by s d)) (sym (ap (λ b. cond b s.join_nonce 0) here))
    (subst (λ n. s.join_nonce ≤ n) (sym higher) (le-max_right (granted d) s.join_nonce)))
    (λ there. subst (λ n. n ≤ granted (raised_by s d)) (sym (ap (λ b. cond b s.join_nonce 0) there)) (omega arith))

still_within : (nonce since g x rest more : ℕ) → nonce ≤ max g (max x rest) + since → g ≤ more → x ≤ more → nonce ≤ max more rest + since
still_within nonce since g x rest more within grown reached =
    let left = le-max_left more rest in
    let right = le-max_right more rest in
    let most : max g (max x rest) ≤ max more rest = max-le (omega (arith, left, grown)) (max-le (omega (arith, left, reached)) right) in
    omega (arith, within, most)

-- the device at the slot of a name has it
named_at : (t : TableState) (e slot : ℕ) (d : Device) → slot_of e t.devices ≡ Some slot → slice_get t.devices slot ≡ Some d → d.dev_eui.0 ≡ e
named_at t e slot d own at =
    let found = place-found name e 0 t.devices slot own in
    let there : slot ≡ found.0 = let h = found.2 in omega arith in
    ap name (same_Some d found.1 (sym at ∙ (ap (slice_get t.devices) there ∙ found.3))) ∙ found.4

within_one : (since : ℕ) (sessions : List SessionName) (t : TableState) (m : Mark) → IsSinceRecord since sessions t m → IsSince since (raised_by_all sessions t) m
within_one since [] t m is =
    record {
      slot = is.slot;
      device = is.device;
      own = is.own;
      at = is.at;
      within = subst (λ n. (session_in m).join_nonce ≤ n + since) (max-eq_left (let least : 0 ≤ granted is.device = omega arith in least)) is.within;
    }
within_one since (s ∷ sessions) t m is =
    let e = (session_in m).dev_eui.0 in
    within_one since sessions (raised_table s t) m (record {
      slot = is.slot;
      device = raised_by s is.device;
      own = same_place (raised_by s) (keeps s) e 0 t.devices ∙ is.own;
      at = slice_get-map (raised_by s) t.devices is.slot ∙ ap (option_map (raised_by s)) is.at;
      within = still_within (session_in m).join_nonce since (granted is.device) (cond (nat_eq s.dev_eui.0 e) s.join_nonce 0) (highest e sessions) (granted (raised_by s is.device))
          is.within (grows s is.device) (reaches s is.device e (named_at t e is.slot is.device is.own is.at));
    })

pub within_all : (since : ℕ) (sessions : List SessionName) (t : TableState) (marks : List Mark) → All (λ m. IsSinceRecord since sessions t m) marks
    → All (λ m. IsSince since (raised_by_all sessions t) m) marks
within_all since sessions t marks all = λ k d within. within_one since sessions t _ (all k d within)

pub own_all : (sessions : List SessionName) (t : TableState) → HaveOwnSlots t.devices → HaveOwnSlots (raised_by_all sessions t).devices
own_all [] t own = own
own_all (s ∷ sessions) t own = own_all sessions (raised_table s t) (own_slots (raised_by s) (keeps s) t.devices own)

-- ---- one session after another

raised_by_all-push : (sessions : List SessionName) (s : SessionName) (t : TableState) → raised_by_all (sessions ++ s ∷ []) t ≡ raised_table s (raised_by_all sessions t)
raised_by_all-push [] s t = refl
raised_by_all-push (first ∷ sessions) s t = raised_by_all-push sessions s (raised_table first t)

pub raised_by_all-take_more : (sessions : List SessionName) (t : TableState) (i : ℕ) (s : SessionName) → i < length sessions → s ≡ get_or sessions i s
    → raised_by_all (take (i + 1) sessions) t ≡ raised_table s (raised_by_all (take i sessions) t)
raised_by_all-take_more sessions t i s lt is =
    ap (λ l. raised_by_all l t) (take_more sessions i s lt ∙ ap (λ (x : SessionName). take i sessions ++ x ∷ []) (sym is))
    ∙ raised_by_all-push (take i sessions) s t
