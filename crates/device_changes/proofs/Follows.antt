-- A changed record of a device rules out what the record before it rules out.
use Rattle.std.proofs.Common.{◌≡◌, ◌<◌, ◌≤◌, ◌∙◌, ℕ, List, Bool, true, false, cond, nat_eq, nat_lt, Option, Some, None, refl, sym, subst, arith}
use Rattle.std.specs.Option.{IfSome, unwrap_or}
use Rattle.std.proofs.lemmas.Bool.{eqb-true, ltb-true}
use Rattle.lw_types.specs.declared.key.Key.{Key}
use Rattle.devices.specs.Activation.{AreInOrder, Grants, grants_of}
use Rattle.devices.specs.Restored.{raised_device}
use Rattle.devices.specs.declared.activation.CurrentSession.{CurrentSession}
use Rattle.devices.specs.declared.activation.Session.{Session}
use Rattle.devices.specs.declared.device.Device.{Device}
use Rattle.devices.specs.declared.mark.Mark.{Mark}
use Rattle.devices.specs.declared.mark.Mark.TheVariants.{Forwarded, Granted, Sent}
use Rattle.sessions.specs.Marks.{GrantsCover, IsPast, session_in}
use Rattle.device_changes.specs.Change.{row_of}
use Rattle.device_changes.specs.Device.{amended_device, are_same_keys, last_granted, retired_device, with_app_key, with_application, with_join_nonce, with_settings, without_queues, without_sessions}
use Rattle.device_changes.specs.Table.{changed_as, changed_by}
use Rattle.device_changes.specs.declared.change.Amendment.{Amendment}
use Rattle.device_changes.specs.declared.change.Change.{Change}
use Rattle.device_changes.specs.declared.change.Change.TheVariants.{Import, Amend, Retire}
use Rattle.device_changes.specs.declared.change.Retirement.{Retirement}

-- the second record is of the same device, its grants cover what the first ones cover, and they are
-- in order if the first ones are
pub record Follows (d e : Device) : Type 0 where
  pub name : e.dev_eui.0 ≡ d.dev_eui.0
  pub grants : (m : Mark) → GrantsCover d.activation m → GrantsCover e.activation m
  pub order : AreInOrder d.activation → AreInOrder e.activation

same : (d e : Device) → e.dev_eui.0 ≡ d.dev_eui.0 → e.activation ≡ d.activation → Follows d e
same d e name kept =
    record {
      name = name;
      grants = λ m. subst (λ (g : Grants). GrantsCover g m) (sym kept);
      order = subst (λ (g : Grants). AreInOrder g) (sym kept);
    }

then_follows : (d e f : Device) → Follows d e → Follows e f → Follows d f
then_follows d e f first second =
    record {
      name = second.name ∙ first.name;
      grants = λ m covered. second.grants m (first.grants m covered);
      order = λ order. second.order (first.order order);
    }

either : (b : Bool) (d e f : Device) → Follows d e → Follows d f → Follows d (cond b e f)
either true d e f left right = left
either false d e f left right = right

-- ---- without a session

pub order_alone : (granted : Option ℕ) → AreInOrder (grants_of granted None None)
order_alone granted = record { current = omega arith; pending = tt; later = tt }

pub cover_alone : (granted : Option ℕ) (m : Mark) → (session_in m).join_nonce ≤ unwrap_or granted 0 → GrantsCover (grants_of granted None None) m
cover_alone granted (Forwarded session counter) within = record { granted = within; begun = tt; past = tt }
cover_alone granted (Granted session) within = within
cover_alone granted (Sent session counter) within = record { granted = within; begun = tt; past = tt }

-- what is covered is granted
granted_before : (g : Grants) (m : Mark) → GrantsCover g m → (session_in m).join_nonce ≤ unwrap_or g.granted 0
granted_before g (Forwarded session counter) past = past.granted
granted_before g (Granted session) within = within
granted_before g (Sent session counter) past = past.granted

ended : (d : Device) → Follows d (without_sessions d)
ended d =
    record {
      name = refl;
      grants = λ m covered. cover_alone d.activation.granted m (granted_before d.activation m covered);
      order = λ order. order_alone d.activation.granted;
    }

-- ---- a raised JoinNonce

module _ (to : ℕ) (g : Grants) (less : unwrap_or g.granted 0 < to) where
  past : (nonce : ℕ) (Past : CurrentSession → Type 0) → IsPast g nonce Past → IsPast (grants_of (Some to) g.current g.pending) nonce Past
  past nonce Past was = record { granted = omega (arith, was.granted, less); begun = was.begun; past = was.past }

  cover_raised : (m : Mark) → GrantsCover g m → GrantsCover (grants_of (Some to) g.current g.pending) m
  cover_raised (Forwarded session counter) was = past session.join_nonce (λ c. counter ≤ c.last_up) was
  cover_raised (Granted session) within = omega (arith, within, less)
  cover_raised (Sent session counter) was = past session.join_nonce (λ c. counter < c.next_down) was

  still_below : (pending : Option Session) → IfSome pending (λ s. s.join_nonce ≤ unwrap_or g.granted 0) → IfSome pending (λ s. s.join_nonce ≤ to)
  still_below None below = tt
  still_below (Some s) below = omega (arith, below, less)

  order_raised : AreInOrder g → AreInOrder (grants_of (Some to) g.current g.pending)
  order_raised order =
      record { current = omega (arith, order.current, less); pending = still_below g.pending order.pending; later = order.later }

raised_at : (to : ℕ) (d : Device) (b : Bool) → nat_lt (unwrap_or d.activation.granted 0) to ≡ b
    → Follows d (record d { activation = cond b (grants_of (Some to) d.activation.current d.activation.pending) d.activation })
raised_at to d true is =
    let less : unwrap_or d.activation.granted 0 < to = ltb-true (unwrap_or d.activation.granted 0) to is in
    record { name = refl; grants = cover_raised to d.activation less; order = order_raised to d.activation less }
raised_at to d false is = record { name = refl; grants = λ m covered. covered; order = λ order. order }

raised : (to : ℕ) (d : Device) → Follows d (raised_device to d)
raised to d = raised_at to d (nat_lt (unwrap_or d.activation.granted 0) to) refl

-- ---- the steps of an amendment

set : (a : Amendment) (d : Device) → Follows d (with_settings a d)
set a d = same d (with_settings a d) refl refl

keyed : (key : Option Key) (d : Device) → Follows d (with_app_key key d)
keyed None d = same d d refl refl
keyed (Some key) d =
    let other : Device = record (without_sessions d) { app_key = key } in
    either (are_same_keys key d.app_key) d d other (same d d refl refl)
    (then_follows d (without_sessions d) other (ended d) (same (without_sessions d) other refl refl))

moved : (number : Option ℕ) (d : Device) → Follows d (with_application number d)
moved None d = same d d refl refl
moved (Some number) d =
    let other : Device = record (without_queues d) { application = number } in
    either (nat_eq number d.application) d d other (same d d refl refl) (same d other refl refl)

counted : (last : Option ℕ) (d : Device) → Follows d (with_join_nonce last d)
counted None d = same d d refl refl
counted (Some last) d = raised last d

amended : (a : Amendment) (d : Device) → Follows d (amended_device a d)
amended a d =
    let first = with_settings a d in
    let second = with_app_key a.app_key first in
    let third = with_application a.application second in
    then_follows d third (amended_device a d)
    (then_follows d second third (then_follows d first second (set a d) (keyed a.app_key first)) (moved a.application second))
    (counted a.last_join_nonce third)

retired : (r : Retirement) (d : Device) → Follows d (retired_device r d)
retired r d = then_follows d (without_sessions d) (retired_device r d) (ended d) (same (without_sessions d) (retired_device r d) refl refl)

-- ---- any change

changed : (change : Option Change) (d : Device) → Follows d (changed_as change d)
changed None d = same d d refl refl
changed (Some (Import i)) d = same d d refl refl
changed (Some (Amend a)) d = amended a d
changed (Some (Retire r)) d = retired r d

pub follows : (rows : List Change) (d : Device) → Follows d (changed_by rows d)
follows rows d = changed (row_of rows d.dev_eui.0) d

-- ---- an imported device

pub granted_is : (last : ℕ) → unwrap_or (last_granted last) 0 ≡ last
granted_is last = at (nat_eq last 0) refl
  where
    at : (b : Bool) → nat_eq last 0 ≡ b → unwrap_or (cond b None (Some last)) 0 ≡ last
    at true is = sym (eqb-true last 0 is)
    at false is = refl
