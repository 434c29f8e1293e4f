-- What has left a network, and that no mark left twice.
use Rattle.std.specs.Prelude.{◌≡◌, ◌≢◌, ◌≤◌, ◌<◌, ◌⊎◌, ℕ, List, [], ◌∷◌, Some, IfSome, All}
use Rattle.std.specs.Prelude.{slice_get, unwrap_or}
use Rattle.std.specs.List.{AllByRecursion, filter_map}
use Rattle.devices.specs.declared.activation.CurrentSession.{CurrentSession}
use Rattle.devices.specs.declared.device.Device.{Device}
use Rattle.devices.specs.declared.effect.Effect.{Effect}
use Rattle.devices.specs.declared.mark.Mark.{Mark}
use Rattle.devices.specs.declared.mark.Mark.TheVariants.{Forwarded, Granted, Sent}
use Rattle.devices.specs.declared.mark.SessionName.{SessionName}
use Rattle.devices.specs.Activation.{Grants, AreInOrder}
use Rattle.devices.specs.Mark.{mark_of}
use Rattle.sessions.specs.Index.{HaveOwnSlots}
use Rattle.sessions.specs.Table.{TableState, slot_of}

-- one list is what remains of the other after some elements are dropped
abbrev pub IsSubsequence : {A : Type 0} → List A → List A → Type 0
IsSubsequence xs [] = xs ≡ []
IsSubsequence {A} xs (y ∷ ys) =
    IsSubsequence xs ys ⊎ ((rest : List A) × (xs ≡ y ∷ rest) × IsSubsequence rest ys)

-- the marks that effects use up, in order
abbrev pub marks_of : List Effect → List Mark
marks_of effects = filter_map mark_of effects

-- no element occurs twice
abbrev pub AreDistinct : {A : Type 0} → List A → Type 0
AreDistinct [] = Unit {0}
AreDistinct (x ∷ xs) = AllByRecursion (λ y. x ≢ y) xs × AreDistinct xs

-- no mark is used up twice
abbrev pub AreOnce : List Effect → Type 0
AreOnce effects = AreDistinct (marks_of effects)

-- ---- what a table says of the marks before it

-- the session of a mark
abbrev pub session_in : Mark → SessionName
session_in (Forwarded session counter) = session
session_in (Granted session) = session
session_in (Sent session counter) = session

-- the JoinNonce was granted and its session isn't pending; if it is the current one, `Past` holds
-- of it
pub record IsPast (g : Grants) (join_nonce : ℕ) (Past : CurrentSession → Type 0) : Type 0 where
  pub granted : join_nonce ≤ unwrap_or g.granted 0
  pub begun : IfSome g.pending (λ s. s.join_nonce ≢ join_nonce)
  pub past : IfSome g.current (λ c. c.session.join_nonce ≡ join_nonce → Past c)

-- a device with these grants doesn't use up this mark of its own again
abbrev pub GrantsCover : Grants → Mark → Type 0
GrantsCover g (Forwarded session counter) = IsPast g session.join_nonce (λ c. counter ≤ c.last_up)
GrantsCover g (Granted session) = session.join_nonce ≤ unwrap_or g.granted 0
GrantsCover g (Sent session counter) = IsPast g session.join_nonce (λ c. counter < c.next_down)

-- the table has the device of the mark, and its grants cover it
pub record Covers (t : TableState) (m : Mark) : Type 0 where
  pub slot : ℕ
  pub device : Device
  pub own : slot_of (session_in m).dev_eui.0 t.devices ≡ Some slot
  pub at : slice_get t.devices slot ≡ Some device
  pub grants : GrantsCover device.activation m

-- each DevEUI is at one slot, and the grants of each device are in order
pub record IsSound (t : TableState) : Type 0 where
  pub own : HaveOwnSlots t.devices
  pub in_order : All (λ d. AreInOrder d.activation) t.devices

-- a network with this sound table has used up these marks, and none of them twice
pub record HasUsedUp (t : TableState) (marks : List Mark) : Type 0 where
  pub sound : IsSound t
  pub covered : All (λ m. Covers t m) marks
  pub distinct : AreDistinct marks
