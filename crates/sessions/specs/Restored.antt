-- A table that is restored from an older copy, although the network went on after the copy.
use Rattle.std.specs.Prelude.{◌≡◌, ◌==◌, ◌≤◌, ℕ, ◌+◌, not, map, max, Option, Some, slice_get}
use Rattle.std.specs.Prelude.{List, [], ◌∷◌, if◌then◌else◌, unwrap_or}
use Rattle.std.specs.List.{find}
use Rattle.devices.specs.declared.device.Device.{Device}
use Rattle.devices.specs.declared.mark.Mark.{Mark}
use Rattle.devices.specs.declared.mark.SessionName.{SessionName}
use Rattle.devices.specs.Restored.{has_grants_left, raised_device, restored_device}
use Rattle.sessions.specs.Marks.{session_in}
use Rattle.sessions.specs.Table.{TableState, slot_of}

-- each device's last granted JoinNonce is N higher, and no device has a session
abbrev pub restored_table : ℕ → TableState → TableState
restored_table since t = record t { devices = map (restored_device since) t.devices }

-- the first device that has fewer than N JoinNonces left
abbrev pub spent_device : ℕ → TableState → Option Device
spent_device since t = find (λ d. not (has_grants_left since d.activation)) t.devices

-- if the session names this device, it counts as granted to it
abbrev pub raised_by : SessionName → Device → Device
raised_by s d = if d.dev_eui.0 == s.dev_eui.0 then raised_device s.join_nonce d else d

-- a table in which this session counts as granted
abbrev pub raised_table : SessionName → TableState → TableState
raised_table s t = record t { devices = map (raised_by s) t.devices }

-- a table in which these sessions count as granted
abbrev pub raised_by_all : List SessionName → TableState → TableState
raised_by_all [] t = t
raised_by_all (s ∷ sessions) t = raised_by_all sessions (raised_table s t)

-- The mark is of a device that the copy has, and the JoinNonce of its session is at most N above
-- the copy's last granted one. With any counter, the mark may have been used.
pub record IsSince (since : ℕ) (t : TableState) (m : Mark) : Type 0 where
  pub slot : ℕ
  pub device : Device
  pub own : slot_of (session_in m).dev_eui.0 t.devices ≡ Some slot
  pub at : slice_get t.devices slot ≡ Some device
  pub within : (session_in m).join_nonce ≤ unwrap_or device.activation.granted 0 + since

-- the highest JoinNonce of a device among these sessions, 0 if there is none
abbrev pub highest : ℕ → List SessionName → ℕ
highest dev_eui [] = 0
highest dev_eui (s ∷ sessions) =
    max (if s.dev_eui.0 == dev_eui then s.join_nonce else 0) (highest dev_eui sessions)

-- The same with a record of sessions beside the copy: the JoinNonce is at most N above the copy's
-- last granted one, or above the highest one that the record has of the device.
pub record IsSinceRecord (since : ℕ) (sessions : List SessionName) (t : TableState) (m : Mark)
    : Type 0 where
  pub slot : ℕ
  pub device : Device
  pub own : slot_of (session_in m).dev_eui.0 t.devices ≡ Some slot
  pub at : slice_get t.devices slot ≡ Some device
  pub within : (session_in m).join_nonce
      ≤ max (unwrap_or device.activation.granted 0) (highest (session_in m).dev_eui.0 sessions)
      + since
