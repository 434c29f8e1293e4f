-- A device whose record is restored from an older copy. The copy doesn't have the sessions that
-- were granted after it. So the last granted JoinNonce is raised, and every session is dropped.
use Rattle.std.specs.Prelude.{ℕ, ◌+◌, ◌^◌, Bool, nat_lt, if◌then◌else◌, Some, None, unwrap_or}
use Rattle.devices.specs.declared.device.Device.{Device}
use Rattle.devices.specs.Activation.{Grants, grants_of}

-- whether N JoinNonces are left above the last granted one (TS001-1.0.4 §6.2.6: 24 bits)
abbrev pub has_grants_left : ℕ → Grants → Bool
has_grants_left since g = nat_lt (unwrap_or g.granted 0 + since) (2 ^ 24)

-- the last granted JoinNonce is N higher, and no session is left
abbrev pub restored_grants : ℕ → Grants → Grants
restored_grants since g = grants_of (Some (unwrap_or g.granted 0 + since)) None None

-- everything else stays: names, AppKey, settings, the last DevNonce, queues and the count of
-- uplinks
abbrev pub restored_device : ℕ → Device → Device
restored_device since d = record d { activation = restored_grants since d.activation }

-- this JoinNonce may have been granted, so the last granted one is raised to it unless it is higher
-- already; the sessions stay
abbrev pub raised_grants : ℕ → Grants → Grants
raised_grants to g =
    if nat_lt (unwrap_or g.granted 0) to then grants_of (Some to) g.current g.pending else g

abbrev pub raised_device : ℕ → Device → Device
raised_device to d = record d { activation = raised_grants to d.activation }
