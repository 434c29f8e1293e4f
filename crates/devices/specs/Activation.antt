-- What a device was granted, and its sessions.
use Rattle.std.specs.Prelude.{◌≤◌, ◌<◌, ◌+◌, ℕ, Option, Some, None, IfSome, unwrap_or}
use Rattle.devices.specs.declared.activation.Session.{Session}
use Rattle.devices.specs.declared.activation.CurrentSession.{CurrentSession}

-- the last JoinNonce granted, the current session, and the pending one, which hasn't had an uplink
-- yet
pub record Grants : Type 0 where
  pub granted : Option ℕ
  pub current : Option CurrentSession
  pub pending : Option Session

-- the JoinNonce of the current session, 0 if there is none
abbrev pub current_nonce : Option CurrentSession → ℕ
current_nonce None = 0
current_nonce (Some c) = c.session.join_nonce

-- no session is above the last grant, and the pending session is later than the current one
pub record AreInOrder (g : Grants) : Type 0 where
  pub current : current_nonce g.current ≤ unwrap_or g.granted 0
  pub pending : IfSome g.pending (λ s. s.join_nonce ≤ unwrap_or g.granted 0)
  pub later : IfSome g.pending (λ s. current_nonce g.current < s.join_nonce)

-- nothing granted yet
abbrev pub no_grants : Grants
no_grants = record { granted = None; current = None; pending = None }

abbrev pub grants_of : Option ℕ → Option CurrentSession → Option Session → Grants
grants_of granted current pending =
    record { granted = granted; current = current; pending = pending }

-- a session is granted: it becomes the pending one, and the current one stays
abbrev pub with_grant : Grants → Session → Grants
with_grant g s = record g { granted = Some s.join_nonce; pending = Some s }

-- the pending session becomes the current one, after the uplink with this counter, and its
-- downlinks count from 0
abbrev pub with_current : Grants → Session → ℕ → Grants
with_current g s up =
    record g {
      current = Some (record { session = s; last_up = up; next_down = 0 });
      pending = None;
    }

-- the current session had an uplink with this counter
abbrev pub with_last_up : Grants → CurrentSession → ℕ → Grants
with_last_up g c up = record g { current = Some (record c { last_up = up }) }

-- the current session had a downlink
abbrev pub with_down_used : Grants → CurrentSession → Grants
with_down_used g c = record g { current = Some (record c { next_down = c.next_down + 1 }) }
