-- The parts of a record that change together.
use Rattle.std.specs.Prelude.{ℕ, Option, option_map}
use Rattle.devices.specs.declared.activation.Session.{Session}
use Rattle.devices.specs.declared.device.Device.{Device}
use Rattle.devices.specs.Activation.{Grants}

-- the last DevNonce accepted and the last JoinNonce granted
abbrev pub nonces_of : Device → Option ℕ × Option ℕ
nonces_of d = (d.last_dev_nonce, d.activation.granted)

-- the current session without its counters
abbrev pub session_of : Grants → Option Session
session_of g = option_map (λ c. c.session) g.current

-- the counters of the current session: that of its last uplink and that of its next downlink
abbrev pub counters_of : Grants → Option (ℕ × ℕ)
counters_of g = option_map (λ c. (c.last_up, c.next_down)) g.current
