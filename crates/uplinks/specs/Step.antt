-- What a data frame does to the device at a slot (TS001-1.0.4 §4.3).
use Rattle.std.specs.Prelude.{ℕ, if◌then◌else◌, List, length, Option, Some, None, Result, Ok, Err}
use Rattle.lw_types.specs.declared.refusal.Refusal.{Refusal}
use Rattle.lw_types.specs.declared.refusal.Refusal.TheVariants.{Repeat, UnknownChannel}
use Rattle.lw_types.specs.declared.refusal.Refusal.TheVariants.{UnknownDevAddr}
use Rattle.devices.specs.Channels.{may_use}
use Rattle.devices.specs.Heard.{best_of}
use Rattle.devices.specs.DeviceStep.{DeviceStep}
use Rattle.devices.specs.declared.device.Device.{Device}
use Rattle.devices.specs.declared.heard.Hearing.{Hearing}
use Rattle.downlinks.specs.Reply.{acknowledgement_step}
use Rattle.uplinks.specs.declared.fit.Fit.{Fit}
use Rattle.uplinks.specs.declared.fit.Fit.TheVariants.{First, Next, Again}
use Rattle.uplinks.specs.declared.uplink.Uplink.{Uplink}
use Rattle.uplinks.specs.Accepted.{uplink_step}
use Rattle.uplinks.specs.Chain.{◌>>=◌}
use Rattle.uplinks.specs.Fit.{fit_of, fitted_session}

-- what an uplink does in its session; one that comes again is acknowledged if it is confirmed,
-- otherwise refused
abbrev pub step_in_session : ℕ → ℕ → Device → Uplink → ℕ → Hearing → Fit → Result DeviceStep Refusal
step_in_session net_id slot d u copies best (First s counter) =
    Ok (uplink_step net_id slot d (First s counter) u copies best)
step_in_session net_id slot d u copies best (Next c counter) =
    Ok (uplink_step net_id slot d (Next c counter) u copies best)
step_in_session net_id slot d u copies best (Again c) =
    if u.frame.confirmed then Ok (acknowledgement_step net_id slot d c best) else Err Repeat

-- an uplink counts in its session only if the copy that was heard best is on a channel of the
-- session; the channels of the other copies don't matter
abbrev pub if_on_channel : Hearing → Fit → Result Fit Refusal
if_on_channel best fit =
    if may_use (fitted_session fit).channels best.reception.frequency
    then Ok fit else Err UnknownChannel

-- an uplink that `copies` gateways heard, with this best copy. A best copy exists, since a heard
-- frame has at least one copy
abbrev pub step_of_best : ℕ → ℕ → Device → Uplink → ℕ → Option Hearing → Result DeviceStep Refusal
step_of_best net_id slot d u copies None = Err UnknownDevAddr  -- not reached
step_of_best net_id slot d u copies (Some best) =
    fit_of net_id slot d.activation u.frame >>= if_on_channel best
    >>= step_in_session net_id slot d u copies best

-- what an uplink with these copies does to the record of the device at a slot
abbrev pub uplink_at : ℕ → ℕ → Device → List Hearing → Uplink → Result DeviceStep Refusal
uplink_at net_id slot d hearings u =
    step_of_best net_id slot d u (length hearings) (best_of hearings)
