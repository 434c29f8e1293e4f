-- The session of an uplink, and its counter there (TS001-1.0.4 §4.3.1.5, §4.4).
use Rattle.std.specs.Prelude.{◌≡◌, ◌<◌, ℕ, ◌==◌, Bool, nat_eq, if◌then◌else◌, Option, Some, None}
use Rattle.std.specs.Prelude.{Result, Ok, Err}
use Rattle.std.specs.Cmp.Lexicographic.{pointwise}
use Rattle.lw_types.specs.declared.direction.Direction.TheVariants.{Up}
use Rattle.lw_types.specs.declared.refusal.Refusal.{Refusal}
use Rattle.lw_types.specs.declared.refusal.Refusal.TheVariants as refusals
use Rattle.counters.specs.Rebuilt.{rebuilt_counter}
use Rattle.counters.specs.declared.Rebuilt.{Rebuilt}
use Rattle.counters.specs.declared.Rebuilt.TheVariants as counter
use Rattle.frame_crypt.specs.Frames.{data_mic}
use Rattle.phy_payload.specs.declared.data_frame.DataFrame.{DataFrame}
use Rattle.phy_payload.specs.Frame.{data_mic_input}
use Rattle.devices.specs.Activation.{Grants}
use Rattle.devices.specs.Address.{dev_addr}
use Rattle.devices.specs.declared.activation.Session.{Session}
use Rattle.devices.specs.declared.activation.CurrentSession.{CurrentSession}
use Rattle.uplinks.specs.declared.fit.Fit.{Fit}
use Rattle.uplinks.specs.declared.fit.Fit.TheVariants.{First, Next, Again}
use Rattle.uplinks.specs.declared.fit.Trial.{Trial}
use Rattle.uplinks.specs.declared.fit.Trial.TheVariants.{OtherDevAddr, BadCounter, BadMic, Fits}

-- whether the frame has exactly the address of a session of the device at this slot
abbrev pub is_for : ℕ → ℕ → Session → DataFrame → Bool
is_for net_id slot s frame = frame.dev_addr.0 == (dev_addr net_id slot s.join_nonce).0

-- whether the frame's MIC is the session's under this counter (§4.4)
abbrev pub is_signed : Session → ℕ → DataFrame → Bool
is_signed s counter frame =
    pointwise nat_eq frame.mic.0
    (data_mic s.nwk_skey.0 Up frame.dev_addr.0 counter (data_mic_input frame))

abbrev pub if_signed : Session → ℕ → DataFrame → Fit → Trial
if_signed s counter frame fit = if is_signed s counter frame then Fits fit else BadMic

-- ---- the pending session, which hasn't had an uplink yet

abbrev pub pending_trial : Session → DataFrame → Rebuilt → Trial
pending_trial s frame (counter.New n) = if_signed s n frame (First s n)
pending_trial s frame counter.Repeat = BadCounter
pending_trial s frame counter.Gap = BadCounter

-- it has had no counter yet
abbrev pub try_pending : ℕ → ℕ → Option Session → DataFrame → Trial
try_pending net_id slot None frame = OtherDevAddr
try_pending net_id slot (Some s) frame =
    if is_for net_id slot s frame then pending_trial s frame
    (rebuilt_counter None frame.f_cnt) else OtherDevAddr

-- ---- the current session

-- the MIC of a frame that comes again is tested under the last counter
abbrev pub current_trial : CurrentSession → DataFrame → Rebuilt → Trial
current_trial c frame (counter.New n) = if_signed c.session n frame (Next c n)
current_trial c frame counter.Repeat = if_signed c.session c.last_up frame (Again c)
current_trial c frame counter.Gap = BadCounter

abbrev pub try_current : ℕ → ℕ → Option CurrentSession → DataFrame → Trial
try_current net_id slot None frame = OtherDevAddr
try_current net_id slot (Some c) frame =
    if is_for net_id slot c.session frame then current_trial c frame
    (rebuilt_counter (Some c.last_up) frame.f_cnt) else OtherDevAddr

-- ---- the two

-- the first of two sessions into which the frame fits; if it fits into none, the one in which it
-- passed more tests: first its address, then its counter
abbrev pub later_trial : Trial → Trial → Trial
later_trial (Fits fit) other = Fits fit
later_trial OtherDevAddr other = other
later_trial BadCounter OtherDevAddr = BadCounter
later_trial BadCounter BadCounter = BadCounter
later_trial BadCounter BadMic = BadMic
later_trial BadCounter (Fits fit) = Fits fit
later_trial BadMic OtherDevAddr = BadMic
later_trial BadMic BadCounter = BadMic
later_trial BadMic BadMic = BadMic
later_trial BadMic (Fits fit) = Fits fit

-- the refusal: no session has the address; or the MIC doesn't fit; or the counter is too far in
-- each session that has the address
abbrev pub verdict : Trial → Result Fit Refusal
verdict OtherDevAddr = Err refusals.UnknownDevAddr
verdict BadCounter = Err refusals.CounterGap
verdict BadMic = Err refusals.BadMic
verdict (Fits fit) = Ok fit

-- the session in which the frame's FCntUp counts on: the pending one is tried before the current
-- one
abbrev pub fit_of : ℕ → ℕ → Grants → DataFrame → Result Fit Refusal
fit_of net_id slot g frame =
    verdict (later_trial (try_pending net_id slot g.pending frame)
    (try_current net_id slot g.current frame))

-- the session of a fit
abbrev pub fitted_session : Fit → Session
fitted_session (First s counter) = s
fitted_session (Next c counter) = c.session
fitted_session (Again c) = c.session

-- the session is the device's pending or current one; in the current one, a new counter is above
-- the last one
abbrev pub IsOf : Grants → Fit → Type 0
IsOf g (First s counter) = g.pending ≡ Some s
IsOf g (Next c counter) = (g.current ≡ Some c) × (c.last_up < counter)
IsOf g (Again c) = g.current ≡ Some c
