-- The session of an uplink, and why it is refused, stated by the candidates: the sessions to which
-- it may belong (TS001-1.0.4 §4.3.1.5, §4.4).
use Rattle.std.specs.Prelude.{ℕ, Bool, if◌then◌else◌, List, [], ◌∷◌, ◌++◌, filter, Option}
use Rattle.std.specs.Prelude.{Some, None, Result, Ok, Err}
use Rattle.std.specs.List.{filter_map}
use Rattle.lw_types.specs.declared.refusal.Refusal.{Refusal}
use Rattle.lw_types.specs.declared.refusal.Refusal.TheVariants as refusals
use Rattle.counters.specs.Rebuilt.{rebuilt_counter}
use Rattle.counters.specs.declared.Rebuilt.{Rebuilt}
use Rattle.counters.specs.declared.Rebuilt.TheVariants as counter
use Rattle.phy_payload.specs.declared.data_frame.DataFrame.{DataFrame}
use Rattle.devices.specs.Activation.{Grants}
use Rattle.devices.specs.declared.activation.Session.{Session}
use Rattle.devices.specs.declared.activation.CurrentSession.{CurrentSession}
use Rattle.uplinks.specs.declared.fit.Fit.{Fit}
use Rattle.uplinks.specs.declared.fit.Fit.TheVariants.{First, Next, Again}
use Rattle.uplinks.specs.Fit.{is_for, is_signed}

-- a session of a device
pub data Candidate : Type 0 where
  Pending : Session → Candidate
  Current : CurrentSession → Candidate

abbrev pub pending_candidates : ℕ → ℕ → Option Session → DataFrame → List Candidate
pending_candidates net_id slot None frame = []
pending_candidates net_id slot (Some s) frame =
    if is_for net_id slot s frame then Pending s ∷ [] else []

abbrev pub current_candidates : ℕ → ℕ → Option CurrentSession → DataFrame → List Candidate
current_candidates net_id slot None frame = []
current_candidates net_id slot (Some c) frame =
    if is_for net_id slot c.session frame then Current c ∷ [] else []

-- the sessions that have exactly the frame's address: the pending one before the current one
abbrev pub candidates : ℕ → ℕ → Grants → DataFrame → List Candidate
candidates net_id slot g frame =
    pending_candidates net_id slot g.pending frame ++ current_candidates net_id slot g.current frame

-- the frame in a session, by its counter; nothing if that is too far above the last one
abbrev pub fit_in_pending : Session → Rebuilt → Option Fit
fit_in_pending s (counter.New n) = Some (First s n)
fit_in_pending s counter.Repeat = None
fit_in_pending s counter.Gap = None

abbrev pub fit_in_current : CurrentSession → Rebuilt → Option Fit
fit_in_current c (counter.New n) = Some (Next c n)
fit_in_current c counter.Repeat = Some (Again c)
fit_in_current c counter.Gap = None

abbrev pub fit_in : DataFrame → Candidate → Option Fit
fit_in frame (Pending s) = fit_in_pending s (rebuilt_counter None frame.f_cnt)
fit_in frame (Current c) = fit_in_current c (rebuilt_counter (Some c.last_up) frame.f_cnt)

-- whether the frame's MIC is the session's, under the counter that the frame has there
abbrev pub has_mic : DataFrame → Fit → Bool
has_mic frame (First s counter) = is_signed s counter frame
has_mic frame (Next c counter) = is_signed c.session counter frame
has_mic frame (Again c) = is_signed c.session c.last_up frame

-- Why a frame is refused if its MIC fits no session: no session has its address; or the counter is
-- too far in each that has it; otherwise its MIC.
abbrev pub refusal_among : List Candidate → List Fit → Refusal
refusal_among [] fits = refusals.UnknownDevAddr
refusal_among (candidate ∷ others) [] = refusals.CounterGap
refusal_among (candidate ∷ others) (fit ∷ fits) = refusals.BadMic

abbrev pub first_or : List Fit → Refusal → Result Fit Refusal
first_or [] refusal = Err refusal
first_or (fit ∷ fits) refusal = Ok fit

-- the first session whose MIC the frame has, or why there is none
abbrev pub verdict_among : DataFrame → List Candidate → Result Fit Refusal
verdict_among frame sessions =
    let fits = filter_map (fit_in frame) sessions in
    first_or (filter (has_mic frame) fits) (refusal_among sessions fits)
