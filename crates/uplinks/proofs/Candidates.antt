-- The trials of a device's sessions, stated by its candidates.
use Rattle.std.proofs.Common.{◌≡◌, ℕ, Bool, true, false, cond, List, [], ◌∷◌, ◌++◌, Option, Some, None, ap, refl}
use Rattle.counters.specs.declared.Rebuilt.{Rebuilt}
use Rattle.counters.specs.declared.Rebuilt.TheVariants as counter
use Rattle.counters.specs.Rebuilt.{rebuilt_counter}
use Rattle.phy_payload.specs.declared.data_frame.DataFrame.{DataFrame}
use Rattle.devices.specs.Activation.{Grants}
use Rattle.devices.specs.declared.activation.Session.{Session}
use Rattle.devices.specs.declared.activation.CurrentSession.{CurrentSession}
use Rattle.uplinks.specs.declared.fit.Fit.{Fit}
use Rattle.uplinks.specs.declared.fit.Fit.TheVariants.{First, Next, Again}
use Rattle.uplinks.specs.declared.fit.Trial.{Trial}
use Rattle.uplinks.specs.declared.fit.Trial.TheVariants.{OtherDevAddr, BadCounter, BadMic, Fits}
use Rattle.uplinks.specs.Fit.{current_trial, fit_of, later_trial, is_for, is_signed, try_current, try_pending, verdict, pending_trial}
use Rattle.uplinks.specs.Candidates.{Candidate, Pending, Current, candidates, current_candidates, pending_candidates, fit_in, fit_in_current, fit_in_pending, has_mic, verdict_among}

-- how far the frame gets in these sessions, of which there is at most one
IsTrial : DataFrame → Trial → List Candidate → Type 0
IsTrial frame OtherDevAddr cs = cs ≡ []
IsTrial frame BadCounter cs = (c : Candidate) × (cs ≡ c ∷ []) × (fit_in frame c ≡ None)
IsTrial frame BadMic cs = (c : Candidate) × (f : Fit) × (cs ≡ c ∷ []) × (fit_in frame c ≡ Some f) × (has_mic frame f ≡ false)
IsTrial frame (Fits f) cs = (c : Candidate) × (cs ≡ c ∷ []) × (fit_in frame c ≡ Some f) × (has_mic frame f ≡ true)

-- ---- each session

by_mic : (frame : DataFrame) (c : Candidate) (f : Fit) (b : Bool) → fit_in frame c ≡ Some f → has_mic frame f ≡ b → IsTrial frame (cond b (Fits f) BadMic) (c ∷ [])
unfolding IsTrial
by_mic frame c f true fits mic = (c, refl, fits, mic)
by_mic frame c f false fits mic = (c, f, refl, fits, mic)

pending_counted : (frame : DataFrame) (s : Session) (r : Rebuilt) → rebuilt_counter None frame.f_cnt ≡ r → IsTrial frame (pending_trial s frame r) (Pending s ∷ [])
unfolding IsTrial
pending_counted frame s (counter.New n) is = by_mic frame (Pending s) (First s n) (is_signed s n frame) (ap (fit_in_pending s) is) refl
pending_counted frame s counter.Repeat is = (Pending s, refl, ap (fit_in_pending s) is)
pending_counted frame s counter.Gap is = (Pending s, refl, ap (fit_in_pending s) is)

pending_named : (frame : DataFrame) (s : Session) (b : Bool)
    → IsTrial frame (cond b (pending_trial s frame (rebuilt_counter None frame.f_cnt)) OtherDevAddr) (cond b (Pending s ∷ []) [])
unfolding IsTrial
pending_named frame s true = pending_counted frame s (rebuilt_counter None frame.f_cnt) refl
pending_named frame s false = refl

pending-tried : (net_id slot : ℕ) (o : Option Session) (frame : DataFrame) → IsTrial frame (try_pending net_id slot o frame) (pending_candidates net_id slot o frame)
unfolding IsTrial
pending-tried net_id slot None frame = refl
pending-tried net_id slot (Some s) frame = pending_named frame s (is_for net_id slot s frame)

current_counted : (frame : DataFrame) (c : CurrentSession) (r : Rebuilt) → rebuilt_counter (Some c.last_up) frame.f_cnt ≡ r → IsTrial frame (current_trial c frame r) (Current c ∷ [])
unfolding IsTrial
current_counted frame c (counter.New n) is = by_mic frame (Current c) (Next c n) (is_signed c.session n frame) (ap (fit_in_current c) is) refl
current_counted frame c counter.Repeat is = by_mic frame (Current c) (Again c) (is_signed c.session c.last_up frame) (ap (fit_in_current c) is) refl
current_counted frame c counter.Gap is = (Current c, refl, ap (fit_in_current c) is)

current_named : (frame : DataFrame) (c : CurrentSession) (b : Bool)
    → IsTrial frame (cond b (current_trial c frame (rebuilt_counter (Some c.last_up) frame.f_cnt)) OtherDevAddr) (cond b (Current c ∷ []) [])
unfolding IsTrial
current_named frame c true = current_counted frame c (rebuilt_counter (Some c.last_up) frame.f_cnt) refl
current_named frame c false = refl

current-tried : (net_id slot : ℕ) (o : Option CurrentSession) (frame : DataFrame) → IsTrial frame (try_current net_id slot o frame) (current_candidates net_id slot o frame)
unfolding IsTrial
current-tried net_id slot None frame = refl
current-tried net_id slot (Some c) frame = current_named frame c (is_for net_id slot c.session frame)

-- ---- the two

both-tried : (frame : DataFrame) (a b : Trial) (cs ds : List Candidate) → IsTrial frame a cs → IsTrial frame b ds → verdict (later_trial a b) ≡ verdict_among frame (cs ++ ds)
unfolding IsTrial
both-tried frame OtherDevAddr OtherDevAddr cs ds h k = rw (h, k) refl
both-tried frame OtherDevAddr BadCounter cs ds h k = rw (h, k.1, k.2) refl
both-tried frame OtherDevAddr BadMic cs ds h k = rw (h, k.2, k.3, k.4) refl
both-tried frame OtherDevAddr (Fits g) cs ds h k = rw (h, k.1, k.2, k.3) refl
both-tried frame BadCounter OtherDevAddr cs ds h k = rw (h.1, k, h.2) refl
both-tried frame BadCounter BadCounter cs ds h k = rw (h.1, k.1, h.2, k.2) refl
both-tried frame BadCounter BadMic cs ds h k = rw (h.1, k.2, h.2, k.3, k.4) refl
both-tried frame BadCounter (Fits g) cs ds h k = rw (h.1, k.1, h.2, k.2, k.3) refl
both-tried frame BadMic OtherDevAddr cs ds h k = rw (h.2, k, h.3, h.4) refl
both-tried frame BadMic BadCounter cs ds h k = rw (h.2, k.1, h.3, h.4, k.2) refl
both-tried frame BadMic BadMic cs ds h k = rw (h.2, k.2, h.3, k.3, h.4, k.4) refl
both-tried frame BadMic (Fits g) cs ds h k = rw (h.2, k.1, h.3, k.2, h.4, k.3) refl
both-tried frame (Fits f) OtherDevAddr cs ds h k = rw (h.1, k, h.2, h.3) refl
both-tried frame (Fits f) BadCounter cs ds h k = rw (h.1, k.1, h.2, k.2, h.3) refl
both-tried frame (Fits f) BadMic cs ds h k = rw (h.1, k.2, h.2, k.3, h.3) refl
both-tried frame (Fits f) (Fits g) cs ds h k = rw (h.1, k.1, h.2, k.2, h.3) refl

pub fit-among : (net_id slot : ℕ) (g : Grants) (frame : DataFrame) → fit_of net_id slot g frame ≡ verdict_among frame (candidates net_id slot g frame)
fit-among net_id slot g frame =
    both-tried frame (try_pending net_id slot g.pending frame) (try_current net_id slot g.current frame)
    (pending_candidates net_id slot g.pending frame) (current_candidates net_id slot g.current frame)
    (pending-tried net_id slot g.pending frame) (current-tried net_id slot g.current frame)
