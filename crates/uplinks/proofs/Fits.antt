-- The session into which an uplink fits is the device's.
use Rattle.std.proofs.Common.{◌≡◌, ◌<◌, ℕ, Bool, true, false, cond, Option, Some, None, Result, Ok, Err, IfOk, ap, refl, subst, sym}
use Rattle.lw_types.specs.declared.refusal.Refusal.{Refusal}
use Rattle.counters.specs.declared.Rebuilt.{Rebuilt}
use Rattle.counters.specs.declared.Rebuilt.TheVariants as counter
use Rattle.counters.specs.Rebuilt.{rebuilt_counter}
use Rattle.phy_payload.specs.declared.data_frame.DataFrame.{DataFrame}
use Rattle.devices.specs.Activation.{Grants}
use Rattle.devices.specs.declared.activation.Session.{Session}
use Rattle.devices.specs.declared.activation.CurrentSession.{CurrentSession}
use Rattle.uplinks.specs.declared.fit.Fit.{Fit}
use Rattle.uplinks.specs.declared.fit.Fit.TheVariants.{First, Next, Again}
use Rattle.uplinks.specs.declared.fit.Trial.{Trial}
use Rattle.uplinks.specs.declared.fit.Trial.TheVariants.{OtherDevAddr, BadCounter, BadMic, Fits}
use Rattle.uplinks.specs.Fit.{current_trial, fit_of, later_trial, is_for, is_signed, try_current, try_pending, verdict, pending_trial, IsOf}

-- a new counter is above the last one
abbrev Grow : Type 0
Grow = (last low n : ℕ) → rebuilt_counter (Some last) low ≡ counter.New n → last < n

apart-elsewhere : (fit : Fit) → OtherDevAddr ≡ Fits fit → ⊥
apart-elsewhere fit h = cc

apart-far : (fit : Fit) → BadCounter ≡ Fits fit → ⊥
apart-far fit h = cc

apart-forged : (fit : Fit) → BadMic ≡ Fits fit → ⊥
apart-forged fit h = cc

same-fit : (a b : Fit) → Fits a ≡ Fits b → a ≡ b
same-fit a b h = cc

-- if a frame fits, whether it is signed or forged decides how
if_fits : (signed : Bool) (a b : Fit) → cond signed (Fits a) BadMic ≡ Fits b → a ≡ b
if_fits true a b h = same-fit a b h
if_fits false a b h = absurd (apart-forged b h)

-- ---- the session that waits

waiting_is : (net_id slot : ℕ) (g : Grants) (frame : DataFrame) (fit : Fit) → try_pending net_id slot g.pending frame ≡ Fits fit → IsOf g fit
waiting_is net_id slot g frame fit = at g.pending refl
  where
    counted : (s : Session) → g.pending ≡ Some s → (r : Rebuilt) → pending_trial s frame r ≡ Fits fit → IsOf g fit
    counted s is (counter.New n) h = subst (λ f. IsOf g f) (if_fits (is_signed s n frame) (First s n) fit h) is
    counted s is counter.Repeat h = absurd (apart-far fit h)
    counted s is counter.Gap h = absurd (apart-far fit h)

    named : (s : Session) → g.pending ≡ Some s → (b : Bool) → cond b (pending_trial s frame (rebuilt_counter None frame.f_cnt)) OtherDevAddr ≡ Fits fit → IsOf g fit
    named s is true h = counted s is (rebuilt_counter None frame.f_cnt) h
    named s is false h = absurd (apart-elsewhere fit h)

    at : (o : Option Session) → g.pending ≡ o → try_pending net_id slot o frame ≡ Fits fit → IsOf g fit
    at None is h = absurd (apart-elsewhere fit h)
    at (Some s) is h = named s is (is_for net_id slot s frame) h

-- ---- the session in use

current_is : Grow → (net_id slot : ℕ) (g : Grants) (frame : DataFrame) (fit : Fit) → try_current net_id slot g.current frame ≡ Fits fit → IsOf g fit
current_is grow net_id slot g frame fit = at g.current refl
  where
    counted : (c : CurrentSession) → g.current ≡ Some c → (r : Rebuilt) → rebuilt_counter (Some c.last_up) frame.f_cnt ≡ r → current_trial c frame r ≡ Fits fit → IsOf g fit
    counted c is (counter.New n) by h =
        subst (λ f. IsOf g f) (if_fits (is_signed c.session n frame) (Next c n) fit h) (is, grow c.last_up frame.f_cnt n by)
    counted c is counter.Repeat by h = subst (λ f. IsOf g f) (if_fits (is_signed c.session c.last_up frame) (Again c) fit h) is
    counted c is counter.Gap by h = absurd (apart-far fit h)

    named : (c : CurrentSession) → g.current ≡ Some c → (b : Bool) → cond b (current_trial c frame (rebuilt_counter (Some c.last_up) frame.f_cnt)) OtherDevAddr ≡ Fits fit → IsOf g fit
    named c is true h = counted c is (rebuilt_counter (Some c.last_up) frame.f_cnt) refl h
    named c is false h = absurd (apart-elsewhere fit h)

    at : (o : Option CurrentSession) → g.current ≡ o → try_current net_id slot o frame ≡ Fits fit → IsOf g fit
    at None is h = absurd (apart-elsewhere fit h)
    at (Some c) is h = named c is (is_for net_id slot c.session frame) h

-- ---- the two

no_fit : (e : Refusal) (fit : Fit) → ◌≡◌ {A = Result Fit Refusal} (Err e) (Ok fit) → ⊥
no_fit e fit h = cc

ok_fit : (a b : Fit) → ◌≡◌ {A = Result Fit Refusal} (Ok a) (Ok b) → a ≡ b
ok_fit a b h = cc

-- one of two trials is the fit
either : (P : Type 0) (a b : Trial) (fit : Fit) → (a ≡ Fits fit → P) → (b ≡ Fits fit → P) → verdict (later_trial a b) ≡ Ok fit → P
either P (Fits f) b fit one other h = one (ap Fits (ok_fit f fit h))
either P OtherDevAddr (Fits f) fit one other h = other (ap Fits (ok_fit f fit h))
either P OtherDevAddr OtherDevAddr fit one other h = absurd (no_fit _ fit h)
either P OtherDevAddr BadCounter fit one other h = absurd (no_fit _ fit h)
either P OtherDevAddr BadMic fit one other h = absurd (no_fit _ fit h)
either P BadCounter (Fits f) fit one other h = other (ap Fits (ok_fit f fit h))
either P BadCounter OtherDevAddr fit one other h = absurd (no_fit _ fit h)
either P BadCounter BadCounter fit one other h = absurd (no_fit _ fit h)
either P BadCounter BadMic fit one other h = absurd (no_fit _ fit h)
either P BadMic (Fits f) fit one other h = other (ap Fits (ok_fit f fit h))
either P BadMic OtherDevAddr fit one other h = absurd (no_fit _ fit h)
either P BadMic BadCounter fit one other h = absurd (no_fit _ fit h)
either P BadMic BadMic fit one other h = absurd (no_fit _ fit h)

pub fit_is : Grow → (net_id slot : ℕ) (g : Grants) (frame : DataFrame) (fit : Fit) → fit_of net_id slot g frame ≡ Ok fit → IsOf g fit
fit_is grow net_id slot g frame fit h =
    either (IsOf g fit) (try_pending net_id slot g.pending frame) (try_current net_id slot g.current frame) fit
    (waiting_is net_id slot g frame fit) (current_is grow net_id slot g frame fit) h

-- so is the fit of a result that is one
pub if_fit_is : {E : Type 0} {wanted : Result Fit E} (g : Grants) → ((fit : Fit) → wanted ≡ Ok fit → IsOf g fit) → (r : Result Fit E) → r ≡ wanted → IfOk r (λ fit. IsOf g fit)
if_fit_is g law (Ok fit) is = law fit (sym is)
if_fit_is g law (Err e) is = tt
