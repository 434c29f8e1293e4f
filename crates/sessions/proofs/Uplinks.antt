-- What is known of an uplink that was carried out on a device's record.
use Rattle.std.proofs.Common.{◌≡◌, ◌∙◌, ◌⊎◌, inl, inr, ℕ, ◌==◌, ◌^◌, Bool, true, false, cond, List, [], ◌∷◌, ◌++◌, length, Option, Some, None, Ok, sym, ap, refl, subst}
use Rattle.std.specs.List.{AllByRecursion}
use Rattle.lw_types.specs.declared.identifiers.DevAddr.{DevAddr}
use Rattle.lw_types.specs.declared.refusal.Refusal.TheVariants.{Repeat, UnknownChannel, UnknownDevAddr}
use Rattle.mac_commands.specs.Reading.{reported_bytes}
use Rattle.phy_payload.specs.declared.contents.PortPayload.{PortPayload}
use Rattle.phy_payload.specs.declared.data_frame.DataFrame.{DataFrame}
use Rattle.devices.specs.Activation.{AreInOrder, Grants, with_down_used}
use Rattle.devices.specs.Channels.{may_use}
use Rattle.devices.specs.Heard.{best_of}
use Rattle.devices.specs.DeviceStep.{DeviceStep, device_step, report_effects}
use Rattle.devices.specs.declared.Tag.{Tag}
use Rattle.devices.specs.declared.activation.CurrentSession.{CurrentSession}
use Rattle.devices.specs.declared.device.Device.{Device}
use Rattle.devices.specs.declared.effect.Effect.{Effect}
use Rattle.devices.specs.declared.effect.Effect.TheVariants.{Forward}
use Rattle.devices.specs.declared.effect.Report.TheVariants.{Spent}
use Rattle.devices.specs.declared.heard.Hearing.{Hearing}
use Rattle.devices.specs.declared.mark.Mark.{Mark}
use Rattle.devices.specs.declared.mark.Mark.TheVariants.{Forwarded, Sent}
use Rattle.downlinks.specs.Load.{is_downlink_due}
use Rattle.downlinks.specs.Reply.{acknowledgement_step, answer_step, name_of}
use Rattle.downlinks.specs.declared.load.Demand.{Demand}
use Rattle.uplinks.specs.Accepted.{is_acknowledgement, demand_of, sent_commands, forward_effects, grants_after, is_application, mac_report, awaited_report, session_after, uplink_step, effects_before_answer, with_uplink}
use Rattle.uplinks.specs.Chain.{◌>>=◌}
use Rattle.uplinks.specs.Fit.{IsOf, fit_of, fitted_session}
use Rattle.uplinks.specs.Step.{if_on_channel, step_in_session, step_of_best, uplink_at}
use Rattle.uplinks.specs.declared.fit.Fit.{Fit}
use Rattle.uplinks.specs.declared.fit.Fit.TheVariants.{First, Next, Again}
use Rattle.uplinks.specs.declared.uplink.Uplink.{Uplink}
use Rattle.sessions.specs.Marks.{marks_of, session_in}
use Rattle.sessions.proofs.Grants.{Passes, passes_advanced, passes_begun, passes_down, passes_nothing, passes_then, passes_unmarked}
use Rattle.sessions.proofs.Joins.{both_ok, no_ok, ok_is, where_true}
use Rattle.sessions.proofs.Moves.{all_append, marks_of-append}

-- ---- a device is answered

-- the device keeps its name; either its grants are the same and no mark is used up, or a counter of
-- the session is
record IsAnswer (d : Device) (c : CurrentSession) (o : DeviceStep) : Type 0 where
  pub named : d.dev_eui ≡ o.device.dev_eui
  pub grants : (d.activation ≡ o.device.activation) × (marks_of o.effects ≡ [])
      ⊎ (with_down_used d.activation c ≡ o.device.activation) × (marks_of o.effects ≡ Sent (name_of d c) c.next_down ∷ [])

-- a downlink, or the report that no counter is left
sent-is : (d : Device) (c : CurrentSession) (spent : Bool) (sent : DeviceStep) → d.dev_eui ≡ sent.device.dev_eui
    → with_down_used d.activation c ≡ sent.device.activation → marks_of sent.effects ≡ Sent (name_of d c) c.next_down ∷ []
    → IsAnswer d c (cond spent (device_step d (report_effects d (Spent c.session.join_nonce))) sent)
sent-is d c true sent name used marks = record { named = refl; grants = inl (refl, refl) }
sent-is d c false sent name used marks = record { named = name; grants = inr (used, marks) }

-- an answer, if one is due
due-is : (d : Device) (c : CurrentSession) (due : Bool) (o : DeviceStep) → IsAnswer d c o → IsAnswer d c (cond due o (device_step d []))
due-is d c true o answer = answer
due-is d c false o answer = record { named = refl; grants = inl (refl, refl) }

answered-is : (net_id slot : ℕ) (d : Device) (c : CurrentSession) (asked : Demand) → IsAnswer d c (answer_step net_id slot d c asked)
answered-is net_id slot d c asked = due-is d c (is_downlink_due d asked) _ (sent-is d c (c.next_down == 2 ^ 32) _ refl refl refl)

acknowledged-is : (net_id slot : ℕ) (d : Device) (c : CurrentSession) (best : Hearing) → IsAnswer d c (acknowledgement_step net_id slot d c best)
acknowledged-is net_id slot d c best = sent-is d c (c.next_down == 2 ^ 32) _ refl refl refl

-- ---- an outcome that passes a device's grants on

-- the device keeps its name, the marks are its own, and they are used up
pub record Carries (d : Device) (o : DeviceStep) : Type 0 where
  pub named : d.dev_eui ≡ o.device.dev_eui
  pub theirs : AllByRecursion (λ m. d.dev_eui ≡ (session_in m).dev_eui) (marks_of o.effects)
  pub passes : Passes d.activation o.device.activation (marks_of o.effects)

answer-carries : (d : Device) (c : CurrentSession) (o : DeviceStep) → IsAnswer d c o → d.activation.current ≡ Some c → AreInOrder d.activation → Carries d o
answer-carries d c o answer current order = by answer.grants
  where
    by : (d.activation ≡ o.device.activation) × (marks_of o.effects ≡ [])
        ⊎ (with_down_used d.activation c ≡ o.device.activation) × (marks_of o.effects ≡ Sent (name_of d c) c.next_down ∷ [])
        → Carries d o
    by (inl (same, none)) =
        record {
          named = answer.named;
          theirs = subst (λ ms. AllByRecursion (λ m. d.dev_eui ≡ (session_in m).dev_eui) ms) (sym none) tt;
          passes = subst (λ ms. Passes d.activation o.device.activation ms) (sym none) (passes_nothing d.activation o.device.activation same);
        }
    by (inr (used, one)) =
        record {
          named = answer.named;
          theirs = subst (λ ms. AllByRecursion (λ m. d.dev_eui ≡ (session_in m).dev_eui) ms) (sym one) (refl, tt);
          passes = subst (λ ms. Passes d.activation o.device.activation ms) (sym one)
              (subst (λ g. Passes d.activation g (Sent (name_of d c) c.next_down ∷ [])) used (passes_down d.activation c current order (name_of d c) refl));
        }

-- ---- what is reported before the answer

-- effects without a mark, and others after them
behind_unmarked : (first second : List Effect) → marks_of first ≡ [] → marks_of (first ++ second) ≡ marks_of second
behind_unmarked first second none = marks_of-append first second ∙ ap (λ ms. ms ++ marks_of second) none

awaited-unmarked : (d : Device) (acked : Bool) (tag : Option Tag) → marks_of (awaited_report d acked tag) ≡ []
awaited-unmarked d acked None = refl
awaited-unmarked d acked (Some tag) = refl

commands-unmarked : (d : Device) (c : CurrentSession) (bytes : List ℕ) → marks_of (mac_report d c bytes) ≡ []
commands-unmarked d c [] = refl
commands-unmarked d c (byte ∷ bytes) = refl

-- the payload is handed on, or nothing is
abbrev MayForward : Device → CurrentSession → List Mark → Type 0
MayForward d c marks = (marks ≡ []) ⊎ (marks ≡ Forwarded (name_of d c) c.last_up ∷ [])

forwarded-marks : (addr : DevAddr) (d : Device) (c : CurrentSession) (copies : ℕ) (best : Hearing) (message : Option PortPayload)
    → MayForward d c (marks_of (forward_effects addr d c copies best message))
forwarded-marks addr d c copies best None = inl refl
forwarded-marks addr d c copies best (Some sent) = by_port (is_application sent.f_port) _
  where
    by_port : (application : Bool) (payload : List ℕ)
        → MayForward d c (marks_of (cond application (Forward d.application (name_of d c) c.last_up sent.f_port payload copies best.reception ∷ []) []))
    by_port true payload = inr refl
    by_port false payload = inl refl

-- unmarked effects and, after them, the payload's
behind_told : (d : Device) (c : CurrentSession) (awaited reported handed : List Effect) → marks_of awaited ≡ [] → marks_of reported ≡ []
    → MayForward d c (marks_of handed) → MayForward d c (marks_of (awaited ++ (reported ++ handed)))
behind_told d c awaited reported handed none no_commands may =
    subst (MayForward d c) (sym (behind_unmarked awaited (reported ++ handed) none ∙ behind_unmarked reported handed no_commands)) may

told-marks : (d : Device) (fit : Fit) (u : Uplink) (copies : ℕ) (best : Hearing)
    → MayForward d (session_after fit) (marks_of (effects_before_answer d fit u copies best))
told-marks d fit u copies best =
    let c : CurrentSession = session_after fit in
    behind_told d c (awaited_report d (is_acknowledgement fit u) d.awaited) (mac_report d c (reported_bytes (sent_commands c u)))
    (forward_effects u.frame.dev_addr d c copies best u.frame.contents.port_payload) (awaited-unmarked d (is_acknowledgement fit u) d.awaited)
    (commands-unmarked d c (reported_bytes (sent_commands c u))) (forwarded-marks u.frame.dev_addr d c copies best u.frame.contents.port_payload)

-- ---- a new uplink

module _ (net_id slot : ℕ) (d : Device) (fit : Fit) (u : Uplink) (copies : ℕ) (best : Hearing) where
  abbrev c : CurrentSession
  c = session_after fit

  taken-name : d.dev_eui ≡ (uplink_step net_id slot d fit u copies best).device.dev_eui
  taken-name = (answered-is net_id slot (with_uplink d fit) c (demand_of c u copies best)).named

  -- the uplink is handed on in a session that the device has afterwards
  taken-carries : Passes d.activation (grants_after d.activation fit) (Forwarded (name_of d c) c.last_up ∷ [])
      → (grants_after d.activation fit).current ≡ Some c → AreInOrder d.activation → Carries d (uplink_step net_id slot d fit u copies best)
  taken-carries passes current order =
      joined (told-marks d fit u copies best)
      (answer-carries (with_uplink d fit) c _ (answered-is net_id slot (with_uplink d fit) c (demand_of c u copies best)) current (passes.in_order order))
    where
      told_passes : (marks : List Mark) → MayForward d c marks → Passes d.activation (grants_after d.activation fit) marks
      told_passes marks (inl none) =
          subst (λ ms. Passes d.activation (grants_after d.activation fit) ms) (sym none)
          (passes_unmarked d.activation (grants_after d.activation fit) (Forwarded (name_of d c) c.last_up ∷ []) passes)
      told_passes marks (inr one) = subst (λ ms. Passes d.activation (grants_after d.activation fit) ms) (sym one) passes

      told_theirs : (marks : List Mark) → MayForward d c marks → AllByRecursion (λ m. d.dev_eui ≡ (session_in m).dev_eui) marks
      told_theirs marks (inl none) = subst (λ ms. AllByRecursion (λ m. d.dev_eui ≡ (session_in m).dev_eui) ms) (sym none) tt
      told_theirs marks (inr one) = subst (λ ms. AllByRecursion (λ m. d.dev_eui ≡ (session_in m).dev_eui) ms) (sym one) (refl, tt)

      joined : MayForward d c (marks_of (effects_before_answer d fit u copies best))
          → Carries (with_uplink d fit) (answer_step net_id slot (with_uplink d fit) c (demand_of c u copies best)) → Carries d (uplink_step net_id slot d fit u copies best)
      joined first second =
          let before : List Effect = effects_before_answer d fit u copies best in
          let o : DeviceStep = answer_step net_id slot (with_uplink d fit) c (demand_of c u copies best) in
          let marks = sym (marks_of-append before o.effects) in
          record {
            named = second.named;
            theirs = subst (λ ms. AllByRecursion (λ m. d.dev_eui ≡ (session_in m).dev_eui) ms) marks
                (all_append (λ m. d.dev_eui ≡ (session_in m).dev_eui) (marks_of before) (marks_of o.effects) (told_theirs (marks_of before) first) second.theirs);
            passes = subst (λ ms. Passes d.activation o.device.activation ms) marks
                (passes_then d.activation (grants_after d.activation fit) o.device.activation (marks_of before) (marks_of o.effects)
                (told_passes (marks_of before) first) second.passes);
          }

-- ---- in the session of which it is

fitted-name : (net_id slot : ℕ) (d : Device) (u : Uplink) (copies : ℕ) (best : Hearing) (fit : Fit) (o : DeviceStep) → step_in_session net_id slot d u copies best fit ≡ Ok o
    → d.dev_eui ≡ o.device.dev_eui
fitted-name net_id slot d u copies best (First s n) o is =
    taken-name net_id slot d (First s n) u copies best ∙ ap (λ (o : DeviceStep). o.device.dev_eui) (ok_is (uplink_step net_id slot d (First s n) u copies best) o is)
fitted-name net_id slot d u copies best (Next c n) o is =
    taken-name net_id slot d (Next c n) u copies best ∙ ap (λ (o : DeviceStep). o.device.dev_eui) (ok_is (uplink_step net_id slot d (Next c n) u copies best) o is)
fitted-name net_id slot d u copies best (Again c) o is =
    let acked = where_true u.frame.confirmed (Ok (acknowledgement_step net_id slot d c best)) Repeat o is in
    (acknowledged-is net_id slot d c best).named
    ∙ ap (λ (o : DeviceStep). o.device.dev_eui) (ok_is (acknowledgement_step net_id slot d c best) o acked.1)

fitted-carries : (net_id slot : ℕ) (d : Device) (u : Uplink) (copies : ℕ) (best : Hearing) (fit : Fit) (o : DeviceStep) → IsOf d.activation fit → AreInOrder d.activation
    → step_in_session net_id slot d u copies best fit ≡ Ok o → Carries d o
fitted-carries net_id slot d u copies best (First s n) o of order is =
    let passes = passes_begun d.activation s n of order (record { dev_eui = d.dev_eui; join_nonce = s.join_nonce }) refl in
    subst (Carries d) (ok_is (uplink_step net_id slot d (First s n) u copies best) o is) (taken-carries net_id slot d (First s n) u copies best passes refl order)
fitted-carries net_id slot d u copies best (Next c n) o of order is =
    let passes = passes_advanced d.activation c of.0 order n of.1 (record { dev_eui = d.dev_eui; join_nonce = c.session.join_nonce }) refl in
    subst (Carries d) (ok_is (uplink_step net_id slot d (Next c n) u copies best) o is) (taken-carries net_id slot d (Next c n) u copies best passes refl order)
fitted-carries net_id slot d u copies best (Again c) o of order is =
    let acked = where_true u.frame.confirmed (Ok (acknowledgement_step net_id slot d c best)) Repeat o is in
    subst (Carries d) (ok_is (acknowledgement_step net_id slot d c best) o acked.1)
    (answer-carries d c _ (acknowledged-is net_id slot d c best) of order)

-- ---- an uplink

-- an uplink that was carried out fits into a session
pub uplink-fits : (net_id slot : ℕ) (d : Device) (hearings : List Hearing) (u : Uplink) (o : DeviceStep) → uplink_at net_id slot d hearings u ≡ Ok o
    → (best : Hearing) × (fit : Fit) × (fit_of net_id slot d.activation u.frame ≡ Ok fit) × (step_in_session net_id slot d u (length hearings) best fit ≡ Ok o)
uplink-fits net_id slot d hearings u o is = by_best (best_of hearings) is
  where
    by_best : (best : Option Hearing) → step_of_best net_id slot d u (length hearings) best ≡ Ok o
        → (best : Hearing) × (fit : Fit) × (fit_of net_id slot d.activation u.frame ≡ Ok fit) × (step_in_session net_id slot d u (length hearings) best fit ≡ Ok o)
    by_best None h = no_ok UnknownDevAddr o _ h
    by_best (Some best) h =
        let found = both_ok (fit_of net_id slot d.activation u.frame >>= if_on_channel best) (step_in_session net_id slot d u (length hearings) best) o h in
        let fitted = both_ok (fit_of net_id slot d.activation u.frame) (if_on_channel best) found.0 found.1 in
        let on = where_true (may_use (fitted_session fitted.0).channels best.reception.frequency) (Ok fitted.0) UnknownChannel found.0 fitted.2 in
        (best, found.0, fitted.1 ∙ on.1, found.2)

-- it leaves the device's name
pub uplink-name : (net_id slot : ℕ) (d : Device) (hearings : List Hearing) (u : Uplink) (o : DeviceStep) → uplink_at net_id slot d hearings u ≡ Ok o
    → d.dev_eui ≡ o.device.dev_eui
uplink-name net_id slot d hearings u o is =
    let found = uplink-fits net_id slot d hearings u o is in
    fitted-name net_id slot d u (length hearings) found.0 found.1 o found.3

-- the session into which an uplink fits is the device's
abbrev pub FitsAreOf : Type 0
FitsAreOf = (net_id slot : ℕ) (g : Grants) (frame : DataFrame) (fit : Fit) → fit_of net_id slot g frame ≡ Ok fit → IsOf g fit

-- so it uses up marks of its own
pub uplink-carries : FitsAreOf → (net_id slot : ℕ) (d : Device) (hearings : List Hearing) (u : Uplink) (o : DeviceStep) → AreInOrder d.activation
    → uplink_at net_id slot d hearings u ≡ Ok o → Carries d o
uplink-carries fits net_id slot d hearings u o order is =
    let found = uplink-fits net_id slot d hearings u o is in
    fitted-carries net_id slot d u (length hearings) found.0 found.1 o (fits net_id slot d.activation u.frame found.1 found.2) order found.3
