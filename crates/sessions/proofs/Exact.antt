-- An exact answer for a device is one for its table.
use Rattle.std.proofs.Common.{◌≡◌, ◌∙◌, ℕ, List, Option, Result, Ok, Err, refl, sym, ap, subst}
use Rattle.lw_types.specs.Answer.{Answers}
use Rattle.lw_types.specs.declared.refusal.Refusal.{Refusal}
use Rattle.devices.specs.DeviceStep.{IsDeviceStep, DeviceStep}
use Rattle.devices.specs.declared.device.Device.{Device}
use Rattle.devices.specs.declared.effect.Effect.{Effect}
use Rattle.uplinks.specs.Chain.{◌>>=◌}
use Rattle.sessions.specs.Decision.{IsStepped}
use Rattle.sessions.specs.Table.{TableStep, step_at}
use Rattle.sessions.specs.declared.table.decide.Stepped.{Stepped}
use Rattle.sessions.proofs.JoinTexts.{exact-found}

-- what the device does, at its slot
abbrev at_slot : ℕ → Option Device → Result DeviceStep Refusal → Result TableStep Refusal
at_slot slot before wanted = wanted >>= λ o. Ok (step_at slot before o)

pub exact-ok : (wanted : Result DeviceStep Refusal) (slot : ℕ) (before : Option Device) (found : Device × List Effect) (step : Result TableStep Refusal)
    → step ≡ at_slot slot before wanted → Answers wanted IsDeviceStep (Ok found)
    → Answers step IsStepped (Ok (record { slot = slot; after = found.0; effects = found.1 }))
exact-ok wanted slot before found step is answer =
    let out = exact-found wanted IsDeviceStep found answer in
    let stepped : Stepped = record { slot = slot; after = found.0; effects = found.1 } in
    subst (λ (w : Result TableStep Refusal). Answers w IsStepped (Ok stepped)) (sym (is ∙ ap (at_slot slot before) out.1))
    (record { slot = refl; after = out.2.0; effects = out.2.1 })

same_refusal : (e f : Refusal) → ◌≡◌ {A = Result (Device × List Effect) Refusal} (Err e) (Err f) → ◌≡◌ {A = Result Stepped Refusal} (Err e) (Err f)
same_refusal e f h = let same : e ≡ f = cc in ap Err same

refused_at : (wanted : Result DeviceStep Refusal) (slot : ℕ) (before : Option Device) (e : Refusal) → Answers {B = Device × List Effect} wanted IsDeviceStep (Err e)
    → Answers {B = Stepped} (at_slot slot before wanted) IsStepped (Err e)
refused_at (Ok o) slot before e none = none
refused_at (Err f) slot before e refused = same_refusal e f refused

pub exact-refused : (wanted : Result DeviceStep Refusal) (slot : ℕ) (before : Option Device) (e : Refusal) (step : Result TableStep Refusal)
    → step ≡ at_slot slot before wanted → Answers {B = Device × List Effect} wanted IsDeviceStep (Err e) → Answers {B = Stepped} step IsStepped (Err e)
exact-refused wanted slot before e step is answer =
    subst (λ (w : Result TableStep Refusal). Answers {B = Stepped} w IsStepped (Err e)) (sym is) (refused_at wanted slot before e answer)
