use Rattle.std.proofs.Common.{◌≡◌, ℕ, List, Result, MatchResult, subst, sym}
use Rattle.lw_types.specs.Answer.{Answers}
use Rattle.lw_types.specs.declared.refusal.Refusal.{Refusal}
use Rattle.lw_types.specs.declared.refusal.Refusal.TheVariants.{OutOfMemory}
use Rattle.devices.specs.DeviceStep.{IsDeviceStep}
use Rattle.devices.specs.declared.activation.CurrentSession.{CurrentSession}
use Rattle.devices.specs.declared.activation.Session.{Session}
use Rattle.devices.specs.declared.device.Device.{Device}
use Rattle.devices.specs.declared.effect.Effect.{Effect}
use Rattle.devices.specs.declared.heard.Hearing.{Hearing}
use Rattle.uplinks.specs.Accepted.{uplink_step}
use Rattle.uplinks.specs.Step.{step_in_session}
use Rattle.uplinks.specs.declared.fit.Fit.{Fit}
use Rattle.uplinks.specs.declared.fit.Fit.TheVariants.{First, Next}
use Rattle.uplinks.specs.declared.uplink.Uplink.{Uplink}
use Rattle.uplinks.proofs.arrival.NetworkSlot.enter.Goals as goal

-- the uplink was taken, or memory ran out
abbrev Takes : ℕ → ℕ → Device → Uplink → ℕ → Hearing → Result (Device × List Effect) Refusal → Fit → Type 0
Takes net_id slot d u copies best r fit = MatchResult r (IsDeviceStep (uplink_step net_id slot d fit u copies best)) (λ e. e ≡ OutOfMemory)

abbrev Enters : ℕ → ℕ → Device → Uplink → ℕ → Hearing → Result (Device × List Effect) Refusal → Fit → Type 0
Enters net_id slot d u copies best r fit = Answers (step_in_session net_id slot d u copies best fit) IsDeviceStep r

in-first : (net_id slot : ℕ) (d : Device) (u : Uplink) (copies : ℕ) (best : Hearing) (r : Result (Device × List Effect) Refusal) (fit : Fit) (s : Session) (counter : ℕ)
    → fit ≡ First s counter → Takes net_id slot d u copies best r fit → Enters net_id slot d u copies best r fit
in-first net_id slot d u copies best r fit s counter is h =
    subst (Enters net_id slot d u copies best r) (sym is) (subst (Takes net_id slot d u copies best r) is h)

in-next : (net_id slot : ℕ) (d : Device) (u : Uplink) (copies : ℕ) (best : Hearing) (r : Result (Device × List Effect) Refusal) (fit : Fit) (s : CurrentSession) (counter : ℕ)
    → fit ≡ Next s counter → Takes net_id slot d u copies best r fit → Enters net_id slot d u copies best r fit
in-next net_id slot d u copies best r fit s counter is h =
    subst (Enters net_id slot d u copies best r) (sym is) (subst (Takes net_id slot d u copies best r) is h)

pub returns-in-First : goal.returns-in-First
returns-in-First c = in-first c.args.self.now.net_id c.args.self.now.slot c.args.device.now c.args.heard.now.uplink.now c.args.heard.now.copies c.args.heard.now.best c.take_new.result c.args.fit c.in-First.session c.in-First.counter c.in-First.is c.take_new.ensures

pub returns-in-Next : goal.returns-in-Next
returns-in-Next c = in-next c.args.self.now.net_id c.args.self.now.slot c.args.device.now c.args.heard.now.uplink.now c.args.heard.now.copies c.args.heard.now.best c.take_new-in-Next.result c.args.fit c.in-Next.session c.in-Next.counter c.in-Next.is c.take_new-in-Next.ensures
