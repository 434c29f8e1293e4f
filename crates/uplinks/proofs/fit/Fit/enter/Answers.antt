use Rattle.std.proofs.Common.{◌∙◌, ℕ, ap, sym}
use Rattle.devices.specs.Activation.{Grants, with_current, with_last_up}
use Rattle.devices.specs.declared.activation.CurrentSession.{CurrentSession}
use Rattle.devices.specs.declared.activation.Session.{Session}
use Rattle.devices.specs.declared.device.Device.{Device}
use Rattle.uplinks.specs.Accepted.{with_uplink}
use Rattle.uplinks.proofs.fit.Fit.enter.Goals as goal

abbrev with_sessions : Device → Grants → Device
with_sessions d g = record d { activation = g }

-- the pending session becomes the current one
abbrev begun : Session → ℕ → Device → Device
begun s counter d = with_sessions d (with_current d.activation s counter)

-- the current session has this last uplink
abbrev advanced : CurrentSession → ℕ → Device → Device
advanced s counter d = with_sessions d (with_last_up d.activation s counter)

pub returns-in-First : goal.returns-in-First
returns-in-First c =
    ap (with_sessions c.hear_one_more.new.self) c.begin.ensures
    ∙ (ap (begun c.in-First.session c.in-First.counter) c.hear_one_more.ensures ∙ ap (with_uplink c.args.device.now) (sym c.in-First.is))

pub returns-in-Next : goal.returns-in-Next
returns-in-Next c =
    ap (with_sessions c.hear_one_more-in-Next.new.self) c.advance.ensures
    ∙ (ap (advanced c.in-Next.session c.in-Next.counter) c.hear_one_more-in-Next.ensures ∙ ap (with_uplink c.args.device.now) (sym c.in-Next.is))

pub returns-in-Again : goal.returns-in-Again
returns-in-Again c = ap (with_uplink c.args.device.now) (sym c.in-Again.is)
