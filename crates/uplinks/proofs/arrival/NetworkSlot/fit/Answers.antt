use Rattle.std.proofs.Common.{◌≡◌, ◌∙◌, Option, ap}
use Rattle.devices.specs.declared.activation.CurrentSession.{CurrentSession}
use Rattle.devices.specs.declared.activation.Session.{Session}
use Rattle.uplinks.specs.Fit.{fit_of, later_trial, try_current, try_pending, verdict}
use Rattle.uplinks.specs.declared.fit.Trial.{Trial}
use Rattle.uplinks.proofs.Fits.{if_fit_is}
use Rattle.uplinks.proofs.arrival.NetworkSlot.fit.Goals as goal

pub returns : goal.returns
returns c =
    let place = c.args.self.now in
    let g = c.args.activation.now in
    let frame = c.args.frame.now in
    let first : c.try_pending-first.result ≡ try_pending place.net_id place.slot g.pending frame =
    c.try_pending-first.ensures ∙ ap (λ (s : Option Session). try_pending place.net_id place.slot s frame) c.pending-waiting.ensures in
    let next : c.try_current-next.result ≡ try_current place.net_id place.slot g.current frame =
    c.try_current-next.ensures ∙ ap (λ (s : Option CurrentSession). try_current place.net_id place.slot s frame) c.current-current.ensures in
    let both = c.later_trial.ensures ∙ (ap (λ (t : Trial). later_trial t c.try_current-next.result) first ∙ ap (later_trial (try_pending place.net_id place.slot g.pending frame)) next) in
    let value : c.verdict.result ≡ fit_of place.net_id place.slot g frame = c.verdict.ensures ∙ ap verdict both in
    record { value = value; of_device = if_fit_is g (c.a_fit_is_of_its_device.ensures place.net_id place.slot g frame) c.verdict.result value }
