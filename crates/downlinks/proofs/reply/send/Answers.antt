use Rattle.std.proofs.Common.{◌∙◌, ℕ, List, [], ◌∷◌, ◌++◌, Option, ap}
use Rattle.devices.specs.Activation.{Grants, with_down_used}
use Rattle.devices.specs.declared.Tag.{Tag}
use Rattle.devices.specs.declared.device.Device.{Device}
use Rattle.devices.specs.declared.effect.Downlink.{Downlink}
use Rattle.devices.specs.declared.effect.Effect.{Effect}
use Rattle.devices.specs.declared.effect.Effect.TheVariants.{Down}
use Rattle.devices.specs.declared.mark.SessionName.{SessionName}
use Rattle.downlinks.specs.Reply.{name_of}
use Rattle.downlinks.proofs.reply.send.Goals as goal

-- the device's record with these sessions and this awaited tag
abbrev left : Device → Option Tag → Grants → Device
left d tag g = record d { activation = g; awaited = tag }

-- the effects with one more downlink
abbrev with_down : List Effect → SessionName → ℕ → Downlink → List Effect
with_down before name counter going = before ++ (Down name counter going ∷ [])

pub returns : goal.returns
returns c =
    let d = c.args.device.now in
    let before = c.args.effects.now in
    let current = c.args.session.now.current in
    let name = name_of d current in (
      ap (left d c.awaited_by-awaited.result) c.use_down.ensures ∙ ap (λ (tag : Option Tag). left d tag (with_down_used d.activation current)) c.awaited_by-awaited.ensures,
      c.in_ok-push.ensures.ok
          ∙ (ap (λ (x : SessionName). with_down before x c.next_counter.result c.in_ok-downlink.downlink) c.name_of.ensures
          ∙ (ap (λ (n : ℕ). with_down before name n c.in_ok-downlink.downlink) c.next_counter.ensures ∙ ap (with_down before name current.next_down) c.in_ok-downlink.ensures)),
    )
