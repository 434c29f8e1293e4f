use Rattle.std.proofs.Common.{◌≡◌, ◌∙◌, ℕ, Bool, List, [], ◌++◌, append_assoc, Result, Ok, Err, MatchResult, ap, subst}
use Rattle.lw_types.specs.declared.refusal.Refusal.{Refusal}
use Rattle.lw_types.specs.declared.refusal.Refusal.TheVariants.{OutOfMemory}
use Rattle.devices.specs.declared.activation.CurrentSession.{CurrentSession}
use Rattle.devices.specs.declared.device.Device.{Device}
use Rattle.devices.specs.declared.effect.Effect.{Effect}
use Rattle.devices.specs.declared.heard.Hearing.{Hearing}
use Rattle.devices.specs.DeviceStep.{DeviceStep, device_step}
use Rattle.downlinks.specs.declared.load.Demand.{Demand}
use Rattle.downlinks.specs.declared.reply.SessionAt.{SessionAt}
use Rattle.downlinks.specs.Reply.{answer_step}
use Rattle.mac_commands.specs.Reading.{asks_link_check, reported_bytes}
use Rattle.uplinks.specs.declared.uplink.Uplink.{Uplink}
use Rattle.uplinks.specs.Accepted.{is_acknowledgement, demand_of, sent_commands, forward_effects, mac_report, awaited_report, with_effects, with_uplink}
use Rattle.uplinks.proofs.arrival.NetworkSlot.accept_uplink.Goals as goal

-- the call left these, or ran out of memory
abbrev Leaves : Result (Unit {0}) Refusal → Device → List Effect → DeviceStep → Type 0
Leaves r d effects o = MatchResult r (λ _. (d ≡ o.device) × (effects ≡ o.effects)) (λ e. e ≡ OutOfMemory)

-- the reports before the answer come before its effects
after : (r : Result (Unit {0}) Refusal) (d : Device) (effects before told : List Effect) (o wanted : DeviceStep) → before ≡ told → o ≡ wanted
    → Leaves r d effects (device_step o.device (before ++ o.effects)) → Leaves r d effects (with_effects told wanted)
after (Ok _) d effects before told o wanted same is h =
    (h.0 ∙ ap (λ (w : DeviceStep). w.device) is, h.1 ∙ (ap (λ (l : List Effect). l ++ o.effects) same ∙ ap (λ (w : DeviceStep). told ++ w.effects) is))
after (Err e) d effects before told o wanted same is h = h

-- the reports are made in three steps
in_order : (a b d before told more handed : List Effect) → before ≡ [] → told ≡ before ++ a → more ≡ told ++ b → handed ≡ more ++ d → handed ≡ a ++ (b ++ d)
in_order a b d before told more handed none first second third =
    let all : handed ≡ (a ++ b) ++ d = cc in
    all ∙ append_assoc a b d

-- what the uplink with these commands asks
abbrev asking : Uplink → ℕ → Hearing → List ℕ → Demand
asking u copies best commands =
    record { confirmed = u.frame.confirmed; adr_ack_req = u.adr_ack_req; link_check = asks_link_check commands; best = best; copies = copies }

pub returns : goal.returns
returns c =
    let place = c.args.self.now in
    let d = c.args.device.now in
    let u = c.args.heard.now.uplink.now in
    let fit = c.args.fit in
    let s = c.session_after-session.result in
    let reach = c.args.heard.now in
    let commands : c.as_slice.result.now ≡ sent_commands s u = c.as_slice.ensures.bytes ∙ c.in_ok-commands.ensures in
    let again : c.as_slice-2.result.now ≡ sent_commands s u = c.as_slice-2.ensures.bytes ∙ c.in_ok-commands.ensures in
    let asked : c.demand_of-asked.result ≡ demand_of s u reach.copies reach.best = c.demand_of-asked.ensures ∙ ap (asking u reach.copies reach.best) commands in
    let awaited : c.tell_awaited.new.effects ≡ c.args.effects.now ++ awaited_report d (is_acknowledgement fit u) d.awaited =
    c.in_ok-tell_awaited.ensures.told ∙ ap (λ (b : Bool). c.args.effects.now ++ awaited_report d b d.awaited) c.acknowledges.ensures in
    let reported : c.report_commands.new.effects ≡ c.tell_awaited.new.effects ++ mac_report d s (reported_bytes (sent_commands s u)) =
    c.in_ok-report_commands.ensures.told ∙ ap (λ (b : List ℕ). c.tell_awaited.new.effects ++ mac_report d s (reported_bytes b)) again in
    let told = in_order (awaited_report d (is_acknowledgement fit u) d.awaited) (mac_report d s (reported_bytes (sent_commands s u))) (forward_effects u.frame.dev_addr d s reach.copies reach.best u.frame.contents.port_payload)
    c.args.effects.now c.tell_awaited.new.effects c.report_commands.new.effects c.forward.new.effects c.requires.none awaited reported c.in_ok-forward.ensures.told in
    let same : answer_step place.net_id place.slot c.enter.new.device s c.demand_of-asked.result ≡ answer_step place.net_id place.slot (with_uplink d fit) s (demand_of s u reach.copies reach.best) =
    ap (λ (x : Device). answer_step place.net_id place.slot x s c.demand_of-asked.result) c.enter.ensures ∙ ap (answer_step place.net_id place.slot (with_uplink d fit) s) asked in
    let answered =
    subst (λ (p : SessionAt). Leaves c.answer.result c.answer.new.device c.answer.new.effects
    (let o = answer_step p.net_id p.slot c.enter.new.device p.current c.demand_of-asked.result in device_step o.device (c.forward.new.effects ++ o.effects)))
    c.session-place.ensures c.answer.ensures in
    subst (λ (s : CurrentSession). Leaves c.answer.result c.answer.new.device c.answer.new.effects
    (with_effects (awaited_report d (is_acknowledgement fit u) d.awaited ++ (mac_report d s (reported_bytes (sent_commands s u)) ++ forward_effects u.frame.dev_addr d s reach.copies reach.best u.frame.contents.port_payload))
    (answer_step place.net_id place.slot (with_uplink d fit) s (demand_of s u reach.copies reach.best)))) c.session_after-session.ensures
    (after c.answer.result c.answer.new.device c.answer.new.effects c.forward.new.effects _ (answer_step place.net_id place.slot c.enter.new.device s c.demand_of-asked.result) _ told same answered)
