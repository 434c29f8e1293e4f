use Rattle.std.proofs.Common.{◌≡◌, ◌∙◌, ◌^◌, ◌==◌, ℕ, Bool, true, false, if◌then◌else◌, List, [], ◌++◌, Option, Result, MatchResult, ap, refl, subst, sym}
use Rattle.lw_types.specs.declared.identifiers.DevAddr.{DevAddr}
use Rattle.lw_types.specs.declared.refusal.Refusal.{Refusal}
use Rattle.lw_types.specs.declared.refusal.Refusal.TheVariants.{OutOfMemory}
use Rattle.devices.specs.DeviceStep.{DeviceStep, device_step, report_effects}
use Rattle.devices.specs.declared.activation.CurrentSession.{CurrentSession}
use Rattle.devices.specs.declared.device.Device.{Device}
use Rattle.devices.specs.declared.effect.Effect.{Effect}
use Rattle.devices.specs.declared.effect.Report.TheVariants.{Spent}
use Rattle.devices.specs.declared.queue.Item.{Item}
use Rattle.downlinks.specs.declared.load.Demand.{Demand}
use Rattle.downlinks.specs.Frame.{DownlinkFields}
use Rattle.downlinks.specs.Load.{f_opts_of, is_downlink_due, fitting_item, without_load}
use Rattle.downlinks.specs.Reply.{address, answer_step, downlink_fields, more_waits, sending_step}
use Rattle.downlinks.proofs.reply.answer.Goals as goal

-- the call left these, or ran out of memory
abbrev Leaves : Result (Unit {0}) Refusal → Device → List Effect → List Effect → DeviceStep → Type 0
Leaves r d before effects o = MatchResult r (λ _. (d ≡ o.device) × (effects ≡ before ++ o.effects)) (λ e. e ≡ OutOfMemory)

-- if a downlink is due and a counter is left, these fields are the answer
is_sent : (net_id slot : ℕ) (d left : Device) (c : CurrentSession) (asked : Demand) (addr : DevAddr) (opts : List ℕ) (going : Option Item) (pending : Bool)
    → is_downlink_due d asked ≡ true → (c.next_down == 2 ^ 32) ≡ false → opts ≡ f_opts_of d asked → going ≡ fitting_item d asked → left ≡ without_load d asked → pending ≡ more_waits left
    → addr ≡ address net_id slot c → sending_step addr left c asked.best (downlink_fields opts going asked.confirmed pending) ≡ answer_step net_id slot d c asked
is_sent net_id slot d left c asked addr opts going pending due unspent opts-is going-is left-is pending-is addr-is =
    let goes : DownlinkFields = downlink_fields (f_opts_of d asked) (fitting_item d asked) asked.confirmed (more_waits (without_load d asked)) in
    let reply : DeviceStep = sending_step (address net_id slot c) (without_load d asked) c asked.best goes in
    let pends : pending ≡ more_waits (without_load d asked) = pending-is ∙ ap more_waits left-is in
    let same : downlink_fields opts going asked.confirmed pending ≡ goes =
    ap (λ (x : List ℕ). downlink_fields x going asked.confirmed pending) opts-is
    ∙ (ap (λ (x : Option Item). downlink_fields (f_opts_of d asked) x asked.confirmed pending) going-is ∙ ap (downlink_fields (f_opts_of d asked) (fitting_item d asked) asked.confirmed) pends) in
    ap (λ (x : DevAddr). sending_step x left c asked.best (downlink_fields opts going asked.confirmed pending)) addr-is
    ∙ (ap (λ (x : Device). sending_step (address net_id slot c) x c asked.best (downlink_fields opts going asked.confirmed pending)) left-is
    ∙ (ap (sending_step (address net_id slot c) (without_load d asked) c asked.best) same
    ∙ (ap (λ (b : Bool). if b then device_step d (report_effects d (Spent c.session.join_nonce)) else reply) (sym unspent)
    ∙ ap (λ (b : Bool). if b then (if c.next_down == 2 ^ 32 then device_step d (report_effects d (Spent c.session.join_nonce)) else reply) else device_step d []) (sym due))))

pub returns : goal.returns
returns c =
    let s = c.args.session.now in
    let loaded = c.in_ok-f_opts.ensures.load in
    subst (Leaves c.send.result c.send.new.device c.args.effects.now c.send.new.effects)
    (is_sent s.net_id s.slot c.args.device.now c.take.new.device s.current c.args.asked.now (address s.net_id s.slot s.current) _ _ c.more_waits-f_pending.result
    (sym c.is_downlink_due.ensures ∙ c.if-not-is_downlink_due.false) (sym c.is_spent.ensures.value ∙ c.if-is_spent.false) loaded.0 loaded.1 loaded.2 c.more_waits-f_pending.ensures refl)
    c.send.ensures
