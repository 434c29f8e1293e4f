use Rattle.std.proofs.Common.{◌∙◌, nat_eq, Bool, cond, Ok, Err, ap}
use Rattle.std.proofs.lemmas.Cmp.{nat_eq_equiv}
use Rattle.std.proofs.lemmas.Map.Views.{list_any-from_Contains}
use Rattle.lw_types.specs.declared.refusal.Refusal.TheVariants.{UnknownChannel}
use Rattle.devices.specs.Channels.{channels_of, may_use}
use Rattle.devices.specs.declared.channels.Channels.{Channels}
use Rattle.devices.specs.declared.channels.Channels.TheVariants.{Eight}
use Rattle.uplinks.proofs.laws.eight_channels_are_all.Goals as goal

pub returns : goal.returns
returns c best fit heard eight =
    let f = best.reception.frequency in
    ap (λ (b : Bool). cond b (Ok fit) (Err UnknownChannel))
    (ap (λ (given : Channels). may_use given f) eight ∙ list_any-from_Contains {eq = nat_eq} nat_eq_equiv f (channels_of Eight) heard.0)
