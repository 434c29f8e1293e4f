use Rattle.std.proofs.Common.{◌||◌, ◌==◌, ◌∙◌, Bool, ℕ, ap, sym}
use Rattle.std.proofs.lemmas.List.Folds.{list_any-append}
use Rattle.region_eu868.specs.Region.{channels, first_channels, is_among, later_channels}
use Rattle.region_eu868.proofs.Among.{tested_among}
use Rattle.region_eu868.proofs.is_channel.Goals as goal

pub returns-else-is_first_channel-clause-contained :
    goal.returns-else-is_first_channel-clause-contained
returns-else-is_first_channel-clause-contained c =
    let f = c.args.frequency in
    let not_first = sym c.is_first_channel.ensures.tested ∙ c.if-is_first_channel.false in
    let either = list_any-append (λ (k : ℕ). f == k) first_channels later_channels in
    tested_among c.is_later_channel.result channels f
    (c.is_later_channel.ensures ∙ (ap (λ (b : Bool). b || is_among later_channels f) (sym not_first) ∙ sym either))
