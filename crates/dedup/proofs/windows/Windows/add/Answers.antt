use Rattle.std.proofs.Common.{◌≡◌, false, sym, ◌∙◌}
use Rattle.std.specs.List.{list_any}
use Rattle.dedup.specs.Windows.{hearing_of, is_of}
use Rattle.dedup.proofs.Keeping.{added_joins, added_opens, kept_joined}
use Rattle.dedup.proofs.Places.{first_from_position, first_within, none_from_position}
use Rattle.dedup.proofs.windows.Windows.add.Goals as goal

pub join-requires-clause-there : goal.join-requires-clause-there
join-requires-clause-there c =
    let bytes = c.args.copy.phy_payload in
    first_within bytes c.self.inside.gatherings c.in-Some.index (first_from_position bytes c.self.inside.gatherings c.in-Some.index (sym c.position.ensures ∙ c.in-Some.is))

pub invariant_of-self : goal.invariant_of-self
invariant_of-self c =
    let bytes = c.args.copy.phy_payload in
    let there = first_within bytes c.self.inside.gatherings c.in-Some.index (first_from_position bytes c.self.inside.gatherings c.in-Some.index (sym c.position.ensures ∙ c.in-Some.is)) in
    kept_joined c.self.inside.gatherings c.join.new.self c.in-Some.index (hearing_of c.args.copy) c.join.result there c.self.invariant c.join.ensures.joined c.join.ensures.same

pub open_window-requires-clause-none : goal.open_window-requires-clause-none
open_window-requires-clause-none c =
    rw (← c.self.view_is) (none_from_position c.args.copy.phy_payload c.self.inside.gatherings (sym c.position.ensures ∙ c.in-None.is))

pub returns-in-Some-clause-added : goal.returns-in-Some-clause-added
returns-in-Some-clause-added c =
    let joins = added_joins c.self.inside.gatherings c.args.now c.args.copy c.in-Some.index (sym c.position.ensures ∙ c.in-Some.is) in
    rw (← c.self.view_is) (rw joins c.join.ensures.joined)

pub returns-in-None-clause-added : goal.returns-in-None-clause-added
returns-in-None-clause-added c =
    let absent = none_from_position c.args.copy.phy_payload c.self.inside.gatherings (sym c.position.ensures ∙ c.in-None.is) in
    let none : list_any (is_of c.args.copy.phy_payload) c.args.self.now ≡ false = rw (← c.self.view_is) absent in
    rw (added_opens c.args.self.now c.args.now c.args.copy none) c.open_window.ensures.opened
