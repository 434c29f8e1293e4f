use Rattle.std.proofs.Common.{◌≡◌, ◌<◌, ◌≤◌, ◌∷◌, ◌++◌, [], false, length, ap, ◌∙◌, arith, ℕ, List}
use Rattle.std.specs.Prelude.{All}
use Rattle.std.proofs.lemmas.List.Elements.{All-weaker}
use Rattle.devices.specs.declared.heard.Hearing.{Hearing}
use Rattle.dedup.specs.declared.TheConstants.{MOST_WINDOWS}
use Rattle.dedup.specs.Windows.{is_due, Window}
use Rattle.dedup.proofs.Keeping.{kept_opened, opened_answers}
use Rattle.dedup.proofs.windows.Windows.open_window.Goals as goal

abbrev new_window : ℕ → List ℕ → List Hearing → Window
new_window now bytes hearings = record { opened = now; phy_payload = bytes; hearings = hearings }

-- the windows are those before and the new one
put : (c : goal.In_ok-push) → c.push.new.self ≡ c.self.inside.gatherings ++ new_window c.args.now c.args.phy_payload (c.args.hearing ∷ []) ∷ []
put c =
    c.in_ok-push.ensures.pushed
    ∙ ap (λ hearings. c.self.inside.gatherings ++ new_window c.args.now c.args.phy_payload hearings ∷ []) c.in_ok-hearings.ensures

room : (c : goal.In_ok-push) → length c.self.inside.gatherings < MOST_WINDOWS
room c = omega (arith, c.len.ensures)

pub invariant_of-self-2 : goal.invariant_of-self-2
invariant_of-self-2 c =
    let ws : List Window = c.self.inside.gatherings in
    let before : All (λ w. w.opened ≤ c.args.now) ws = All-weaker (λ w. (w.opened ≤ c.args.now) × (is_due c.args.now w ≡ false)) (λ w. w.opened ≤ c.args.now) (λ w h. h.0) ws (rw c.self.view_is c.requires.current) in
    rw (put c) (kept_opened ws (new_window c.args.now c.args.phy_payload (c.args.hearing ∷ [])) c.self.invariant (room c) before)

pub returns-clause-opened : goal.returns-clause-opened
returns-clause-opened c =
    rw (← c.self.view_is) (opened_answers c.self.inside.gatherings c.args.now c.args.phy_payload c.args.hearing c.push.new.self (room c) (put c))
