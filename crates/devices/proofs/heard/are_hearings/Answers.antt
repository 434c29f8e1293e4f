use Rattle.std.proofs.Common.{◌≡◌, ◌==◌, false, length, sym, ◌∙◌, arith}
use Rattle.std.proofs.lemmas.Bool.Decides.{nat_tests}
use Rattle.devices.proofs.heard.are_hearings.Goals as goal

pub returns : goal.returns
returns c =
    let some : (length c.args.hearings.now == 0) ≡ false = sym c.is_empty.ensures ∙ c.if-is_empty.false in
    (λ yes. record { some = grind (arith, nat_tests); few = omega arith; receivable = c.are_receivable.ensures.0 c.if-not-are_receivable.false; apart = c.are_apart.ensures.0 yes }, λ h. c.are_apart.ensures.1 h.apart)
