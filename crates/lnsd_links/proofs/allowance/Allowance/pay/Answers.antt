use Rattle.std.proofs.Common.{arith}
use Rattle.lnsd_links.proofs.Rates.{first_moment}
use Rattle.lnsd_links.proofs.allowance.Allowance.pay.Goals as goal

pub returns-then-level-price-clause-first : goal.returns-then-level-price-clause-first
returns-then-level-price-clause-first c early =
    first_moment c.args.copies c.saturating_mul-price.result c.args.now c.moment_of.result c.args.self.now c.moment_of.ensures.rate
    (omega (arith, c.saturating_mul-price.ensures)) (λ small. omega (arith, c.saturating_mul-price.ensures, c.moment_of.ensures.burst, small))
    (rw c.level_at-level.ensures.value at c.if-level-price.true) (omega (arith, c.moment_of.ensures.moment, early))
