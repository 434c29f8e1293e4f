use Rattle.std.proofs.Common.{sym, arith, ◌∙◌}
use Rattle.dedup.proofs.Gathered.{found_newer, found_older, not_found}
use Rattle.dedup.proofs.gatherings.Gatherings.position.Goals as goal

pub returns-in-Some : goal.returns-in-Some
returns-in-Some c =
    rw (← c.self.view_is) (sym (found_older c.self.inside.older.entries c.self.inside.newer.entries c.in-Some.index _ c.args.phy_payload.now (sym c.get_index_of.ensures.index ∙ c.in-Some.is) c.get_index_of.ensures.unique (omega (arith, c.in-Some.ensures.within, c.len-older.ensures.len))))

pub returns-in_err-index : goal.returns-in_err-index
returns-in_err-index c =
    rw (← c.self.view_is) (
    c.from_residual.ensures
    ∙ sym (not_found c.self.inside.older.entries c.self.inside.newer.entries c.args.phy_payload.now (sym c.get_index_of.ensures.index ∙ c.in_default.is) (sym c.get_index_of-2.ensures.index ∙ c.in_err-index.was))
    )

pub overflow_add-result : goal.overflow_add-result
overflow_add-result c = omega (arith, c.in_ok-index.ensures.within, c.len-older.ensures.small, c.len-len.ensures.len, c.len-len.ensures.small)

pub returns : goal.returns
returns c =
    let older = c.self.inside.older.entries in
    let found = found_newer older c.self.inside.newer.entries c.in_ok-index.index c.args.phy_payload.now (sym c.get_index_of.ensures.index ∙ c.in_default.is) (sym c.get_index_of-2.ensures.index ∙ c.in_ok-index.was) in
    rw (← c.self.view_is) (rw c.len-older.ensures.len (sym found))
