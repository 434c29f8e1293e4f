use Rattle.std.proofs.Common.{sym, ◌∙◌}
use Rattle.std.specs.Prelude.{is_ok}
use Rattle.lnsd_links.proofs.Listed.{distinct_pushed}
use Rattle.lnsd_links.proofs.name_list.NameList.add_gateway.Goals as goal

pub invariant_of-self-clause-distinct : goal.invariant_of-self-clause-distinct
invariant_of-self-clause-distinct c =
    distinct_pushed (is_ok c.push.result) c.args.gateway c.args.self.now.gateways.items c.push.new.self.items c.push.ensures.items c.args.self.now.distinct (sym c.has_gateway.ensures ∙ c.if-has_gateway.false)
