use Rattle.std.proofs.Common.{rules}
use Rattle.lnsd_links.proofs.Links.{named}
use Rattle.lnsd_links.proofs.names.Directory.take_over_gateway.Goals as goal

pub returns-in-Ok-clause-named : goal.returns-in-Ok-clause-named
returns-in-Ok-clause-named c = (
  c.gateway_link-was.ensures,
  named c.args.self.now _ c.args.gateway c.args.link c.forget_gateway.new.self.gateways.items c.forget_gateway.ensures.none c.forget_gateway.ensures.others (search rules) c.forget_gateway.ensures.applications c.forget_gateway.ensures.rings c.forget_gateway.ensures.listed,
)
