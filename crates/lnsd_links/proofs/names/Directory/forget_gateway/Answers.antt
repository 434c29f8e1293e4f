use Rattle.std.proofs.Common.{rules, ◌≡◌, ◌∙◌, ap}
use Rattle.std.specs.List.{filter}
use Rattle.std.proofs.lemmas.Fn.{filter_same}
use Rattle.lnsd_links.specs.Linked.{gateway_link, is_link_of_other}
use Rattle.lnsd_links.proofs.Links.{forgotten, forgotten_fewer, kept_link}
use Rattle.lnsd_links.proofs.names.Directory.forget_gateway.Goals as goal

pub returns-clause-none : goal.returns-clause-none
returns-clause-none c =
    let kept : c.retain.new.self.items ≡ filter (is_link_of_other c.args.gateway) c.args.self.now.gateways.items =
    filter_same _ _ _ (λ x b f' k. search rules) _ _ c.retain.ensures.filtered in
    ap (gateway_link c.args.gateway) kept ∙ forgotten c.args.gateway c.args.self.now.gateways.items

pub returns-clause-others : goal.returns-clause-others
returns-clause-others c other differs =
    let kept : c.retain.new.self.items ≡ filter (is_link_of_other c.args.gateway) c.args.self.now.gateways.items =
    filter_same _ _ _ (λ x b f' k. search rules) _ _ c.retain.ensures.filtered in
    ap (gateway_link other) kept ∙ kept_link c.args.gateway other differs c.args.self.now.gateways.items

pub returns-clause-fewer : goal.returns-clause-fewer
returns-clause-fewer c some =
    let kept : c.retain.new.self.items ≡ filter (is_link_of_other c.args.gateway) c.args.self.now.gateways.items =
    filter_same _ _ _ (λ x b f' k. search rules) _ _ c.retain.ensures.filtered in
    rw kept (forgotten_fewer c.args.gateway c.args.self.now.gateways.items some)
