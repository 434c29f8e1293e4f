use Rattle.std.proofs.Common.{◌∙◌, ap}
use Rattle.frame_crypt.specs.Joins.{sealed_accept}
use Rattle.join_server.proofs.server.accept_for.Goals as goal

pub returns : goal.returns
returns c = c.seal_accept.ensures ∙ ap (sealed_accept c.args.key.now.0) c.fields-frame.ensures
