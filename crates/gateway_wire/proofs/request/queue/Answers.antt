use Rattle.std.proofs.Common.{Err}
use Rattle.lw_types.specs.WordsLeft.{words_left}
use Rattle.gateway_wire.proofs.RequestFinding.{item_found}
use Rattle.gateway_wire.proofs.request.queue.Goals as goal

pub returns-in-Err : goal.returns-in-Err
returns-in-Err c =
    item_found (words_left c.args.fields) (words_left c.item_fields.new.fields) c.in-Some.dev_eui c.in-Some.tag c.in-Some.port c.in-Some.confirmed (Err c.in-Err.e)
    c.in-Some.ensures.found.0 c.in-Some.ensures.found.1 (λ dev_eui tag port confirmed rest h is. (c.item_fields.ensures.only dev_eui tag port confirmed rest h is).1) c.in-Err.ensures
