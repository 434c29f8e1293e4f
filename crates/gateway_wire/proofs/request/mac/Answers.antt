use Rattle.std.proofs.Common.{Err}
use Rattle.lw_types.specs.WordsLeft.{words_left}
use Rattle.gateway_wire.proofs.RequestFinding.{mac_found}
use Rattle.gateway_wire.proofs.request.mac.Goals as goal

pub returns-in-Err : goal.returns-in-Err
returns-in-Err c =
    mac_found (words_left c.args.fields) (words_left c.next_value.new.words) c.in-Some.dev_eui (Err c.in-Err.e) c.in-Some.ensures.value c.in-Some.ensures.found
    (λ dev_eui rest range is. (c.next_value.ensures.only dev_eui rest range is).1) c.in-Err.ensures
