use Rattle.lw_types.specs.WordsLeft.{words_left}
use Rattle.gateway_wire.proofs.RequestFinding.{last_found}
use Rattle.gateway_wire.proofs.word_values.last_bytes.Goals as goal

pub returns-in-Some-None : goal.returns-in-Some-None
returns-in-Some-None c =
    last_found (words_left c.args.words) (words_left c.next.new.self) c.in-Some-None.word.now c.hex_bytes.result c.in-Some-None.ensures.steps c.in-Some-None.ensures'.steps.0
    c.hex_bytes.ensures.found c.hex_bytes.ensures.malformed c.hex_bytes.ensures.refused
