use Rattle.std.proofs.Common.{◌∷◌}
use Rattle.lw_types.specs.WordsLeft.{words_left}
use Rattle.gateway_wire.proofs.RequestFinding.{OneText, found_of, malformed_of, only_of, refused_of}
use Rattle.gateway_wire.proofs.request.read_request.Goals as goal
use Rattle.gateway_wire.proofs.request.read_request.Goals.{After-find_request}

one_text : (c : After-find_request) → OneText
one_text c =
    let texts = c.each_text_is_of_one_value.ensures in
    record {
      euis = texts.euis;
      keys = texts.keys;
      fields = texts.fields;
      decimals = texts.decimals;
    }

pub returns-clause-found : goal.returns-clause-found
returns-clause-found c = found_of (c.args.name.now ∷ words_left c.args.fields) c.find_request.result c.find_request.ensures

pub returns-clause-only : goal.returns-clause-only
returns-clause-only c = only_of (one_text c) (c.args.name.now ∷ words_left c.args.fields) c.find_request.result c.find_request.ensures

pub returns-clause-malformed : goal.returns-clause-malformed
returns-clause-malformed c = malformed_of (c.args.name.now ∷ words_left c.args.fields) c.find_request.result c.find_request.ensures

pub returns-clause-refused : goal.returns-clause-refused
returns-clause-refused c = refused_of (c.args.name.now ∷ words_left c.args.fields) c.find_request.result c.find_request.ensures
