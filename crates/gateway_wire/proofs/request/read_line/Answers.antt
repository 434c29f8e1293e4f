use Rattle.std.proofs.Common.{◌≡◌, ◌∷◌, ap, sym, ◌∙◌, refl}
use Rattle.lw_types.specs.Words.{line_of}
use Rattle.lw_types.specs.WordsLeft.{words_left}
use Rattle.gateway_wire.specs.declared.request.Request.{Request}
use Rattle.gateway_wire.specs.Request.{IsRequestInRange, request_line, request_words}
use Rattle.gateway_wire.proofs.RequestLines.{Texts, has_words, read_back, request_line_words}
use Rattle.gateway_wire.proofs.request.read_line.Goals as goal
use Rattle.gateway_wire.proofs.request.read_line.Goals.{In-None, After-read_request}

line_is : (c : After-read_request) → line_of (c.in-Some.name.now ∷ words_left c.next.new.self) ≡ c.args.line.now
line_is c =
    sym (ap line_of (sym c.of-words.ensures ∙ c.in-Some.ensures.steps)) ∙ c.a_line_is_its_words.ensures.line c.args.line.now

texts : (c : After-read_request) → Texts
texts c =
    record {
      words = c.a_line_is_its_words.ensures.words;
      euis = c.each_text_is_a_word.ensures.euis;
      keys = c.each_text_is_a_word.ensures.keys;
      fields = c.each_text_is_a_word.ensures.fields;
      decimals = c.each_text_is_a_word.ensures.decimals;
    }

words_are : (c : After-read_request) (r : Request) → IsRequestInRange r → c.args.line.now ≡ request_line r
    → c.in-Some.name.now ∷ words_left c.next.new.self ≡ request_words r
words_are c r ranges is =
    sym c.in-Some.ensures.steps ∙ (c.of-words.ensures ∙ request_line_words (texts c) c.args.line.now r ranges is)

pub returns-in-Some-clause-found : goal.returns-in-Some-clause-found
returns-in-Some-clause-found c =
    read_back c.read_request.result _ c.args.line.now (line_is c) c.read_request.ensures.found

pub returns-in-Some-clause-only : goal.returns-in-Some-clause-only
returns-in-Some-clause-only c r ranges is = c.read_request.ensures.only r ranges (words_are c r ranges is)

pub returns-in-Some-clause-malformed : goal.returns-in-Some-clause-malformed
returns-in-Some-clause-malformed c =
    let both = c.read_request.ensures.malformed in (
      (λ bad line. both.0 bad (line.0, line.1, words_are c line.0 line.1 line.2)),
      (λ none. both.1 (λ words. none (words.0, words.1, sym (line_is c) ∙ ap line_of words.2))),
    )

-- a line has words
some_words : (c : In-None) (r : Request) → IsRequestInRange r → c.args.line.now ≡ request_line r → ⊥
some_words c r ranges is =
    let texts : Texts =
    record {
      words = c.a_line_is_its_words.ensures.words;
      euis = c.each_text_is_a_word.ensures.euis;
      keys = c.each_text_is_a_word.ensures.keys;
      fields = c.each_text_is_a_word.ensures.fields;
      decimals = c.each_text_is_a_word.ensures.decimals;
    } in
    has_words r (sym c.in-None.ensures.steps.0 ∙ (c.of-words.ensures ∙ request_line_words texts c.args.line.now r ranges is))

pub returns-in-None-clause-only : goal.returns-in-None-clause-only
returns-in-None-clause-only c r ranges is = absurd (some_words c r ranges is)

pub returns-in-None-clause-malformed : goal.returns-in-None-clause-malformed
returns-in-None-clause-malformed c = ((λ bad line. some_words c line.0 line.1 line.2), (λ none. refl))
