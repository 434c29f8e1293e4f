use Rattle.lw_types.proofs.Lines.{line_of-words_of, words_of-line_of}
use Rattle.lw_types.proofs.laws.a_line_is_its_words.Goals as goal

pub returns-clause-line : goal.returns-clause-line
returns-clause-line c = line_of-words_of

pub returns-clause-words : goal.returns-clause-words
returns-clause-words c = words_of-line_of
