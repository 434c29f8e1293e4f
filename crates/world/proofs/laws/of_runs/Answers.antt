use Rattle.world.proofs.laws.of_runs.Goals as goal

pub returns : goal.returns
returns c = record {
  folding = c.folding.ensures.table;
  effects = c.folding.ensures.effects;
  joined = c.composing.ensures.table;
  joined_effects = c.composing.ensures.effects;
  split = λ t seq first second. (c.joining.ensures.continues t seq first second).0;
  longer = c.parts_of_longer_lists.ensures.longer;
  extended = c.parts_of_longer_lists.ensures.extended;
}
