use Rattle.std.proofs.Common.{refl}
use Rattle.sessions.specs.Table.{effects_of, empty_table}
use Rattle.flusher.specs.Lives.{no_lives, lives_of}
use Rattle.flusher.proofs.Lasting.{part_after_all}
use Rattle.flusher.proofs.laws.no_mark_leaves_twice.Goals as goal

pub returns-clause-part : goal.returns-clause-part
returns-clause-part c t events = part_after_all (record {
  composed = c.composing.ensures.effects;
  longer = c.parts_of_longer_lists.ensures.longer;
  extended = c.parts_of_longer_lists.ensures.extended;
}) t no_lives events refl

pub returns-clause-once : goal.returns-clause-once
returns-clause-once c t events sound =
    let lives = lives_of t events in
    c.no_mark_stands_twice.ensures.part (effects_of t lives.durable) lives.left (returns-clause-part c t events)
    (c.no_mark_stands_twice.ensures.commands t lives.durable sound)

pub returns-clause-from_empty : goal.returns-clause-from_empty
returns-clause-from_empty c net_id slots events =
    let lives = lives_of (empty_table net_id slots) events in
    c.no_mark_stands_twice.ensures.part (effects_of (empty_table net_id slots) lives.durable) lives.left
    (returns-clause-part c (empty_table net_id slots) events)
    (c.no_mark_stands_twice.ensures.from_empty net_id slots lives.durable)
