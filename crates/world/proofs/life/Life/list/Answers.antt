use Rattle.std.proofs.Common.{◌∙◌, inl, ap}
use Rattle.store.specs.State.{store_state}
use Rattle.world.specs.Course.{decided_commands, table_from}
use Rattle.world.specs.declared.answer.Answer.TheVariants as answers
use Rattle.world.proofs.Deciding.{now_is, last}
use Rattle.world.proofs.life.Life.list.Goals as goal

pub returns-in-Ok-clause-course : goal.returns-in-Ok-clause-course
returns-in-Ok-clause-course g c origin course f =
    let life = c.args.self.now in
    let s = store_state g.D.Disk.state life.store in
    let table = c.in-Ok.ensures ∙ (c.now.ensures.table ∙ now_is c.of_runs.ensures origin course s life.core.decisions life.commits c.now.ensures.lawful.decisions f.0) in
    let seq = c.seq.ensures.number ∙ last c.of_runs.ensures origin course s life.core.decisions life.commits c.now.ensures.lawful.decisions f.0 in
    (inl (ap (λ t. answers.Listed t c.seq.result) table ∙ ap (answers.Listed (table_from origin (decided_commands course))) seq), f)
