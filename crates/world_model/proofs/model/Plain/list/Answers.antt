use Rattle.std.proofs.Common.{◌≡◌, ◌∙◌, inl, MatchBool, length, ap, subst, sym, refl, arith}
use Rattle.world.specs.declared.answer.Answer.TheVariants as answers
use Rattle.world.specs.Answers.{AnswersList}
use Rattle.world.specs.Course.{decided_commands, number_from, table_from}
use Rattle.world_model.proofs.model.Plain.list.Goals as goal

pub returns : goal.returns
returns c =
    let s = c.args.self.now in
    let all = decided_commands s.course in
    let items = ap length c.in_ok-all.ensures.commands in
    let count = c.len.ensures in
    let first = c.decided.ensures.number in
    let seq : c.len.result ≡ number_from s.origin all = omega (arith, count, items, first, c.in_ok-all.all.ok.0) in
    let table = c.in_ok-table.ensures ∙ ap (table_from s.origin) (c.deref.ensures.value ∙ c.in_ok-all.ensures.commands) in (
      subst (λ b. MatchBool b (AnswersList s.origin s.course (answers.Listed c.in_ok-table.table c.len.result)) (answers.Listed c.in_ok-table.table c.len.result ≡ answers.Idle)) (sym c.requires)
          (inl (ap (λ t. answers.Listed t c.len.result) table ∙ ap (answers.Listed (table_from s.origin all)) seq)),
      (tt, refl),
    )
