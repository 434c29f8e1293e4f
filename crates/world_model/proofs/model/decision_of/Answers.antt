use Rattle.std.proofs.Common.{◌≡◌, ◌≢◌, Bool, true, false, MatchBool, IfErr, IfOk, MatchResult, Result, Ok, Err, subst, rules}
use Rattle.lw_types.specs.Answer.{Answers, AnswersWithMemory}
use Rattle.lw_types.specs.declared.refusal.Refusal.{Refusal}
use Rattle.lw_types.specs.declared.refusal.Refusal.TheVariants.{OutOfMemory}
use Rattle.devices.specs.declared.command.Command.{Command}
use Rattle.sessions.specs.Table.{TableState, step, TableStep}
use Rattle.sessions.specs.Decision.{AnswersTo, IsDecision, is_frugal}
use Rattle.sessions.specs.declared.decision.Decision.{Decision}
use Rattle.world_model.proofs.Turning.{refused_is}
use Rattle.world_model.proofs.model.decision_of.Goals as goal

exact : (t : TableState) (c : Command) (r : Result Decision Refusal) → AnswersTo c (step t c) (IsDecision t 1 c) r
    → IfErr r (λ e. e ≢ OutOfMemory → step t c ≡ Err e)
exact t c (Ok d) is = tt
exact t c (Err e) is = λ memory. refused_is c (step t c) (IsDecision t 1 c) e memory is

made : (t : TableState) (c : Command) (r : Result Decision Refusal) → AnswersTo c (step t c) (IsDecision t 1 c) r
    → IfOk r (λ d. MatchResult (step t c) (λ s. IsDecision t 1 c s d) (λ _. ⊥))
made t c (Ok d) is = by_frugal (is_frugal c (step t c)) (step t c) is
  where
    not_both : (e : Refusal) → ◌≡◌ {A = Result Decision Refusal} (Ok d) (Err e) → ⊥
    not_both e h = cc

    by_frugal : (frugal : Bool) (w : Result TableStep Refusal)
        → MatchBool frugal (Answers w (IsDecision t 1 c) (Ok d)) (AnswersWithMemory w (IsDecision t 1 c) (Ok d))
        → MatchResult w (λ s. IsDecision t 1 c s d) (λ _. ⊥)
    by_frugal true (Ok s) is = is
    by_frugal true (Err e) is = absurd (not_both e is)
    by_frugal false (Ok s) is = is
    by_frugal false (Err e) is = is
made t c (Err e) is = tt

pub returns-clause-decided : goal.returns-clause-decided
returns-clause-decided c =
    let t = c.args.table.now in
    let same : c.in_ok-clone.field-0 ≡ c.args.command.now = search (rules) in
    made t c.args.command.now c.decide.result
    (subst (λ (k : Command). AnswersTo k (step t k) (IsDecision t 1 k) c.decide.result) same c.decide.ensures.decides)

pub returns-clause-refused : goal.returns-clause-refused
returns-clause-refused c =
    let t = c.args.table.now in
    let same : c.in_ok-clone.field-0 ≡ c.args.command.now = search (rules) in
    exact t c.args.command.now c.decide.result
    (subst (λ (k : Command). AnswersTo k (step t k) (IsDecision t 1 k) c.decide.result) same c.decide.ensures.decides)
