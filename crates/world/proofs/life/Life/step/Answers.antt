use Rattle.std.proofs.Common.{◌≡◌, ◌∙◌, List, ap, subst, sym}
use Rattle.flusher.specs.declared.released.Released.{Released}
use Rattle.flusher.specs.Released.{effects_of_all}
use Rattle.world.specs.declared.answer.Answer.TheVariants as answers
use Rattle.world.specs.Course.{course_after}
use Rattle.world.proofs.Releasing.{call_left, checkpoint_left, event_left, piece_left, take_left}
use Rattle.world.proofs.life.Life.step.Goals as goal

pub returns-in-Event-clause-left : goal.returns-in-Event-clause-left
returns-in-Event-clause-left g c origin course f is =
    let answer = answers.Turn c.event-closings.result.0 c.event-closings.result.1 in
    subst (λ step. (course_after origin course step answer).left ≡ effects_of_all c.args.released.now.items) (sym c.in-Event.is)
    (event_left origin course _ _ answer ∙ is)

pub returns-in-Piece-clause-left : goal.returns-in-Piece-clause-left
returns-in-Piece-clause-left g c origin course f is =
    subst (λ step. (course_after origin course step c.piece.result).left ≡ effects_of_all c.args.released.now.items) (sym c.in-Piece.is)
    (piece_left origin course _ _ _ c.piece.result ∙ is)

pub returns-in-Checkpoint-clause-left : goal.returns-in-Checkpoint-clause-left
returns-in-Checkpoint-clause-left g c origin course f is =
    subst (λ step. (course_after origin course step c.checkpoint.result).left ≡ effects_of_all c.args.released.now.items) (sym c.in-Checkpoint.is)
    (checkpoint_left origin course c.checkpoint.result ∙ is)

pub returns-in-Take-clause-left : goal.returns-in-Take-clause-left
returns-in-Take-clause-left g c origin course f is =
    subst (λ step. (course_after origin course step c.take.result).left ≡ effects_of_all c.take.new.released.items) (sym c.in-Take.is)
    (take_left origin course _ c.take.result ∙ (is ∙ ap (λ (l : List Released). effects_of_all l) (sym c.take.ensures.released)))

pub returns-in-Call-clause-left : goal.returns-in-Call-clause-left
returns-in-Call-clause-left g c origin course f is =
    subst (λ step. (course_after origin course step c.call.result).left ≡ effects_of_all c.args.released.now.items) (sym c.in-Call.is)
    (call_left origin course c.call.result ∙ is)

pub returns-in-Fail-clause-left : goal.returns-in-Fail-clause-left
returns-in-Fail-clause-left g c origin course f is =
    subst (λ step. (course_after origin course step c.fail.result).left ≡ effects_of_all c.args.released.now.items) (sym c.in-Fail.is) is

pub returns-in-List-clause-left : goal.returns-in-List-clause-left
returns-in-List-clause-left g c origin course f is =
    subst (λ step. (course_after origin course step c.list.result).left ≡ effects_of_all c.args.released.now.items) (sym c.in-List.is) is
