-- The events of a piece, one after another.
use Rattle.std.proofs.Common.{◌≡◌, ℕ, List, [], ◌∷◌, ◌++◌, refl, sym, subst}
use Rattle.disk.specs.State.{State}
use Rattle.world.specs.declared.answer.Answer.TheVariants as answers
use Rattle.world.specs.declared.answer.EventTurn.{EventTurn}
use Rattle.world.specs.declared.life.Life.{Life}
use Rattle.world.specs.declared.step.Step.TheVariants as steps
use Rattle.world.specs.Answers.{AreTurns, IsTurnAnswer}
use Rattle.session_core.specs.Core.{CoreState}
use Rattle.world.specs.declared.links.Links.{Links}
use Rattle.world.specs.Course.{Origin, Course, with_piece, after_event, after_events}
use Rattle.world.specs.Links.{HasSaid, heard_on, stream_on}
use Rattle.world.specs.Follows.{FollowsLife, IsListening, MovesLife, MovesThrough}

one_more : (origin : Origin) (c : Course) (moment : ℕ) (turns : List EventTurn) (t : EventTurn) → AreTurns origin c moment turns
    → IsTurnAnswer origin (after_events origin c moment turns) moment t.event t.turn t.closings
    → AreTurns origin c moment (turns ++ t ∷ [])
    × (after_events origin c moment (turns ++ t ∷ []) ≡ after_event origin (after_events origin c moment turns) moment t.event t.turn.refused t.closings)
one_more origin c moment [] t before right = ((right, tt), refl)
one_more origin c moment (first ∷ turns) t before right =
    let rest = one_more origin (after_event origin c moment first.event first.turn.refused first.closings) moment turns t before.1 right in
    ((before.0, rest.0), rest.1)

-- one more event
pub moves_on : {D : Type 0} {g : _} (state : D → State) (old mid new : Life D g) (moment : ℕ) (turns : List EventTurn) (t : EventTurn) → MovesThrough state old moment turns mid
    → MovesLife state mid (steps.Event moment t.event) (answers.Turn t.turn t.closings) new → MovesThrough state old moment (turns ++ t ∷ []) new
moves_on state old mid new moment turns t through move origin c f =
    let before = through origin c f in
    let moved = move origin (after_events origin c moment turns) before.1 in
    let more = one_more origin c moment turns t before.0 moved.0 in
    (more.0, subst (λ k. FollowsLife state origin k new) (sym more.1) moved.1)

-- what a core has additionally heard came over a link
pub listens-told : (c : Course) (core : CoreState) (links links' : Links) (link : ℕ) (bytes : List ℕ) → IsListening c core links
    → ((l : ℕ) → HasSaid (stream_on l (c.pieces ++ record { link = link; bytes = bytes } ∷ [])) (heard_on links' l)) → IsListening (with_piece c link bytes) core links'
listens-told c core links links' link bytes f said = record { clock = f.clock; windows = f.windows; said = said }

-- and if nothing of it counts
pub listens-same : (c : Course) (core : CoreState) (links links' : Links) → IsListening c core links → ((l : ℕ) → heard_on links' l ≡ heard_on links l)
    → IsListening c core links'
listens-same c core links links' f same =
    record { clock = f.clock; windows = f.windows; said = λ l. subst (HasSaid (stream_on l c.pieces)) (sym (same l)) (f.said l) }
