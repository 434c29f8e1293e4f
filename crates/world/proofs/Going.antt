-- What the steps of a life leave of the rest of a course.
use Rattle.std.proofs.Common.{◌≡◌, ◌∙◌, ℕ, true, false, MatchBool, List, [], ◌∷◌, ◌++◌, sym, ap, subst, refl, append_assoc}
use Rattle.std.proofs.lemmas.List.{append-nil}
use Rattle.lw_types.specs.declared.refusal.Refusal.{Refusal}
use Rattle.lw_types.specs.declared.refusal.Refusal.TheVariants.{OutOfStep}
use Rattle.disk.specs.declared.sim.Image.{Image}
use Rattle.devices.specs.declared.command.Command.{Command}
use Rattle.devices.specs.declared.effect.Effect.{Effect}
use Rattle.sessions.specs.Table.{effects_of}
use Rattle.world.specs.Folding.{RunLaws}
use Rattle.world.specs.declared.answer.Answer.{Answer}
use Rattle.world.specs.declared.answer.Answer.TheVariants as answers
use Rattle.session_core.specs.declared.event.Event.{Event}
use Rattle.world.specs.declared.step.Step.{Step}
use Rattle.world.specs.declared.step.Step.TheVariants as steps
use Rattle.store.specs.Flights.{Flight}
use Rattle.world.specs.Course.{Origin, Course, course_after, effects_from, after_piece, after_release, table_from, with_piece, after_event, after_events}
use Rattle.world.specs.Answers.{AnswersOpen, AnswersClosed, IsRight}
use Rattle.sessions.specs.Marks.{IsSubsequence}
use Rattle.world.specs.Follows.{IsOwn}
use Rattle.world.proofs.Shapes.{turned-shape, turned_all-shape, with_news_of}

-- the effects that were emitted, and whether the store is open, stay, and what has left grows at
-- its end
pub record Keeps (origin : Origin) (c next : Course) : Type 0 where
  pub emitted : next.emitted ≡ c.emitted
  pub is_open : next.is_open ≡ c.is_open
  pub once : IsSubsequence c.left (effects_from origin c.settled) → IsSubsequence next.left (effects_from origin next.settled)
  pub complete : c.left ≡ effects_from origin c.settled → next.left ≡ effects_from origin next.settled
  pub grown : (more : List Effect) × (next.left ≡ c.left ++ more)

-- a course of which neither what is settled nor what has left changes
keeps : (origin : Origin) (c next : Course) → next.emitted ≡ c.emitted → next.is_open ≡ c.is_open → next.settled ≡ c.settled → next.left ≡ c.left
    → Keeps origin c next
keeps origin c next emitted is_open settled left = record {
  emitted = emitted;
  is_open = is_open;
  once = λ h. subst (λ l. IsSubsequence l (effects_from origin next.settled)) (sym left) (subst (λ k. IsSubsequence c.left (effects_from origin k)) (sym settled) h);
  complete = λ h. left ∙ (h ∙ ap (effects_from origin) (sym settled));
  grown = ([], left ∙ sym (append-nil c.left));
}

pub same_keeps : (origin : Origin) (c : Course) → Keeps origin c c
same_keeps origin c = keeps origin c c refl refl refl refl

keeps_on : (origin : Origin) (a b c : Course) → Keeps origin a b → Keeps origin b c → Keeps origin a c
keeps_on origin a b c first second = record {
  emitted = second.emitted ∙ first.emitted;
  is_open = second.is_open ∙ first.is_open;
  once = λ h. second.once (first.once h);
  complete = λ h. second.complete (first.complete h);
  grown = (
    first.grown.0 ++ second.grown.0,
    second.grown.1 ∙ (ap (λ l. l ++ second.grown.0) first.grown.1 ∙ append_assoc a.left first.grown.0 second.grown.0),
  );
}

released_keeps : (laws : RunLaws) (origin : Origin) (c : Course) (flights : List (Flight Command)) → Keeps origin c (after_release origin c flights)
released_keeps laws origin c [] = same_keeps origin c
released_keeps laws origin c (flight ∷ flights) =
    let more = effects_of (table_from origin c.settled) flight.batch in
    let whole : effects_from origin (c.settled ++ flight.batch) ≡ effects_from origin c.settled ++ more = laws.joined_effects origin.table c.settled flight.batch in
    record {
      emitted = refl;
      is_open = refl;
      once = λ h. subst (IsSubsequence (c.left ++ more)) (sym whole) (laws.extended c.left (effects_from origin c.settled) more h);
      complete = λ h. ap (λ l. l ++ more) h ∙ sym whole;
      grown = (more, refl);
    }

refusal_keeps : (origin : Origin) (c : Course) (most : ℕ) (e : Refusal) → Keeps origin c (course_after origin c (steps.Take most) (answers.Refused e))
refusal_keeps origin c most OutOfStep = keeps origin c _ refl refl refl refl
refusal_keeps origin c most e = same_keeps origin c

take_keeps : (origin : Origin) (c : Course) (most : ℕ) (answer : Answer) → Keeps origin c (course_after origin c (steps.Take most) answer)
take_keeps origin c most (answers.Taken n) = keeps origin c _ refl refl refl refl
take_keeps origin c most (answers.GivenUp n) = keeps origin c _ refl refl refl refl
take_keeps origin c most (answers.Refused e) = refusal_keeps origin c most e
take_keeps origin c most answer = same_keeps origin c

checkpoint_keeps : (origin : Origin) (c : Course) (answer : Answer) → Keeps origin c (course_after origin c steps.Checkpoint answer)
checkpoint_keeps origin c (answers.Begun calls) = keeps origin c _ refl refl refl refl
checkpoint_keeps origin c answer = same_keeps origin c

call_keeps : (origin : Origin) (c : Course) (answer : Answer) → Keeps origin c (course_after origin c steps.Call answer)
call_keeps origin c answers.Called = keeps origin c _ refl refl refl refl
call_keeps origin c (answers.Refused e) = keeps origin c _ refl refl refl refl
call_keeps origin c answer = same_keeps origin c

-- nor does an event
news_keeps : (origin : Origin) (c next : Course) → next ≡ with_news_of c next → Keeps origin c next
news_keeps origin c next is =
    keeps origin c next (ap (λ (k : Course). k.emitted) is) (ap (λ (k : Course). k.is_open) is) (ap (λ (k : Course). k.settled) is) (ap (λ (k : Course). k.left) is)

event_keeps : (origin : Origin) (c : Course) (moment : ℕ) (event : Event) (answer : Answer) → Keeps origin c (course_after origin c (steps.Event moment event) answer)
event_keeps origin c moment event (answers.Turn turn closings) =
    news_keeps origin c (after_event origin c moment event turn.refused closings) (turned-shape origin c moment event turn.refused closings)
event_keeps origin c moment event answer = same_keeps origin c

piece_keeps : (origin : Origin) (c : Course) (link moment : ℕ) (bytes : List ℕ) (answer : Answer) → Keeps origin c (after_piece origin c link moment bytes answer)
piece_keeps origin c link moment bytes (answers.Turns turns fault) =
    let told = with_piece c link bytes in
    let next = after_events origin told moment turns.items in
    keeps_on origin c told next (keeps origin c told refl refl refl refl) (news_keeps origin told next (turned_all-shape origin told moment turns.items))
piece_keeps origin c link moment bytes answer = same_keeps origin c

release_keeps : (laws : RunLaws) (origin : Origin) (c : Course) (answer : Answer) → Keeps origin c (course_after origin c steps.Release answer)
release_keeps laws origin c (answers.Released n) = released_keeps laws origin c c.flights
release_keeps laws origin c answer = same_keeps origin c

pub step_keeps : (laws : RunLaws) (origin : Origin) (c : Course) (step : Step) (answer : Answer) → IsOwn step → Keeps origin c (course_after origin c step answer)
step_keeps laws origin c (steps.Event moment event) answer own = event_keeps origin c moment event answer
step_keeps laws origin c (steps.Piece link moment bytes) answer own = piece_keeps origin c link moment bytes.items answer
step_keeps laws origin c (steps.Take most) answer own = take_keeps origin c most answer
step_keeps laws origin c (steps.Next most) answer own = take_keeps origin c most answer
step_keeps laws origin c steps.Checkpoint answer own = checkpoint_keeps origin c answer
step_keeps laws origin c steps.Call answer own = call_keeps origin c answer
step_keeps laws origin c steps.Release answer own = release_keeps laws origin c answer
step_keeps laws origin c steps.Fail answer own = same_keeps origin c
step_keeps laws origin c steps.List answer own = same_keeps origin c
step_keeps laws origin c steps.Emit answer own = absurd own
step_keeps laws origin c (steps.Crash image) answer own = absurd own

-- the answer to a step of a life that is open
pub right_open : (origin : Origin) (c : Course) (step : Step) (answer : Answer) → c.is_open ≡ true → AnswersOpen origin c step answer → IsRight origin c step answer
right_open origin c step answer is right = subst (λ b. MatchBool b (AnswersOpen origin c step answer) (AnswersClosed origin c step answer)) (sym is) right

-- and to one of a closed world
pub right_closed : (origin : Origin) (c : Course) (step : Step) (answer : Answer) → c.is_open ≡ false → AnswersClosed origin c step answer → IsRight origin c step answer
right_closed origin c step answer is right = subst (λ b. MatchBool b (AnswersOpen origin c step answer) (AnswersClosed origin c step answer)) (sym is) right

-- a step that is neither
pub is_own : (step : Step) → (step ≡ steps.Emit → ⊥) → ((image : Image) → step ≡ steps.Crash image → ⊥) → IsOwn step
is_own steps.Emit emit crash = emit refl
is_own (steps.Crash image) emit crash = crash image refl
is_own step emit crash = tt
