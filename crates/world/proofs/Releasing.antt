-- What a release does to a course.
use Rattle.std.proofs.Common.{◌≡◌, ◌∙◌, ◌+◌, ◌≤◌, arith, inl, inr, ℕ, List, [], ◌∷◌, ◌++◌, Some, None, length, sym, ap, subst, refl, append_assoc}
use Rattle.lw_types.specs.declared.refusal.Refusal.TheVariants.{OutOfStep}
use Rattle.devices.specs.declared.command.Command.{Command}
use Rattle.sessions.specs.Table.{TableState, effects_of}
use Rattle.sessions.specs.Decision.{FitAll, commands_of, effects_in}
use Rattle.session_core.specs.State.{DecisionsState}
use Rattle.store.specs.Flights.{Flight, Stage, in_flight}
use Rattle.store.specs.State.{StoreState}
use Rattle.store.specs.UnderWay.{flight}
use Rattle.flusher.specs.declared.durable.Durable.{Durable as Done}
use Rattle.flusher.specs.declared.released.Released.{Released}
use Rattle.flusher.specs.Released.{decisions_of, effects_of_all}
use Rattle.flusher.specs.declared.room.TheConstants.{MOST_EFFECTS}
use Rattle.sessions.specs.declared.decision.Decision.{Decision}
use Rattle.world.specs.declared.answer.Answer.{Answer}
use Rattle.world.specs.declared.answer.Answer.TheVariants as answers
use Rattle.world.specs.declared.commit.LastCommit.{LastCommit}
use Rattle.world.specs.declared.commit.LastCommit.TheVariants as commits
use Rattle.world.specs.declared.commit.Pipeline.{Pipeline}
use Rattle.session_core.specs.declared.event.Event.{Event}
use Rattle.world.specs.declared.step.Step.TheVariants as steps
use Rattle.world.specs.Folding.{RunLaws}
use Rattle.world.specs.Course.{Checkpoint, Course, Origin, course_after, after_piece, after_release, table_from, with_piece}
use Rattle.world.specs.Answers.{AnswersRelease}
use Rattle.world.specs.Commits.{FitFlights, GivesOldest, IsBehind, MayGoOn, flight_of, flights_ahead, flights_last, flights_of, settled_ahead}
use Rattle.world.specs.Sound.{HasRoom, HasRoomForEach}
use Rattle.world.specs.Follows.{AreAt, HasFailed, IsAt, IsHealthy, IsLife}
use Rattle.world.proofs.Shapes.{turned-shape, turned_all-shape}

-- what is after a batch that was ahead stays where it is
failed_none : (behind : List (Flight Command)) (checkpoint : Checkpoint) (durable : Done) → HasFailed behind (Some durable) checkpoint → HasFailed behind None checkpoint
failed_none [] checkpoint durable at = absurd at
failed_none (flight ∷ []) checkpoint durable at = at
failed_none (first ∷ second ∷ []) checkpoint durable at = absurd at
failed_none (first ∷ second ∷ third ∷ rest) checkpoint durable at = absurd at

behind_none : (behind : List (Flight Command)) (checkpoint : Checkpoint) (t : TableState) (s : StoreState) (durable : Done) (last : LastCommit)
    → IsAt (Some durable) behind checkpoint t s last → IsAt None behind checkpoint t s last
behind_none behind checkpoint t s durable commits.Failed at = failed_none behind checkpoint durable at
behind_none behind checkpoint t s durable commit at = at

-- the oldest batch, which is durable
module _ (laws : RunLaws) (origin : Origin) (c : Course) (durable : Done) (rest : List (Flight Command))
    (first : c.flights ≡ flight_of (flight Stage.Durable (decisions_of durable)) ∷ rest) (fit : FitAll (table_from origin c.settled) (decisions_of durable)) where
  effects : effects_of (table_from origin c.settled) (commands_of (decisions_of durable)) ≡ effects_in (decisions_of durable)
  effects = laws.effects (table_from origin c.settled) (decisions_of durable) fit

  -- is answered by the number of its effects
  pub answered : (n : ℕ) → n ≡ length (effects_in (decisions_of durable)) → AnswersRelease origin c c.flights (answers.Released n)
  answered n count = subst (λ l. AnswersRelease origin c l (answers.Released n)) (sym first) (ap answers.Released (count ∙ ap length (sym effects)))

  -- leaves this life
  pub releases : (s : StoreState) (core : DecisionsState) (before next : Pipeline) → IsLife origin c s core before
      → AreAt origin (c.settled ++ commands_of (decisions_of durable)) rest c.checkpoint s next → IsHealthy s next.last
      → IsLife origin (after_release origin c c.flights) s core next
  releases s core before next f at healthy =
      let commands = commands_of (decisions_of durable) in
      let flown = subst (λ fl. IsLife origin (record c { flights = fl }) s core before) first f in
      let lists : c.settled ++ ((commands ++ in_flight rest) ++ c.given_up) ≡ (c.settled ++ commands) ++ (in_flight rest ++ c.given_up) =
      ap (λ l. c.settled ++ l) (append_assoc commands (in_flight rest) c.given_up) ∙ sym (append_assoc c.settled commands (in_flight rest ++ c.given_up)) in
      subst (λ fl. IsLife origin (after_release origin c fl) s core next) (sym first) (record {
        table = flown.table;
        seq = flown.seq;
        base = flown.base ∙ ap (table_from origin) lists;
        number = flown.number ∙ ap (λ l. origin.number + length l) lists;
        untaken = flown.untaken;
        made = flown.made;
        under_way = at;
        healthy = healthy;
        survives = flown.survives;
      })

  -- and lets these leave
  pub lets : (old new : List Released) → effects_of_all new ≡ effects_of_all old ++ effects_in (decisions_of durable)
      → c.left ≡ effects_of_all old → (after_release origin c c.flights).left ≡ effects_of_all new
  lets old new more left =
      subst (λ fl. (after_release origin c fl).left ≡ effects_of_all new) (sym first)
      (ap (λ l. c.left ++ l) effects ∙ (ap (λ l. l ++ effects_in (decisions_of durable)) left ∙ sym more))

-- the oldest batch of a life
pub record IsOldest (origin : Origin) (c : Course) (s : StoreState) (durable : Done) (next : Pipeline) : Type 0 where
  pub rest : List (Flight Command)
  pub first : c.flights ≡ flight_of (flight Stage.Durable (decisions_of durable)) ∷ rest
  pub fit : FitAll (table_from origin c.settled) (decisions_of durable)
  pub at : AreAt origin (c.settled ++ commands_of (decisions_of durable)) rest c.checkpoint s next
  pub healthy : IsHealthy s next.last

-- it was taken out
pub taken_out : (origin : Origin) (c : Course) (s : StoreState) (core : DecisionsState) (begun next : Pipeline) (durable : Done) → IsLife origin c s core begun
    → GivesOldest begun durable next → IsOldest origin c s durable next
taken_out origin c s core begun next durable f (inl found) =
    let at = f.under_way in
    let flights = at.flights_are ∙ ap (λ a. flights_of (flights_ahead a) ++ at.behind) found.0 in
    let fit = subst (λ a. FitFlights (table_from origin c.settled) (flights_ahead a)) found.0 at.fit in
    let last = subst (λ a. IsAt a at.behind c.checkpoint (table_from origin (settled_ahead c.settled a)) s begun.last) found.0 at.last in
    subst (IsOldest origin c s durable) (sym found.1) (record {
      rest = at.behind;
      first = flights;
      fit = fit.0;
      at = record { behind = at.behind; flights_are = refl; fit = tt; last = behind_none at.behind c.checkpoint (table_from origin (c.settled ++ commands_of (decisions_of durable))) s durable begun.last last };
      healthy = f.healthy;
    })
taken_out origin c s core begun next durable f (inr found) =
    let g = subst (IsLife origin c s core) found.0 f in
    let at = g.under_way in
    subst (IsOldest origin c s durable) (sym found.1) (record {
      rest = [];
      first = at.flights_are ∙ at.last.0;
      fit = at.last.1.0.0;
      at = record { behind = []; flights_are = refl; fit = tt; last = (refl, (tt, (at.last.1.1.0, at.last.1.1.1))) };
      healthy = g.healthy;
    })

-- there is room for what is left
room_behind : (first : Flight Decision) (rest : List (Flight Decision)) (there fit there' fit' : ℕ) → there' ≤ there + MOST_EFFECTS → fit ≤ fit'
    → HasRoomForEach (first ∷ rest) there fit → HasRoomForEach rest there' fit'
room_behind first [] there fit there' fit' more longer room = tt
room_behind first (flight ∷ flights) there fit there' fit' more longer room = omega (arith, more, longer, room)

pub room_left : (old new : Pipeline) (durable : Done) (there fit there' fit' : ℕ) → GivesOldest old durable new → there' ≤ there + MOST_EFFECTS → fit ≤ fit'
    → HasRoom old there fit → HasRoom new there' fit'
room_left old new durable there fit there' fit' (inl found) more longer room =
    subst (λ k. HasRoom k there' fit') (sym found.1)
    (room_behind (flight Stage.Durable (decisions_of durable)) (flights_last old.last) there fit there' fit' more longer
    (subst (λ a. HasRoomForEach (flights_ahead a ++ flights_last old.last) there fit) found.0 room))
room_left old new durable there fit there' fit' (inr found) more longer room = subst (λ k. HasRoom k there' fit') (sym found.1) tt

-- and what is under way stays sound
pub sound_left : (s : StoreState) (old new : Pipeline) (durable : Done) → GivesOldest old durable new → MayGoOn s old.last → MayGoOn s new.last × IsBehind new.ahead new.last
sound_left s old new durable (inl found) may = subst (λ k. MayGoOn s k.last × IsBehind k.ahead k.last) (sym found.1) (may, tt)
sound_left s old new durable (inr found) may = subst (λ k. MayGoOn s k.last × IsBehind k.ahead k.last) (sym found.1) (tt, tt)

-- a turn lets nothing leave
pub event_left : (origin : Origin) (c : Course) (moment : ℕ) (event : Event) (answer : Answer)
    → (course_after origin c (steps.Event moment event) answer).left ≡ c.left
event_left origin c moment event (answers.Turn turn closings) = ap (λ (k : Course). k.left) (turned-shape origin c moment event turn.refused closings)
event_left origin c moment event answer = refl

-- nor does a checkpoint that begins
pub checkpoint_left : (origin : Origin) (c : Course) (answer : Answer) → (course_after origin c steps.Checkpoint answer).left ≡ c.left
checkpoint_left origin c (answers.Begun calls) = refl
checkpoint_left origin c answer = refl

pub piece_left : (origin : Origin) (c : Course) (link moment : ℕ) (bytes : List ℕ) (answer : Answer) → (after_piece origin c link moment bytes answer).left ≡ c.left
piece_left origin c link moment bytes (answers.Turns turns fault) = ap (λ (k : Course). k.left) (turned_all-shape origin (with_piece c link bytes) moment turns.items)
piece_left origin c link moment bytes answer = refl

-- nor does a take
pub take_left : (origin : Origin) (c : Course) (most : ℕ) (answer : Answer) → (course_after origin c (steps.Take most) answer).left ≡ c.left
take_left origin c most (answers.Taken n) = refl
take_left origin c most (answers.GivenUp n) = refl
take_left origin c most (answers.Refused OutOfStep) = refl
take_left origin c most (answers.Refused e) = refl
take_left origin c most answer = refl

-- nor does a device call
pub call_left : (origin : Origin) (c : Course) (answer : Answer) → (course_after origin c steps.Call answer).left ≡ c.left
call_left origin c answers.Called = refl
call_left origin c (answers.Refused e) = refl
call_left origin c answer = refl
