-- What a batch that follows another one does to a course.
use Rattle.std.proofs.Common.{◌≡◌, ◌≢◌, ◌∙◌, ◌≤◌, ◌⊎◌, inl, inr, ℕ, List, [], ◌∷◌, ◌++◌, Option, Some, None, length, take, sym, ap, subst, refl, arith, length-append}
use Rattle.std.proofs.lemmas.List.{length-map, append-nil}
use Rattle.lw_types.specs.declared.refusal.Refusal.TheVariants.{OutOfStep}
use Rattle.devices.specs.declared.command.Command.{Command}
use Rattle.sessions.specs.Table.{TableState, fold_of}
use Rattle.sessions.specs.Decision.{FitAll, IsLegalContinuation, commands_of, with_decisions}
use Rattle.sessions.specs.declared.decision.Decision.{Decision}
use Rattle.session_core.specs.State.{DecisionsState, IsLawful}
use Rattle.session_core.specs.Deciding.{after_taking}
use Rattle.store.specs.Commit.{IsUnderWay}
use Rattle.store.specs.Flights.{Flight, Stage, durable_in, in_flight}
use Rattle.store.specs.Flights.Stage.{Stopped, Unsure}
use Rattle.store.specs.Pairing.{IsBegunBehind, table_behind}
use Rattle.store.specs.Phases.{begun_sequel, gate_written_sequel, gate_written_size}
use Rattle.store.specs.State.{StoreState}
use Rattle.store.specs.UnderWay.{flight, flights_in}
use Rattle.store.specs.declared.phases.Begun.{Begun}
use Rattle.store.specs.declared.phases.GateWritten.{GateWritten}
use Rattle.store.specs.declared.under_way.UnderWay.{UnderWay}
use Rattle.store.specs.declared.under_way.UnderWay.TheVariants as ways
use Rattle.flusher.specs.declared.durable.Durable.{Durable as Done}
use Rattle.flusher.specs.declared.room.Room.{Room}
use Rattle.world.specs.declared.answer.Answer.{Answer}
use Rattle.world.specs.declared.answer.Answer.TheVariants as answers
use Rattle.world.specs.declared.commit.LastCommit.{LastCommit}
use Rattle.world.specs.declared.commit.LastCommit.TheVariants as commits
use Rattle.world.specs.declared.commit.Pipeline.{Pipeline}
use Rattle.world.specs.Answers.{AnswersNext, NextBehind, Takes}
use Rattle.world.specs.Commits.{IsNoGate, alone, at_gate, flights_ahead, flights_of}
use Rattle.world.specs.Course.{Checkpoint, Course, Origin, after_give_up, after_take, number_from, table_from}
use Rattle.world.specs.Folding.{RunLaws}
use Rattle.world.specs.Follows.{AreAt, HasFailed, IsAt, IsLife}
use Rattle.world.proofs.Taking.{begins, commands, given_up_so, lost, strays_so, taken_so}

-- ---- if no batch may follow

stopped_next : (stage : Stage) (free : Type 0) → (stage ≡ Stopped) ⊎ (stage ≡ Unsure) → NextBehind stage free answers.Idle
stopped_next stage free (inl is) = subst (λ st. NextBehind st free answers.Idle) (sym is) refl
stopped_next stage free (inr is) = subst (λ st. NextBehind st free answers.Idle) (sym is) refl

failed_next : (c : Course) (most : ℕ) (behind : List (Flight Command)) (checkpoint : Checkpoint) → HasFailed behind None checkpoint → AnswersNext behind c most answers.Idle
failed_next c most [] checkpoint at = refl
failed_next c most (flight ∷ []) checkpoint at = stopped_next flight.stage (Takes c most answers.Idle) at.0
failed_next c most (first ∷ second ∷ rest) checkpoint at = refl

way_next : (c : Course) (most : ℕ) (u : UnderWay Room) → IsNoGate None (commits.UnderWay u) → AnswersNext (flights_of (flights_in u)) c most answers.Idle
way_next c most (ways.Begun phase room) none = refl
way_next c most (ways.Written phase room) none = refl
way_next c most (ways.BodySynced phase room) none = refl
way_next c most (ways.GateWritten phase room) none = absurd none
way_next c most (ways.Following opened room following behind) none = refl
way_next c most (ways.Paired phase room behind) none = refl
way_next c most (ways.Checkpoint phase) none = refl

behind_next : (c : Course) (most : ℕ) (durable : Done) (behind : List (Flight Command)) → AnswersNext (flights_of (flights_ahead (Some durable)) ++ behind) c most answers.Idle
behind_next c most durable [] = refl
behind_next c most durable (flight ∷ flights) = refl

last_next : (c : Course) (most : ℕ) (ahead : Option Done) (last : LastCommit) (behind : List (Flight Command)) (checkpoint : Checkpoint) (t : TableState) (s : StoreState)
    → IsAt ahead behind checkpoint t s last → IsNoGate ahead last → AnswersNext (flights_of (flights_ahead ahead) ++ behind) c most answers.Idle
last_next c most (Some durable) last behind checkpoint t s at none = behind_next c most durable behind
last_next c most None commits.Failed behind checkpoint t s at none = failed_next c most behind checkpoint at
last_next c most None commits.Idle behind checkpoint t s at none = subst (λ l. AnswersNext l c most answers.Idle) (sym at.0) refl
last_next c most None (commits.UnderWay u) behind checkpoint t s at none = subst (λ l. AnswersNext l c most answers.Idle) (sym at.0) (way_next c most u none)
last_next c most None (commits.Durable done) behind checkpoint t s at none = subst (λ l. AnswersNext l c most answers.Idle) (sym at.0) refl

pub next_idle : (origin : Origin) (c : Course) (most : ℕ) (s : StoreState) (begun : Pipeline) → AreAt origin c.settled c.flights c.checkpoint s begun
    → IsNoGate begun.ahead begun.last → AnswersNext c.flights c most answers.Idle
next_idle origin c most s begun at none =
    subst (λ l. AnswersNext l c most answers.Idle) (sym at.flights_are)
    (last_next c most begun.ahead begun.last at.behind c.checkpoint _ s at.last none)

-- ---- if one may
module _ (laws : RunLaws) (origin : Origin) (c : Course) (s : StoreState) (core : DecisionsState) (most : ℕ) (opened : GateWritten) (along : Room)
    (f : IsLife origin c s core (at_gate opened along)) where
  one : c.flights ≡ flights_of (flight Stage.GateWritten (gate_written_sequel opened).decisions ∷ [])
  one = f.under_way.flights_are ∙ f.under_way.last.0

  pub answers_so : (answer : Answer) → Takes c most answer → AnswersNext c.flights c most answer
  answers_so answer takes = subst (λ fl. AnswersNext fl c most answer) (sym one) takes

  settled : s.table ≡ table_from origin c.settled
  settled = f.table ∙ ap (λ fl. table_from origin (durable_in c.settled fl)) one

  fits : FitAll s.table (gate_written_sequel opened).decisions
  fits = subst (λ t. FitAll t (gate_written_sequel opened).decisions) (sym settled) f.under_way.last.1.0.0

  lists : c.settled ++ in_flight c.flights ≡ c.settled ++ commands_of (gate_written_sequel opened).decisions
  lists = ap (λ fl. c.settled ++ in_flight fl) one ∙ ap (λ l. c.settled ++ l) (append-nil (commands_of (gate_written_sequel opened).decisions))

  table : table_behind s opened ≡ table_from origin (c.settled ++ in_flight c.flights)
  table =
      sym (laws.folding s.table (gate_written_sequel opened).decisions fits)
      ∙ (ap (λ t. fold_of t (commands_of (gate_written_sequel opened).decisions)) settled
      ∙ (sym (laws.joined origin.table c.settled (commands_of (gate_written_sequel opened).decisions)) ∙ ap (table_from origin) (sym lists)))

  seq : IsUnderWay s (gate_written_sequel opened) (gate_written_size opened) → (gate_written_sequel opened).seq ≡ number_from origin (c.settled ++ in_flight c.flights)
  seq way =
      let before = f.seq ∙ ap (λ fl. number_from origin (durable_in c.settled fl)) one in
      let number = way.seq in
      let size = length-map (gate_written_sequel opened).decisions (λ (d : Decision). d.command) in
      let whole = length-append c.settled (commands_of (gate_written_sequel opened).decisions) in
      let all = ap length lists in
      omega (arith, before, number, size, whole, all)

  module _ (lawful : IsLawful core) (way : IsUnderWay s (gate_written_sequel opened) (gate_written_size opened)) (some : core.log ≢ []) where
    -- its commit begins
    pub follows : (phase : Begun) (behind : Room) (n : ℕ) → (begun_sequel phase).decisions ≡ take most core.log
        → IsLegalContinuation (table_behind s opened) (gate_written_sequel opened).seq (begun_sequel phase).decisions
        → IsBegunBehind s opened phase → n ≡ length (take most core.log)
        → AnswersNext c.flights c most (answers.Taken n)
        × IsLife origin (after_take c most) s (after_taking core most) (alone (commits.UnderWay (ways.Following opened along phase behind)))
    follows phase behind n decisions legal on is =
        let taken = taken_so laws origin c s core lawful most (at_gate opened along) f (table_behind s opened) (gate_written_sequel opened).seq table (seq way)
        (begun_sequel phase).decisions decisions legal some n is in
        let next = alone (commits.UnderWay (ways.Following opened along phase behind)) in
        let first = flight Stage.GateWritten (gate_written_sequel opened).decisions in (
          answers_so (answers.Taken n) taken.1,
          begins laws origin c s core lawful most (at_gate opened along) f next taken.0 (record {
            behind = flights_of (first ∷ flight Stage.Begun (begun_sequel phase).decisions ∷ []);
            flights_are =
                ap (λ fl. fl ++ record { batch = take most c.untaken; stage = Stage.Begun } ∷ []) one
                ∙ ap (λ l. flights_of (first ∷ []) ++ record { batch = l; stage = Stage.Begun } ∷ [])
                (sym (ap commands_of decisions ∙ commands laws origin c s core lawful most (at_gate opened along) f));
            fit = tt;
            last = (
              refl,
              (
                (
                  f.under_way.last.1.0.0,
                  (subst (λ t. FitAll (with_decisions t (gate_written_sequel opened).decisions) (begun_sequel phase).decisions) settled legal.continues.fit, tt),
                ),
                ((f.under_way.last.1.1.0, on), f.under_way.last.1.1.1),
              ),
            );
          }) f.healthy,
        )

    -- or it is lost because memory ran out
    pub follows_lost : (n : ℕ) → IsLegalContinuation (table_behind s opened) (gate_written_sequel opened).seq (take most core.log) → n ≡ length (take most core.log)
        → AnswersNext c.flights c most (answers.GivenUp n) × IsLife origin (after_give_up c most) s (after_taking core most) (at_gate opened along)
    follows_lost n legal is = (
      answers_so (answers.GivenUp n)
          (given_up_so laws origin c s core lawful most (at_gate opened along) f (table_behind s opened) (gate_written_sequel opened).seq table (seq way) legal some n is),
      lost laws origin c s core lawful most (at_gate opened along) f,
    )

    -- or it is out of step
    pub follows_astray : 1 ≤ most → ¬ (IsLegalContinuation (table_behind s opened) (gate_written_sequel opened).seq (take most core.log))
        → AnswersNext c.flights c most (answers.Refused OutOfStep) × IsLife origin (after_give_up c most) s (after_taking core most) (at_gate opened along)
    follows_astray asked illegal = (
      answers_so (answers.Refused OutOfStep)
          (strays_so laws origin c s core lawful most (at_gate opened along) f (table_behind s opened) (gate_written_sequel opened).seq table (seq way) asked illegal some),
      lost laws origin c s core lawful most (at_gate opened along) f,
    )
