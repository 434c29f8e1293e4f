-- Batches of decisions, and the same of their commands.
use Rattle.std.proofs.Common.{◌≡◌, ◌∙◌, inl, inr, List, [], ◌∷◌, ◌++◌, Option, Some, None, sym, ap, subst, refl}
use Rattle.std.proofs.lemmas.List.{map-append}
use Rattle.devices.specs.declared.command.Command.{Command}
use Rattle.flusher.specs.declared.durable.Durable.{Durable as Done}
use Rattle.flusher.specs.Released.{decisions_of}
use Rattle.sessions.specs.Table.{TableState, fold_of}
use Rattle.sessions.specs.Decision.{commands_of, with_decision, with_decisions}
use Rattle.sessions.specs.declared.decision.Decision.{Decision}
use Rattle.store.specs.Flights.{Flight, MayLeave, Stage, all_failed, all_succeeded, durable_in, next_stage_before, with_durable}
use Rattle.store.specs.Flights.Stage.{Begun, Durable}
use Rattle.world.specs.Commits.{FitFlights, flight_of, flights_ahead, flights_of, settled_ahead}
use Rattle.world.specs.Folding.{RunLaws}
use Rattle.world.proofs.Flights.{by_case, by_stage}

joined : (xs ys : List Decision) → commands_of (xs ++ ys) ≡ commands_of xs ++ commands_of ys
joined xs ys = map-append (λ (d : Decision). d.command) xs ys

-- a call does the same to both
pub succeeded_of : (flights : List (Flight Decision)) → all_succeeded (flights_of flights) ≡ flights_of (all_succeeded flights)
succeeded_of [] = refl
succeeded_of (flight ∷ []) = refl
succeeded_of (flight ∷ next ∷ rest) =
    ap (λ l. record { batch = commands_of flight.batch; stage = next_stage_before next.stage flight.stage } ∷ l) (succeeded_of (next ∷ rest))

pub failed_of : (flights : List (Flight Decision)) → all_failed (flights_of flights) ≡ flights_of (all_failed flights)
failed_of [] = refl
failed_of (flight ∷ flights) = ap (λ l. all_failed (flight_of flight ∷ []) ++ l) (failed_of flights)

-- and so does a crash
pub leaves_of : (settled : List Decision) (flights : List (Flight Decision)) (kept : List Decision) → MayLeave settled flights kept
    → MayLeave (commands_of settled) (flights_of flights) (commands_of kept)
leaves_of settled [] kept is = ap commands_of is
leaves_of settled (flight ∷ flights) kept h =
    by_stage flight.stage _ _ _ _ _ _
    (λ there. subst (λ l. MayLeave l (flights_of flights) (commands_of kept)) (joined settled flight.batch) (leaves_of (settled ++ flight.batch) flights kept there))
    (λ doubtful. elim doubtful [
      | inl is ↦ inl (ap commands_of is)
      | inr is ↦ inr (ap commands_of is ∙ joined settled flight.batch)
    ])
    (λ is. ap commands_of is) h

durable_at : (stage : Stage) (settled more : List Decision) (others : List Command) → commands_of more ≡ others
    → commands_of (with_durable stage settled more) ≡ with_durable stage (commands_of settled) others
durable_at Durable settled more others is = is
durable_at stage settled more others is = refl

pub durable_of : (settled : List Decision) (flights : List (Flight Decision)) → commands_of (durable_in settled flights) ≡ durable_in (commands_of settled) (flights_of flights)
durable_of settled [] = refl
durable_of settled (flight ∷ flights) =
    durable_at flight.stage settled _ _
    (durable_of (settled ++ flight.batch) flights ∙ ap (λ l. durable_in l (flights_of flights)) (joined settled flight.batch))

-- decisions one after another
both : (t : TableState) (xs ys : List Decision) → with_decisions t (xs ++ ys) ≡ with_decisions (with_decisions t xs) ys
both t [] ys = refl
both t (d ∷ xs) ys = both (with_decision t d) xs ys

-- what may be left of batches that fit leaves the fold of its commands
pub kept_folds : (laws : RunLaws) (t : TableState) (settled : List Decision) (flights : List (Flight Decision)) (kept : List Decision)
    → with_decisions t settled ≡ fold_of t (commands_of settled) → FitFlights (with_decisions t settled) flights → MayLeave settled flights kept
    → with_decisions t kept ≡ fold_of t (commands_of kept)
kept_folds laws t settled [] kept before fit is = subst (λ ds. with_decisions t ds ≡ fold_of t (commands_of ds)) (sym is) before
kept_folds laws t settled (flight ∷ flights) kept before fit h =
    let there = both t settled flight.batch in
    let more : with_decisions t (settled ++ flight.batch) ≡ fold_of t (commands_of (settled ++ flight.batch)) =
    there
    ∙ (sym (laws.folding (with_decisions t settled) flight.batch fit.0)
    ∙ (ap (λ t. fold_of t (commands_of flight.batch)) before
    ∙ (sym (laws.joined t (commands_of settled) (commands_of flight.batch)) ∙ ap (fold_of t) (sym (joined settled flight.batch))))) in
    let P : List Decision → Type 0 = λ ds. with_decisions t ds ≡ fold_of t (commands_of ds) in
    by_case flight.stage _ _ _ (P kept)
    (λ behind. kept_folds laws t (settled ++ flight.batch) flights kept more (subst (λ t. FitFlights t flights) (sym there) fit.1) behind)
    (λ doubtful. elim doubtful [
      | inl is ↦ subst P (sym is) before
      | inr is ↦ subst P (sym is) more
    ])
    (λ is. subst P (sym is) before) h

-- a call leaves them as they fit
pub fit_succeeded : (t : TableState) (flights : List (Flight Decision)) → FitFlights t flights → FitFlights t (all_succeeded flights)
fit_succeeded t [] fit = fit
fit_succeeded t (flight ∷ []) fit = fit
fit_succeeded t (flight ∷ next ∷ rest) fit = (fit.0, fit_succeeded (with_decisions t flight.batch) (next ∷ rest) fit.1)

pub fit_failed : (t : TableState) (flights : List (Flight Decision)) → FitFlights t flights → FitFlights t (all_failed flights)
fit_failed t [] fit = fit
fit_failed t (flight ∷ flights) fit = (fit.0, fit_failed (with_decisions t flight.batch) flights fit.1)

-- ---- after a batch that is ahead

still_durable : (stage : Stage) → next_stage_before stage Durable ≡ Durable
still_durable Begun = refl
still_durable stage = refl

behind_durable : (batch : List Command) (rest : List (Flight Command))
    → all_succeeded (record { batch = batch; stage = Durable } ∷ rest) ≡ record { batch = batch; stage = Durable } ∷ all_succeeded rest
behind_durable batch [] = refl
behind_durable batch (next ∷ rest) = ap (λ stage. record { batch = batch; stage = stage } ∷ all_succeeded (next ∷ rest)) (still_durable next.stage)

pub front_succeeded : (ahead : Option Done) (rest : List (Flight Command))
    → all_succeeded (flights_of (flights_ahead ahead) ++ rest) ≡ flights_of (flights_ahead ahead) ++ all_succeeded rest
front_succeeded None rest = refl
front_succeeded (Some durable) rest = behind_durable (commands_of (decisions_of durable)) rest

pub front_failed : (ahead : Option Done) (rest : List (Flight Command))
    → all_failed (flights_of (flights_ahead ahead) ++ rest) ≡ flights_of (flights_ahead ahead) ++ all_failed rest
front_failed None rest = refl
front_failed (Some durable) rest = refl

pub front_stored : (settled : List Command) (ahead : Option Done) (rest : List (Flight Command))
    → durable_in settled (flights_of (flights_ahead ahead) ++ rest) ≡ durable_in (settled_ahead settled ahead) rest
front_stored settled None rest = refl
front_stored settled (Some durable) rest = refl

pub front_leaves : (settled : List Command) (ahead : Option Done) (rest : List (Flight Command)) (kept : List Command)
    → MayLeave (settled_ahead settled ahead) rest kept → MayLeave settled (flights_of (flights_ahead ahead) ++ rest) kept
front_leaves settled None rest kept h = h
front_leaves settled (Some durable) rest kept h = h
