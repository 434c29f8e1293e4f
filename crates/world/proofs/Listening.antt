-- What a core hears is what its course says.
use Rattle.std.proofs.Common.{◌≡◌, ◌∙◌, ◌+◌, ℕ, Bool, true, false, List, [], ◌∷◌, ◌++◌, take, Option, Some, None, Result, Ok, Err, refl, sym, ap, subst}
use Rattle.std.specs.Bool.{MatchBool}
use Rattle.lw_types.specs.Answer.{Answers}
use Rattle.lw_types.specs.declared.refusal.Refusal.{Refusal}
use Rattle.lw_types.specs.declared.frame_copy.FrameCopy.{FrameCopy}
use Rattle.devices.specs.declared.command.Command.{Command}
use Rattle.dedup.specs.Groups.{Arrival, arrival}
use Rattle.dedup.specs.Windows.{Window, StandFor, windows_with}
use Rattle.session_core.specs.Deciding.{verdict_of}
use Rattle.session_core.specs.Core.{CoreState, IsLawfulCore, new_core}
use Rattle.session_core.specs.Events.{Asks, Hears, Starves, Ticks, has_due, IsTurn as IsCoreTurn}
use Rattle.session_core.specs.Standing.{with_copy}
use Rattle.session_core.specs.declared.turn.Turn.{Turn}
use Rattle.sessions.specs.Table.{TableState}
use Rattle.store.specs.State.{StoreState}
use Rattle.world.specs.Folding.{RunLaws}
use Rattle.store.specs.Flights.{Flight}
use Rattle.world.specs.declared.commit.Pipeline.{Pipeline}
use Rattle.session_core.specs.declared.event.Event.{Event}
use Rattle.session_core.specs.declared.event.Event.TheVariants as events
use Rattle.world.specs.declared.step.Step.TheVariants as steps
use Rattle.world.specs.Course.{Origin, Course, after_commands, at_moment, step_commands, handed_in_count, after_copy, after_release, with_closings, after_event}
use Rattle.world.specs.Answers.{IsTurnAnswer}
use Rattle.world.specs.Links.{HasSaid, Piece, heard_on, stream_on}
use Rattle.world.specs.declared.links.Links.{Links}
use Rattle.link_messages.specs.Feeding.{FeedState, new_feed}
use Rattle.world.specs.Follows.{IsLife, IsListening}
use Rattle.world.proofs.Shapes.{admit-shape}
use Rattle.world.proofs.Turning.{admit-arrivals, admit-clock, admit-shut, closed, outcome-clock, turns-asked, turns-heard, turns-missed, turns-ticked}

-- a course and a core that differ from these in other things
pub listens-on : (c c' : Course) (core core' : CoreState) (links links' : Links) → c'.clock ≡ c.clock → c'.arrivals ≡ c.arrivals → c'.shut ≡ c.shut → c'.pieces ≡ c.pieces
    → core'.clock ≡ core.clock → core'.windows ≡ core.windows → links' ≡ links → IsListening c core links → IsListening c' core' links'
listens-on c c' core core' links links' clock arrivals shut pieces core_clock windows same f =
    record {
      clock = core_clock ∙ (f.clock ∙ sym clock);
      windows =
          subst (λ ws. StandFor ws c'.arrivals c'.shut c'.clock) (sym windows)
          (subst (λ (l : List Arrival). StandFor core.windows l c'.shut c'.clock) (sym arrivals)
          (subst (λ n. StandFor core.windows c.arrivals n c'.clock) (sym shut) (subst (λ now. StandFor core.windows c.arrivals c.shut now) (sym clock) f.windows)));
      said = λ link.
          subst (λ (k : List Piece). HasSaid (stream_on link k) (heard_on links' link)) (sym pieces)
          (subst (λ (k : Links). HasSaid (stream_on link c.pieces) (heard_on k link)) (sym same) (f.said link));
    }

pub listens-released : (origin : Origin) (c : Course) (flights : List (Flight Command)) (core : CoreState) (links : Links) → IsListening c core links
    → IsListening (after_release origin c flights) core links
listens-released origin c [] core links f = f
listens-released origin c (flight ∷ flights) core links f =
    listens-on c (after_release origin c (flight ∷ flights)) core core links links refl refl refl refl refl refl refl f

-- a core that begins hears nothing yet
pub listens-first : (c : Course) (core : CoreState) (links : Links) (table : TableState) (seq : ℕ) → core ≡ new_core table seq → ((link : ℕ) → heard_on links link ≡ new_feed)
    → StandFor [] [] 0 0 → c.clock ≡ 0 → c.arrivals ≡ [] → c.shut ≡ 0 → c.pieces ≡ [] → IsListening c core links
listens-first c core links table seq is silent none clock arrivals shut pieces =
    record {
      clock = ap (λ (k : CoreState). k.clock) is ∙ sym clock;
      windows =
          subst (λ (k : CoreState). StandFor k.windows c.arrivals c.shut c.clock) (sym is)
          (subst (λ (l : List Arrival). StandFor [] l c.shut c.clock) (sym arrivals)
          (subst (λ n. StandFor [] [] n c.clock) (sym shut) (subst (λ now. StandFor [] [] 0 now) (sym clock) none)));
      said = λ link.
          subst (λ (k : List Piece). HasSaid (stream_on link k) (heard_on links link)) (sym pieces)
          (subst (λ (h : FeedState). HasSaid [] h) (sym (silent link)) ([], (refl, tt), refl));
    }

module _ (origin : Origin) (c : Course) (moment : ℕ) (commands : List Command) (new : CoreState) (links : Links) (m : ℕ) (clock : new.clock ≡ (at_moment c moment).clock)
    (said : (link : ℕ) → HasSaid (stream_on link c.pieces) (heard_on links link)) where
  abbrev next : Course
  next = with_closings m (after_commands origin (at_moment c moment) commands)

  next_clock : new.clock ≡ next.clock
  next_clock = clock ∙ sym (admit-clock origin (at_moment c moment) commands)

  next_arrivals : c.arrivals ≡ next.arrivals
  next_arrivals = sym (admit-arrivals origin (at_moment c moment) commands)

  next_shut : c.shut + m ≡ next.shut
  next_shut = ap (λ k. k + m) (sym (admit-shut origin (at_moment c moment) commands))

  next_said : (link : ℕ) → HasSaid (stream_on link next.pieces) (heard_on links link)
  next_said link =
      subst (λ (k : List Piece). HasSaid (stream_on link k) (heard_on links link)) (sym (ap (λ (k : Course). k.pieces) (admit-shape origin (at_moment c moment) commands))) (said link)

  -- no copy was accepted
  pub listens-then : StandFor new.windows c.arrivals (c.shut + m) new.clock → IsListening next new links
  listens-then stand =
      record {
        clock = next_clock;
        windows =
            subst (λ now. StandFor new.windows next.arrivals next.shut now) next_clock
            (subst (λ n. StandFor new.windows next.arrivals n new.clock) next_shut (subst (λ (l : List Arrival). StandFor new.windows l (c.shut + m) new.clock) next_arrivals stand));
        said = next_said;
      }

  -- a copy was accepted, or refused
  pub listens-heard : (copy : FrameCopy) (refused : Option Refusal) → StandFor new.windows (with_copy refused new.clock copy c.arrivals) (c.shut + m) new.clock
      → IsListening (after_copy copy refused next) new links
  listens-heard copy (Some e) stand = listens-then stand
  listens-heard copy None stand =
      record {
        clock = next_clock;
        windows =
            subst (λ now. StandFor new.windows (next.arrivals ++ arrival now copy ∷ []) next.shut now) next_clock
            (subst (λ n. StandFor new.windows (next.arrivals ++ arrival new.clock copy ∷ []) n new.clock) next_shut
            (subst (λ (l : List Arrival). StandFor new.windows (l ++ arrival new.clock copy ∷ []) (c.shut + m) new.clock) next_arrivals stand));
        said = next_said;
      }

-- an event's own leaves the effective time
clock_by : (between new : CoreState) (refused : Option Refusal) (X : Type 0) (b : Bool) → MatchBool b (Starves between refused new) X → (X → new.clock ≡ between.clock)
    → new.clock ≡ between.clock
clock_by between new refused X true own kept = ap (λ (k : CoreState). k.clock) own.1
clock_by between new refused X false own kept = kept own

heard_clock : (copy : FrameCopy) (s : CoreState) (refused : Option Refusal) (new : CoreState) → Hears copy s refused new → new.clock ≡ s.clock
heard_clock copy s (Some e) new own = ap (λ (k : CoreState). k.clock) own.same
heard_clock copy s None new own = by (windows_with s.windows s.clock copy) (own.receivable own.known)
  where
    by : (found : Result (List Window) Refusal) → Answers {A = List Window} {B = Unit {0}} found (λ ws _. new ≡ record s { windows = ws }) (Ok tt) → new.clock ≡ s.clock
    by (Ok ws) h = ap (λ (k : CoreState). k.clock) h
    by (Err e) h = absurd (no_refusal e h)
      where
        no_refusal : (e : Refusal) → ◌≡◌ {A = Result (Unit {0}) Refusal} (Ok tt) (Err e) → ⊥
        no_refusal e h = cc

module _ (laws : RunLaws) (origin : Origin) (s : StoreState) (commit : Pipeline) (c : Course) (moment : ℕ) (old new : CoreState) (links : Links) (turn : Turn)
    (f : IsLife origin c s old.decisions commit) (listens : IsListening c old links) (lawful : IsLawfulCore old) where
  -- the answer to an event, and where its life is then
  abbrev Does : Event → Type 0
  Does event =
      IsTurnAnswer origin c moment event turn new.closings
      × (IsLife origin (after_event origin c moment event turn.refused new.closings) s new.decisions commit
      × IsListening (after_event origin c moment event turn.refused new.closings) new links)

  old_stands : StandFor old.windows c.arrivals c.shut old.clock
  old_stands = subst (λ now. StandFor old.windows c.arrivals c.shut now) (sym listens.clock) listens.windows

  pub does-tick : IsCoreTurn old moment Ticks turn new → (StandFor old.windows c.arrivals c.shut old.clock → StandFor new.windows c.arrivals (c.shut + new.closings) new.clock)
      → Does events.Tick
  does-tick h law =
      let k = closed laws origin s commit c old links moment Ticks turn new f listens lawful.decisions h in
      let done = turns-ticked laws origin s commit c moment h.between k new turn h.own (h.from ∙ f.made) h.to in
      let clock = clock_by h.between new turn.refused (Ticks h.between turn.refused new) (has_due h.between) h.own (λ own. ap (λ (k : CoreState). k.clock) own.1) ∙ k.clock in
      (done.0, (done.1, listens-then origin c moment (take (handed_in_count events.Tick turn.refused new.closings) (step_commands c (steps.Event moment events.Tick))) new links new.closings clock listens.said (law old_stands)))

  pub does-ask : (command : Command) → IsCoreTurn old moment (Asks command) turn new
      → (StandFor old.windows c.arrivals c.shut old.clock → StandFor new.windows c.arrivals (c.shut + new.closings) new.clock) → Does (events.Ask command)
  does-ask command h law =
      let k = closed laws origin s commit c old links moment (Asks command) turn new f listens lawful.decisions h in
      let done = turns-asked laws origin s commit c moment h.between k command new turn h.own (h.from ∙ f.made) h.to in
      let clock =
      clock_by h.between new turn.refused (Asks command h.between turn.refused new) (has_due h.between) h.own
      (λ own. ap (λ (k : CoreState). k.clock) own.new_is ∙ outcome-clock h.between own.decisions (verdict_of turn.refused)) ∙ k.clock in
      (done.0, (done.1, listens-then origin c moment (take (handed_in_count (events.Ask command) turn.refused new.closings) (step_commands c (steps.Event moment (events.Ask command)))) new links new.closings clock listens.said (law old_stands)))

  pub does-hear : (copy : FrameCopy) → IsCoreTurn old moment (Hears copy) turn new
      → (StandFor old.windows c.arrivals c.shut old.clock → StandFor new.windows (with_copy turn.refused new.clock copy c.arrivals) (c.shut + new.closings) new.clock) → Does (events.Hear copy)
  does-hear copy h law =
      let k = closed laws origin s commit c old links moment (Hears copy) turn new f listens lawful.decisions h in
      let done = turns-heard laws origin s commit c moment h.between k copy new turn h.own (h.from ∙ f.made) h.to in
      let clock =
      clock_by h.between new turn.refused (Hears copy h.between turn.refused new) (has_due h.between) h.own (heard_clock copy h.between turn.refused new) ∙ k.clock in
      (done.0, (done.1, listens-heard origin c moment (take (handed_in_count (events.Hear copy) turn.refused new.closings) (step_commands c (steps.Event moment (events.Hear copy)))) new links new.closings clock listens.said copy turn.refused (law old_stands)))

  pub does-miss : (copy : FrameCopy) → IsCoreTurn old moment Starves turn new
      → (StandFor old.windows c.arrivals c.shut old.clock → StandFor new.windows (with_copy turn.refused new.clock copy c.arrivals) (c.shut + new.closings) new.clock) → Does (events.Hear copy)
  does-miss copy h law =
      let k = closed laws origin s commit c old links moment Starves turn new f listens lawful.decisions h in
      let done = turns-missed laws origin s commit c moment h.between k copy new turn h.own (h.from ∙ f.made) h.to in
      let clock =
      clock_by h.between new turn.refused (Starves h.between turn.refused new) (has_due h.between) h.own (λ own. ap (λ (k : CoreState). k.clock) own.1) ∙ k.clock in
      (done.0, (done.1, listens-heard origin c moment (take (handed_in_count (events.Hear copy) turn.refused new.closings) (step_commands c (steps.Event moment (events.Hear copy)))) new links new.closings clock listens.said copy turn.refused (law old_stands)))
