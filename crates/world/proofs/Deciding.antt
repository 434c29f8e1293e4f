-- What a course decides is what its core decides.
use Rattle.std.proofs.Common.{◌≡◌, ◌≢◌, ◌∙◌, ◌+◌, [], ◌∷◌, ◌++◌, length, ◌&&◌, cond, nat_lt, inl, inr, Bool, true, false, Result, Ok, Err, sym, ap, subst, refl, arith, append_assoc, length-append}
use Rattle.std.specs.Bool.{MatchBool}
use Rattle.std.specs.Result.{OnErr}
use Rattle.std.proofs.lemmas.List.{length-map, map-append}
use Rattle.lw_types.specs.Answer.{Answers, AnswersWithMemory}
use Rattle.lw_types.specs.declared.refusal.Refusal.{Refusal}
use Rattle.lw_types.specs.declared.refusal.Refusal.TheVariants.{Backlog, OutOfMemory}
use Rattle.devices.specs.declared.command.Command.{Command}
use Rattle.sessions.specs.Table.{TableState, TableStep, fold_of, step}
use Rattle.sessions.specs.Decision.{AnswersTo, is_frugal}
use Rattle.sessions.specs.declared.decision.Decision.{Decision}
use Rattle.world.specs.Folding.{RunLaws}
use Rattle.session_core.specs.declared.decisions.TheConstants.{MOST_UNTAKEN, LAST_NUMBER}
use Rattle.session_core.specs.State.{DecisionsState, IsLawful, now_of, last_number}
use Rattle.session_core.specs.Deciding.{Keeps, Makes, has_room as core_has_room, step_if_room as core_step_if_room}
use Rattle.store.specs.Flights.{in_flight}
use Rattle.store.specs.State.{StoreState}
use Rattle.world.specs.declared.commit.Pipeline.{Pipeline}
use Rattle.world.specs.Course.{Origin, Course, decided_commands, table_from, number_from, has_room, step_if_room, after_command}
use Rattle.world.specs.Follows.{IsLife, taken_commands}

not_refused : (why : Refusal) → ◌≡◌ {A = Result (Unit {0}) Refusal} (Ok tt) (Err why) → ⊥
not_refused why h = cc

no_step : (st : TableStep) (why : Refusal) → ◌≡◌ {A = Result TableStep Refusal} (Ok st) (Err why) → ⊥
no_step st why h = cc

pub decided_is : (c : Course) → taken_commands c ++ c.untaken ≡ decided_commands c
decided_is c =
    append_assoc c.settled (in_flight c.flights ++ c.given_up) c.untaken ∙ ap (λ l. c.settled ++ l) (append_assoc (in_flight c.flights) c.given_up c.untaken)

-- the course after a command that gets this, and has this answer
abbrev pub answered : Course → Command → Result TableStep Refusal → Result (Unit {0}) Refusal → Course
answered c command outcome (Err OutOfMemory) = c
answered c command outcome result = after_command c command outcome

refused_stays : (c : Course) (command : Command) (why e : Refusal) → c ≡ answered c command (Err why) (Err e)
refused_stays c command why OutOfMemory = refl
refused_stays c command why e = refl

pub with-memory : (c : Course) (command : Command) (outcome : Result TableStep Refusal) (result : Result (Unit {0}) Refusal) → result ≢ Err OutOfMemory
    → answered c command outcome result ≡ after_command c command outcome
with-memory c command outcome (Ok done) memory = refl
with-memory c command outcome (Err OutOfMemory) memory = absurd (memory refl)
with-memory c command outcome (Err e) memory = refl

module _ (laws : RunLaws) (origin : Origin) (c : Course) (s : StoreState) (core : DecisionsState) (commit : Pipeline) (lawful : IsLawful core)
    (f : IsLife origin c s core commit) where
  pub waiting : length core.log ≡ length c.untaken
  waiting = sym (length-map core.log (λ (d : Decision). d.command)) ∙ ap length f.untaken

  pub last : last_number core ≡ number_from origin (decided_commands c)
  last =
      let whole : length (decided_commands c) ≡ length (taken_commands c) + length c.untaken = sym (ap length (decided_is c)) ∙ length-append (taken_commands c) c.untaken in
      let log = waiting in
      omega (arith, lawful.count, f.number, log, whole)

  pub now_is : now_of core ≡ table_from origin (decided_commands c)
  now_is =
      sym (laws.folding core.base core.log lawful.continues.fit)
      ∙ (ap (fold_of core.base) f.untaken
      ∙ (ap (λ t. fold_of t c.untaken) f.base ∙ (sym (laws.joined origin.table (taken_commands c) c.untaken) ∙ ap (table_from origin) (decided_is c))))

  room_is : core_has_room core ≡ has_room origin c
  room_is =
      ap (λ n. nat_lt n MOST_UNTAKEN && nat_lt (last_number core) LAST_NUMBER) waiting
      ∙ ap (λ m. nat_lt (length c.untaken) MOST_UNTAKEN && nat_lt m LAST_NUMBER) last

  wanted_is : (command : Command) → core_step_if_room core command ≡ step_if_room origin c command
  wanted_is command =
      ap (λ b. cond b (step (now_of core) command) (Err Backlog)) room_is
      ∙ ap (λ (t : TableState). cond (has_room origin c) (step t command) (Err Backlog)) now_is

  -- a command was decided
  made : (command : Command) (st : TableStep) (new : DecisionsState) → Makes core command st new → IsLife origin (after_command c command (Ok st)) s new commit
  made command st new makes =
      let d = makes.decision in
      subst (λ n. IsLife origin (after_command c command (Ok st)) s n commit) (sym makes.new_is) (record {
        table = f.table;
        seq = f.seq;
        base = f.base;
        number = f.number;
        untaken =
            map-append (λ (d : Decision). d.command) core.log (d ∷ [])
            ∙ (ap (λ l. l ++ d.command ∷ []) f.untaken ∙ ap (λ k. c.untaken ++ k ∷ []) makes.is_step.command);
        made = ap (λ n. n + 1) f.made;
        under_way = f.under_way;
        healthy = f.healthy;
        survives = f.survives;
      })

  same : (new : DecisionsState) → new ≡ core → IsLife origin c s new commit
  same new is = subst (λ n. IsLife origin c s n commit) (sym is) f

  -- what is known of an answer, of a command that is frugal or not
  abbrev Verdict : {A B : Type 0} → Bool → Result A Refusal → (A → B → Type 0) → Result B Refusal → Type 0
  Verdict frugal outcome Is result = MatchBool frugal (Answers outcome Is result) (AnswersWithMemory outcome Is result)

  abbrev Became : Bool → Command → DecisionsState → Result TableStep Refusal → Result (Unit {0}) Refusal → Type 0
  Became frugal command new outcome result =
      Verdict frugal outcome (λ _ _. Unit {0}) result × IsLife origin (answered c command outcome result) s new commit

  -- memory ran out
  became_out : (frugal : Bool) (command : Command) (new : DecisionsState) (st : TableStep) (e : Refusal) → e ≡ OutOfMemory → new ≡ core
      → Verdict frugal (Ok st) (λ (_ : TableStep) (_ : Unit {0}). Unit {0}) (Err OutOfMemory) → Became frugal command new (Ok st) (Err e)
  became_out frugal command new st e is kept verdict =
      subst (λ e. Became frugal command new (Ok st) (Err e)) (sym is) (verdict, same new kept)

  -- or the command was refused
  became_err : (frugal : Bool) (command : Command) (new : DecisionsState) (why e : Refusal) → new ≡ core
      → Verdict frugal (Err why) (λ (_ : TableStep) (_ : Unit {0}). Unit {0}) (Err e) → Became frugal command new (Err why) (Err e)
  became_err frugal command new why e kept verdict =
      (verdict, subst (λ k. IsLife origin k s new commit) (refused_stays c command why e) (same new kept))

  became_by : (frugal : Bool) (command : Command) (new : DecisionsState) (outcome : Result TableStep Refusal) (result : Result (Unit {0}) Refusal)
      → Verdict frugal outcome (λ st _. Makes core command st new) result → OnErr result (new ≡ core) → Became frugal command new outcome result
  became_by true command new (Ok st) (Ok done) decided_commands kept = (tt, made command st new decided_commands)
  became_by false command new (Ok st) (Ok done) decided_commands kept = (tt, made command st new decided_commands)
  became_by true command new (Ok st) (Err e) is kept = became_out true command new st e is kept refl
  became_by false command new (Ok st) (Err e) (inl is) kept = became_out false command new st e is kept (inl refl)
  became_by false command new (Ok st) (Err e) (inr other) kept = absurd (no_step st e other)
  became_by true command new (Err why) (Ok done) is kept = absurd (not_refused why is)
  became_by false command new (Err why) (Ok done) is kept = absurd is
  became_by true command new (Err why) (Err e) is kept = became_err true command new why e kept is
  became_by false command new (Err why) (Err e) is kept = became_err false command new why e kept is

  -- what the core makes of a command is what the course says
  pub becomes : (command : Command) (result : Result (Unit {0}) Refusal) (new : DecisionsState) → Keeps core command result new
      → (has_room origin c ≡ false → result ≡ Err Backlog)
      × (AnswersTo command (step_if_room origin c command) (λ _ _. Unit {0}) result
      × IsLife origin (answered c command (step_if_room origin c command) result) s new commit)
  becomes command result new keeps =
      let found =
      subst (λ w. Became (is_frugal command w) command new w result) (wanted_is command)
      (became_by (is_frugal command (core_step_if_room core command)) command new (core_step_if_room core command) result keeps.made keeps.same) in
      (λ none. keeps.full (room_is ∙ none), (found.0, found.1))
