-- What a take does to a course.
use Rattle.std.proofs.Common.{◌≡◌, ◌≢◌, ◌∙◌, ◌+◌, ◌≤◌, inr, ℕ, zero, suc, Bool, false, Err, List, [], ◌∷◌, ◌++◌, length, take, drop, MatchBool, sym, ap, subst, refl, arith, append_assoc, length-append, take-append-drop}
use Rattle.std.proofs.lemmas.List.{length-map, take-map, drop-map, append-nil}
use Rattle.lw_types.specs.Refusal.{number_of}
use Rattle.lw_types.specs.declared.refusal.Refusal.{Refusal}
use Rattle.lw_types.specs.declared.refusal.Refusal.TheVariants.{OutOfMemory, OutOfStep, DeviceFailed}
use Rattle.devices.specs.declared.command.Command.{Command}
use Rattle.sessions.specs.Table.{TableState, fold_of}
use Rattle.sessions.specs.Decision.{ContinueAll, FitAll, AreNumbered, IsLegalContinuation, with_decisions, commands_of}
use Rattle.sessions.specs.declared.decision.Decision.{Decision}
use Rattle.world.specs.Folding.{RunLaws}
use Rattle.session_core.specs.State.{DecisionsState, IsLawful}
use Rattle.session_core.specs.Deciding.{after_taking}
use Rattle.store.specs.Flights.{Stage, durable_in, in_flight}
use Rattle.store.specs.Phases.{IsBegunOn, begun_sequel}
use Rattle.store.specs.State.{StoreState}
use Rattle.store.specs.UnderWay.{flight}
use Rattle.store.specs.declared.phases.Begun.{Begun}
use Rattle.store.specs.declared.under_way.UnderWay.TheVariants as ways
use Rattle.flusher.specs.declared.room.Room.{Room}
use Rattle.world.specs.declared.answer.Answer.{Answer}
use Rattle.world.specs.declared.answer.Answer.TheVariants as answers
use Rattle.world.specs.declared.commit.LastCommit.TheVariants as commits
use Rattle.world.specs.declared.commit.Pipeline.{Pipeline}
use Rattle.world.specs.Course.{Origin, Course, after_take, after_give_up, table_from, number_from}
use Rattle.world.specs.Answers.{AnswersTake, Beside, Takes}
use Rattle.world.specs.Commits.{at_rest, flights_of}
use Rattle.world.specs.Follows.{AreAt, IsHealthy, IsLife, taken_commands}
use Rattle.world.specs.Tells.{told_by}
use Rattle.world.proofs.Flights.{flying_begun, leaves_begun, stored_begun}

none_left : {A : Type 0} (xs : List A) → length xs ≡ 0 → xs ≡ []
none_left [] h = refl
none_left (x ∷ xs) h = absurd (omega (arith, h))

pub some_wait : (ds : List Decision) (commands : List Command) → commands_of ds ≡ commands → ds ≢ [] → commands ≢ []
some_wait ds commands is some none =
    let count = length-map ds (λ (d : Decision). d.command) in
    let size = ap length (is ∙ none) in
    some (none_left ds (omega (arith, count, size)))

one_number : (n m : ℕ) (ds : List Decision) → AreNumbered n ds → AreNumbered m ds → ds ≢ [] → n ≡ m
one_number n m [] a b some = absurd (some refl)
one_number n m (d ∷ ds) a b some = let first = a.0 in let second = b.0 in omega (arith, first, second)

pub when_healthy : (b : Bool) (X Y : Type 0) → b ≡ false → MatchBool b X Y → Y
when_healthy b X Y is h = subst (λ b. MatchBool b X Y) is h

take_some : (n : ℕ) (ds : List Decision) → 1 ≤ n → ds ≢ [] → take n ds ≢ []
take_some n [] some_asked some = absurd (some refl)
take_some zero (d ∷ ds) some_asked some = absurd (omega (arith, some_asked))
take_some (suc n) (d ∷ ds) some_asked some = λ none. let size = ap length none in absurd (omega (arith, size))

-- a list after what was taken
behind_all : (settled flying lost more : List Command) → (settled ++ (flying ++ lost)) ++ more ≡ settled ++ (flying ++ (lost ++ more))
behind_all settled flying lost more =
    append_assoc settled (flying ++ lost) more ∙ ap (λ l. settled ++ l) (append_assoc flying lost more)

-- if nothing was lost it is a batch after the others
behind_flights : (settled flying lost more : List Command) → lost ≡ [] → (settled ++ (flying ++ lost)) ++ more ≡ settled ++ ((flying ++ more) ++ lost)
behind_flights settled flying lost more none =
    subst (λ lost. (settled ++ (flying ++ lost)) ++ more ≡ settled ++ ((flying ++ more) ++ lost)) (sym none)
    (behind_all settled flying [] more ∙ ap (λ l. settled ++ l) (sym (append-nil (flying ++ more))))

-- The decisions that are taken are those of the commands that are taken.
module _ (laws : RunLaws) (origin : Origin) (c : Course) (s : StoreState) (core : DecisionsState) (lawful : IsLawful core) (most : ℕ) (begun : Pipeline)
    (f : IsLife origin c s core begun) where
  pub commands : commands_of (take most core.log) ≡ take most c.untaken
  commands = sym (take-map (λ (d : Decision). d.command) most core.log) ∙ ap (take most) f.untaken

  rest : commands_of (drop most core.log) ≡ drop most c.untaken
  rest = sym (drop-map (λ (d : Decision). d.command) most core.log) ∙ ap (drop most) f.untaken

  count : length (take most core.log) ≡ length (take most c.untaken)
  count = sym (length-map (take most core.log) (λ (d : Decision). d.command)) ∙ ap length commands

  continues : ContinueAll core.base (core.opening + core.taken) (take most core.log)
  continues =
      let P : List Decision → Type 0 = λ l. ContinueAll core.base (core.opening + core.taken) l in
      (laws.split core.base (core.opening + core.taken) (take most core.log) (drop most core.log) (subst P (sym (take-append-drop most core.log)) lawful.continues)).0

  base : with_decisions core.base (take most core.log) ≡ table_from origin (taken_commands c ++ take most c.untaken)
  base =
      sym (laws.folding core.base (take most core.log) continues.fit)
      ∙ (ap (fold_of core.base) commands
      ∙ (ap (λ t. fold_of t (take most c.untaken)) f.base ∙ sym (laws.joined origin.table (taken_commands c) (take most c.untaken))))

  number : core.opening + (core.taken + length (take most core.log)) ≡ number_from origin (taken_commands c ++ take most c.untaken)
  number =
      let whole = length-append (taken_commands c) (take most c.untaken) in
      let before = f.number in
      let size = count in
      omega (arith, whole, before, size)

  pub waits : core.log ≢ [] → c.untaken ≢ []
  waits some = some_wait core.log c.untaken f.untaken some

  pub counted : (n : ℕ) → n ≡ length (take most core.log) → n ≡ length (take most c.untaken)
  counted n is = is ∙ count

  -- the batch is lost
  pub lost : IsLife origin (after_give_up c most) s (after_taking core most) begun
  lost =
      let lists = behind_all c.settled (in_flight c.flights) c.given_up (take most c.untaken) in
      record {
        table = f.table;
        seq = f.seq;
        base = base ∙ ap (table_from origin) lists;
        number = number ∙ ap (number_from origin) lists;
        untaken = rest;
        made = f.made;
        under_way = f.under_way;
        healthy = f.healthy;
        survives = f.survives;
      }

  -- the batch is begun after the others
  pub begins : (next : Pipeline) → c.given_up ≡ [] → AreAt origin c.settled (after_take c most).flights c.checkpoint s next → IsHealthy s next.last
      → IsLife origin (after_take c most) s (after_taking core most) next
  begins next none at healthy =
      let batch = take most c.untaken in
      let stored = stored_begun c.settled c.flights batch in
      let lists = behind_flights c.settled (in_flight c.flights) c.given_up batch none
      ∙ ap (λ l. c.settled ++ (l ++ c.given_up)) (sym (flying_begun c.flights batch)) in
      record {
        table = f.table ∙ ap (table_from origin) (sym stored);
        seq = f.seq ∙ ap (number_from origin) (sym stored);
        base = base ∙ ap (table_from origin) lists;
        number = number ∙ ap (number_from origin) lists;
        untaken = rest;
        made = f.made;
        under_way = at;
        healthy = healthy;
        survives = λ image p. let found = f.survives image p in (found.0, leaves_begun c.settled c.flights batch found.0 found.1, found.2);
      }

  -- Whether the batch would follow this table and number, to which all batches lead.
  module _ (t : TableState) (n : ℕ) (t_is : t ≡ table_from origin (c.settled ++ in_flight c.flights)) (n_is : n ≡ number_from origin (c.settled ++ in_flight c.flights)) where
    -- a legal batch has no lost one before it
    none_lost : (ds : List Decision) → ds ≡ take most core.log → IsLegalContinuation t n ds → c.given_up ≡ []
    none_lost ds is legal =
        let same : n ≡ core.opening + core.taken = one_number n (core.opening + core.taken) ds legal.continues.numbered
        (subst (AreNumbered (core.opening + core.taken)) (sym is) continues.numbered) legal.some in
        let settled = n_is in
        let before = f.number in
        let whole = ap length (append_assoc c.settled (in_flight c.flights) c.given_up) in
        let size = length-append (c.settled ++ in_flight c.flights) c.given_up in
        none_left c.given_up (omega (arith, same, settled, before, whole, size))

    -- and one with no lost one before it is legal
    is_legal : 1 ≤ most → core.log ≢ [] → c.given_up ≡ [] → IsLegalContinuation t n (take most core.log)
    is_legal asked some none =
        let alone : taken_commands c ≡ c.settled ++ in_flight c.flights =
        ap (λ g. c.settled ++ (in_flight c.flights ++ g)) none ∙ ap (λ l. c.settled ++ l) (append-nil (in_flight c.flights)) in
        let table : core.base ≡ t = f.base ∙ (ap (table_from origin) alone ∙ sym t_is) in
        let seq : core.opening + core.taken ≡ n = f.number ∙ (ap (number_from origin) alone ∙ sym n_is) in
        record {
          some = take_some most core.log asked some;
          continues =
              subst (λ t. ContinueAll t n (take most core.log)) table
              (subst (λ n. ContinueAll core.base n (take most core.log)) seq continues);
        }

    pub taken_so : (ds : List Decision) → ds ≡ take most core.log → IsLegalContinuation t n ds → core.log ≢ [] → (m : ℕ) → m ≡ length (take most core.log)
        → (c.given_up ≡ []) × Takes c most (answers.Taken m)
    taken_so ds is legal some m count_is =
        let none = none_lost ds is legal in
        (none, (waits some, (none, counted m count_is)))

    pub given_up_so : IsLegalContinuation t n (take most core.log) → core.log ≢ [] → (m : ℕ) → m ≡ length (take most core.log) → Takes c most (answers.GivenUp m)
    given_up_so legal some m count_is = (waits some, (none_lost (take most core.log) refl legal, counted m count_is))

    pub strays_so : 1 ≤ most → ¬ (IsLegalContinuation t n (take most core.log)) → core.log ≢ [] → Takes c most (answers.Refused OutOfStep)
    strays_so asked illegal some = (waits some, inr (refl, λ none. illegal (is_legal asked some none)))

-- A take of a life with nothing begun, if some decisions wait.
module _ (laws : RunLaws) (origin : Origin) (c : Course) (s : StoreState) (core : DecisionsState) (lawful : IsLawful core) (most : ℕ)
    (f : IsLife origin c s core at_rest) (some : core.log ≢ []) where
  none_flying : c.flights ≡ []
  none_flying = f.under_way.flights_are ∙ f.under_way.last.0

  answers_so : (answer : Answer) → Takes c most answer → AnswersTake c.flights c most answer
  answers_so answer takes =
      subst (λ fl. AnswersTake fl c most answer) (sym none_flying)
      (subst (λ k. Beside k (Takes c most answer) answer) (sym f.under_way.last.1.1.1) takes)

  table : s.table ≡ table_from origin (c.settled ++ in_flight c.flights)
  table = f.table ∙ ap (table_from origin) (ap (durable_in c.settled) none_flying ∙ (sym (append-nil c.settled) ∙ ap (λ fl. c.settled ++ in_flight fl) (sym none_flying)))

  seq : s.seq ≡ number_from origin (c.settled ++ in_flight c.flights)
  seq = f.seq ∙ ap (number_from origin) (ap (durable_in c.settled) none_flying ∙ (sym (append-nil c.settled) ∙ ap (λ fl. c.settled ++ in_flight fl) (sym none_flying)))

  -- its batch begins
  pub takes : (phase : Begun) (room : Room) (n : ℕ) → (begun_sequel phase).decisions ≡ take most core.log
      → IsLegalContinuation s.table s.seq (begun_sequel phase).decisions → IsBegunOn s phase → n ≡ length (take most core.log)
      → AnswersTake c.flights c most (answers.Taken n)
      × IsLife origin (after_take c most) s (after_taking core most) (record at_rest { last = commits.UnderWay (ways.Begun phase room) })
  takes phase room n decisions legal on is =
      let taken = taken_so laws origin c s core lawful most at_rest f s.table s.seq table seq (begun_sequel phase).decisions decisions legal some n is in
      let stored = ap (durable_in c.settled) none_flying in
      let next = record at_rest { last = commits.UnderWay (ways.Begun phase room) } in (
        answers_so (answers.Taken n) taken.1,
        begins laws origin c s core lawful most at_rest f next taken.0 (record {
          behind = flights_of (flight Stage.Begun (begun_sequel phase).decisions ∷ []);
          flights_are =
              ap (λ fl. fl ++ record { batch = take most c.untaken; stage = Stage.Begun } ∷ []) none_flying
              ∙ ap (λ l. record { batch = l; stage = Stage.Begun } ∷ []) (sym (ap commands_of decisions ∙ commands laws origin c s core lawful most at_rest f));
          fit = tt;
          last = (
            refl,
            (
              (subst (λ t. FitAll t (begun_sequel phase).decisions) (f.table ∙ ap (table_from origin) stored) legal.continues.fit, tt),
              (on, f.under_way.last.1.1.1),
            ),
          );
        }) f.healthy,
      )

  -- or is lost because memory ran out
  pub loses : (n : ℕ) → IsLegalContinuation s.table s.seq (take most core.log) → n ≡ length (take most core.log)
      → AnswersTake c.flights c most (answers.GivenUp n) × IsLife origin (after_give_up c most) s (after_taking core most) at_rest
  loses n legal is = (
    answers_so (answers.GivenUp n) (given_up_so laws origin c s core lawful most at_rest f s.table s.seq table seq legal some n is),
    lost laws origin c s core lawful most at_rest f,
  )

  -- or is out of step
  pub strays : 1 ≤ most → ¬ (IsLegalContinuation s.table s.seq (take most core.log))
      → AnswersTake c.flights c most (answers.Refused OutOfStep) × IsLife origin (after_give_up c most) s (after_taking core most) at_rest
  strays asked illegal = (
    answers_so (answers.Refused OutOfStep) (strays_so laws origin c s core lawful most at_rest f s.table s.seq table seq asked illegal some),
    lost laws origin c s core lawful most at_rest f,
  )

pub same_commits : (a b : Pipeline) → a.ahead ≡ b.ahead → a.last ≡ b.last → a ≡ b
same_commits a b ahead last = ap (λ x. record { ahead = x; last = a.last }) ahead ∙ ap (λ y. record { ahead = b.ahead; last = y }) last

-- the same life, by equal parts
pub moved : (origin : Origin) (c : Course) (s s' : StoreState) (core core' : DecisionsState) (commit commit' : Pipeline)
    → s' ≡ s → core' ≡ core → commit' ≡ commit → IsLife origin c s core commit → IsLife origin c s' core' commit'
moved origin c s s' core core' commit commit' store core_is commit_is f =
    subst (λ s. IsLife origin c s core' commit') (sym store)
    (subst (λ k. IsLife origin c s k commit') (sym core_is) (subst (λ m. IsLife origin c s core m) (sym commit_is) f))

no_memory : OutOfStep ≢ OutOfMemory
no_memory h = let numbers = ap number_of h in absurd (omega (arith, numbers))

-- the answer for a batch that wasn't begun: if memory ran out it is given up, else it is out of
-- step
pub told_so : (e : Refusal) (n : ℕ) (P : Answer → Type 0) → (e ≡ OutOfMemory → P (answers.GivenUp n))
    → (e ≢ OutOfMemory → (e ≡ OutOfStep) × P (answers.Refused OutOfStep)) → P (told_by (Err e) n)
told_so OutOfMemory n P lost astray = lost refl
told_so OutOfStep n P lost astray = (astray no_memory).1
told_so e n P lost astray =
    let is = (astray (λ is. let n = ap number_of is in absurd (omega (arith, n)))).0 in
    let m = ap number_of is in absurd (omega (arith, m))

pub device_memory : DeviceFailed ≡ OutOfMemory → ⊥
device_memory h = let numbers = ap number_of h in absurd (omega (arith, numbers))
