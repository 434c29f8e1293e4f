-- What an event of a core does to its decisions: more are made, and nothing is taken.
use Rattle.std.proofs.Common.{◌≡◌, ◌∙◌, ◌+◌, ℕ, zero, suc, Bool, true, false, List, [], ◌∷◌, ◌++◌, length, Option, Some, None, Result, Ok, Err, MatchBool, sym, ap, subst, refl, arith, rules, append_assoc, length-append}
use Rattle.std.specs.Prelude.{MatchResult, take}
use Rattle.std.specs.List.{FoldsTo}
use Rattle.std.proofs.lemmas.List.{append-nil}
use Rattle.lw_types.specs.Answer.{Answers, AnswersWithMemory}
use Rattle.lw_types.specs.declared.refusal.Refusal.{Refusal}
use Rattle.lw_types.specs.declared.refusal.Refusal.TheVariants.{OutOfMemory}
use Rattle.lw_types.specs.declared.frame_copy.FrameCopy.{FrameCopy}
use Rattle.devices.specs.declared.command.Command.{Command}
use Rattle.devices.specs.declared.command.Command.TheVariants as commands
use Rattle.sessions.specs.Decision.{is_frugal}
use Rattle.sessions.specs.Table.{TableStep}
use Rattle.sessions.specs.declared.decision.Decision.{Decision}
use Rattle.dedup.specs.Windows.{windows_with}
use Rattle.session_core.specs.State.{DecisionsState, IsLawful}
use Rattle.session_core.specs.Core.{CoreState, with_outcome}
use Rattle.session_core.specs.Deciding.{after_taking, Keeps, Makes, step_if_room, verdict_of}
use Rattle.session_core.specs.Calls.{work_of}
use Rattle.session_core.specs.Events.{Closes, Handles, Hears, IsTurn, Starves, has_due, core_at_moment}
use Rattle.session_core.specs.declared.event.Event.{Event}
use Rattle.session_core.specs.declared.event.Event.TheVariants.{Hear, Tick, Ask}
use Rattle.session_core.specs.declared.turn.Turn.{Turn}
use Rattle.sessions.specs.declared.batch.TheConstants.Batch.{MOST}
use Rattle.flusher_lives.specs.Coming.{Comes, DecidesAfterComing, GivesAfterComing, coming_first}
use Rattle.flusher_lives.specs.declared.core_feed.CoreFeed.{CoreFeed}

-- a core's decisions, once these more are made
abbrev pub with_decided : DecisionsState → List Decision → DecisionsState
with_decided s decided =
    record s { log = s.log ++ decided; made = s.made + length decided }

-- exactly these were decided meanwhile, and nothing was taken
abbrev pub HasDecided : DecisionsState → DecisionsState → Type 0
HasDecided old new = (decided : List Decision) × (new ≡ with_decided old decided)

-- what a take of at most this number returns and leaves, after these that were decided since the
-- last one
pub record TakesAfter (old : DecisionsState) (decided : List Decision) (most : ℕ)
    (answer : Result (List Decision) Refusal) (new : DecisionsState) : Type 0 where
  pub lawful : IsLawful (with_decided old decided)
  pub took : MatchResult answer
      (λ batch. (batch ≡ take most (with_decided old decided).log)
      × (new ≡ after_taking (with_decided old decided) most))
      (λ e. (e ≡ OutOfMemory) × (new ≡ with_decided old decided))

-- the same log and the same number
same_decisions : (s : DecisionsState) (l m : List Decision) (n k : ℕ) → l ≡ m → n ≡ k → record s { log = l; made = n } ≡ record s { log = m; made = k }
same_decisions s l m n k log made = ap (λ l. record s { log = l; made = n }) log ∙ ap (λ n. record s { log = m; made = n }) made

none_made : (s : DecisionsState) → s ≡ with_decided s []
none_made s =
    let more : s.made ≡ s.made + 0 = omega arith in
    same_decisions s s.log (s.log ++ []) s.made (s.made + 0) (sym (append-nil s.log)) more

pub nothing : (old new : DecisionsState) → new ≡ old → HasDecided old new
nothing old new same = ([], same ∙ none_made old)

both_made : (s : DecisionsState) (x y : List Decision) → with_decided (with_decided s x) y ≡ with_decided s (x ++ y)
both_made s x y =
    let len = length-append x y in
    let sum : s.made + length x + length y ≡ s.made + length (x ++ y) = omega (arith, len) in
    same_decisions s ((s.log ++ x) ++ y) (s.log ++ (x ++ y)) (s.made + length x + length y) (s.made + length (x ++ y)) (append_assoc s.log x y) sum

pub and_then : (a b c : DecisionsState) → HasDecided a b → HasDecided b c → HasDecided a c
and_then a b c (x, p) (y, q) = (x ++ y, q ∙ (ap (λ s. with_decided s y) p ∙ both_made a x y))

made_of : {X : Type 0} (frugal : Bool) (want : Result TableStep Refusal) (Is : TableStep → Unit {0} → Type 0) (done : Unit {0})
    → ((s : TableStep) → Is s done → X)
    → MatchBool frugal (Answers want Is (Ok done)) (AnswersWithMemory want Is (Ok done)) → X
made_of true (Ok step) Is done give h = give step h
made_of true (Err refusal) Is done give h = absurd (search (rules, h))
made_of false (Ok step) Is done give h = give step h
made_of false (Err refusal) Is done give h = absurd h

one : (old : DecisionsState) (command : Command) (result : Result (Unit {0}) Refusal) (new : DecisionsState) → Keeps old command result new → HasDecided old new
one old command (Err e) new k = nothing old new k.same
one old command (Ok done) new k =
    made_of (is_frugal command (step_if_room old command)) (step_if_room old command) (λ s _. Makes old command s new) done
    (λ (s : TableStep) (makes : Makes old command s new). (makes.decision ∷ [], makes.new_is)) k.made

-- an outcome is also noted
noted : (s : CoreState) (d : DecisionsState) (r : Result (Unit {0}) Refusal) → (with_outcome s d r).decisions ≡ d
noted s d (Ok done) = refl
noted s d (Err OutOfMemory) = refl
noted s d (Err refusal) = refl

handled : (old : CoreState) (command : Command) (result : Result (Unit {0}) Refusal) (new : CoreState) → Handles old command result new
    → HasDecided old.decisions new.decisions
handled old command result new h =
    and_then old.decisions h.decisions new.decisions (one old.decisions command result h.decisions h.kept)
    (nothing h.decisions new.decisions (ap (λ (s : CoreState). s.decisions) h.new_is ∙ noted old h.decisions result))

closed : (n : ℕ) (old new : CoreState) → Closes n old new → HasDecided old.decisions new.decisions
closed zero old new same = nothing old.decisions new.decisions (ap (λ (s : CoreState). s.decisions) same)
closed (suc n) old new (before, first, closes) =
    let hand = closes.handed_in in
    and_then old.decisions before.decisions new.decisions (closed n old before first)
    (and_then before.decisions closes.between.decisions new.decisions (handled before (commands.Heard hand.heard) closes.result closes.between hand.handled)
    (nothing closes.between.decisions new.decisions (ap (λ (s : CoreState). s.decisions) closes.new_is)))

-- a turn whose own step does so
module _ (Own : CoreState → Option Refusal → CoreState → Type 0)
    (does : (s : CoreState) (refused : Option Refusal) (new : CoreState) → Own s refused new → HasDecided s.decisions new.decisions) where
  ends : (due : Bool) (s : CoreState) (refused : Option Refusal) (new : CoreState) → MatchBool due (Starves s refused new) (Own s refused new)
      → HasDecided s.decisions new.decisions
  ends true s refused new h = nothing s.decisions new.decisions (ap (λ (s : CoreState). s.decisions) h.1)
  ends false s refused new h = does s refused new h

  turned : (old : CoreState) (moment : ℕ) (turn : Turn) (new : CoreState) → IsTurn old moment Own turn new → HasDecided old.decisions new.decisions
  turned old moment turn new h =
      let last = h.closed.last in
      and_then old.decisions last.decisions new.decisions (closed h.between.closings (core_at_moment old moment) last h.closed.closed)
      (and_then last.decisions h.between.decisions new.decisions
      (nothing last.decisions h.between.decisions (ap (λ (s : CoreState). s.decisions) h.closed.new_is))
      (ends (has_due h.between) h.between turn.refused new h.own))

heard : (copy : FrameCopy) (s : CoreState) (refused : Option Refusal) (new : CoreState) → Hears copy s refused new → HasDecided s.decisions new.decisions
heard copy s (Some e) new h = nothing s.decisions new.decisions (ap (λ (s : CoreState). s.decisions) h.same)
heard copy s None new h = taken (windows_with s.windows s.clock copy) (h.receivable h.known)
  where
    taken : (want : Result _ Refusal) → Answers want (λ ws (_ : Unit {0}). new ≡ record s { windows = ws }) (Ok tt) → HasDecided s.decisions new.decisions
    taken (Ok ws) is = nothing s.decisions new.decisions (ap (λ (s : CoreState). s.decisions) is)
    taken (Err e) is = absurd (search (rules, is))

worked : (event : Event) (s : CoreState) (refused : Option Refusal) (new : CoreState) → work_of event s refused new → HasDecided s.decisions new.decisions
worked (Hear copy) s refused new h = heard copy s refused new h
worked Tick s refused new h = nothing s.decisions new.decisions (ap (λ (s : CoreState). s.decisions) h.1)
worked (Ask command) s refused new h = handled s command (verdict_of refused) new h

-- any events that come to a core
comes : (old : CoreState) (at : ℕ × Event) (new : CoreState) → Comes old at new → HasDecided old.decisions new.decisions
comes old (moment, event) new (turn, is) = turned (work_of event) (worked event) old moment turn new is

all_come : (coming : List (ℕ × Event)) (old new : CoreState) → FoldsTo Comes old coming new → HasDecided old.decisions new.decisions
all_come [] old new same = nothing old.decisions new.decisions (ap (λ (s : CoreState). s.decisions) (sym same))
all_come (at ∷ coming) old new (next, first, rest) =
    and_then old.decisions next.decisions new.decisions (comes old at next first) (all_come coming next new rest)

-- what a take leaves of the decisions
taken : (between new : CoreState) (most : ℕ) (answer : Result (List Decision) Refusal)
    → MatchResult answer
    (λ batch. (batch ≡ take most between.decisions.log) × (new ≡ record between { decisions = after_taking between.decisions most }))
    (λ e. (e ≡ OutOfMemory) × (new ≡ between))
    → MatchResult answer (λ batch. (batch ≡ take most between.decisions.log) × (new.decisions ≡ after_taking between.decisions most))
    (λ e. (e ≡ OutOfMemory) × (new.decisions ≡ between.decisions))
taken between new most (Ok batch) (is, new_is) = (is, ap (λ (s : CoreState). s.decisions) new_is)
taken between new most (Err e) (is, same) = (is, ap (λ (s : CoreState). s.decisions) same)

-- what a core gives after what came to it, and what it decided of that
pub gives_decided : (old new : CoreFeed) (answer : Result (List Decision) Refusal) → GivesAfterComing old MOST answer new
    → (decided : List Decision) × (TakesAfter old.core.decisions decided MOST answer new.core.decisions × DecidesAfterComing old decided new)
gives_decided old new answer is =
    let made = all_come (coming_first old.coming.items) old.core is.between is.came in (
      made.0,
      (
        subst (λ (s : DecisionsState).
            IsLawful s
            → MatchResult answer (λ batch. (batch ≡ take MOST s.log) × (new.core.decisions ≡ after_taking s MOST))
            (λ e. (e ≡ OutOfMemory) × (new.core.decisions ≡ s))
            → TakesAfter old.core.decisions made.0 MOST answer new.core.decisions) (sym made.1)
            (λ lawful took. record { lawful = lawful; took = took }) is.lawful.decisions (taken is.between new.core MOST answer is.took),
        record { answer = answer; asked = is; logged = ap (λ (s : DecisionsState). s.log) made.1 },
      ),
    )
