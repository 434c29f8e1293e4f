-- Turns in whole lists.
use Rattle.std.proofs.Common.{◌≡◌, ◌≢◌, ◌≤◌, ◌+◌, ◌-◌, ◌∙◌, ◌↔◌, ℕ, zero, suc, Bool, true, false, List, [], ◌∷◌, ◌++◌, length, take, drop, Option, Some, None, Result, Ok, Err, refl, sym, ap, subst, arith, rules, append_assoc}
use Rattle.std.specs.Prelude.{map}
use Rattle.std.specs.Bool.{MatchBool}
use Rattle.std.specs.List.{All}
use Rattle.std.proofs.lemmas.List.{append-nil, drop-append-le, length-append, length-drop, map-append, take_at}
use Rattle.std.proofs.lemmas.List.Elements.{All-append, filter_map-append}
use Rattle.circular_buffer.specs.Buffer.{keep_last}
use Rattle.lw_types.specs.Answer.{Answers, AnswersWithMemory}
use Rattle.lw_types.specs.declared.refusal.Refusal.{Refusal}
use Rattle.lw_types.specs.declared.refusal.Refusal.TheVariants.{OutOfMemory}
use Rattle.lw_types.specs.declared.frame_copy.FrameCopy.{FrameCopy}
use Rattle.devices.specs.declared.command.Command.{Command}
use Rattle.devices.specs.declared.command.Command.TheVariants as commands
use Rattle.dedup.specs.Windows.{Window, heard_in}
use Rattle.sessions.specs.Table.{TableState, TableStep}
use Rattle.sessions.specs.Decision.{ContinueAll, is_frugal, with_decisions}
use Rattle.sessions.specs.declared.decision.Decision.{Decision}
use Rattle.session_core.specs.State.{DecisionsState, IsLawful, last_number, now_of}
use Rattle.session_core.specs.Core.{CoreState, IsLawfulCore, with_outcome}
use Rattle.session_core.specs.Deciding.{Makes, step_if_room, verdict_of}
use Rattle.session_core.specs.Events.{Asks, Closes, Handles, Hears, IsTurn, Starves, Ticks, has_due, core_at_moment}
use Rattle.session_core.specs.Handling.{Handling, Became, WasRefused, IsWholeTurn, command_in, decision_in, decisions_in, frames_in, outcome_in, outcomes_in, refusal_in}
use Rattle.session_core.specs.declared.outcome.TheConstants.{MOST_OUTCOMES}
use Rattle.session_core.specs.declared.outcome.Outcome.{Outcome}
use Rattle.session_core.specs.declared.outcome.Outcome.TheVariants.{Decided}
use Rattle.session_core.specs.declared.turn.Turn.{Turn}
use Rattle.session_core.proofs.Counts.{outcome-decisions}

-- ---- the last of a list

drop_none : {X : Type 0} (n : ℕ) → drop n (let none : List X = [] in none) ≡ []
drop_none zero = refl
drop_none (suc n) = refl

pub drop_further : {X : Type 0} (n k : ℕ) (xs : List X) → drop k (drop n xs) ≡ drop (n + k) xs
drop_further zero k xs = let same : k ≡ 0 + k = omega arith in ap (λ i. drop i xs) same
drop_further {X} (suc n) k [] = drop_none {X = X} k ∙ sym (drop_none {X = X} (suc n + k))
drop_further (suc n) k (x ∷ xs) =
    let more : suc n + k ≡ suc (n + k) = omega arith in
    drop_further n k xs ∙ sym (ap (λ i. drop i (x ∷ xs)) more)

-- of no more than are kept, all are kept
keep_few : {X : Type 0} (n : ℕ) (xs : List X) → length xs ≤ n → keep_last n (xs ++ []) ≡ xs
keep_few n xs few =
    let none : length xs - n ≡ 0 = omega arith in
    ap (keep_last n) (append-nil xs) ∙ ap (λ i. drop i xs) none

-- what is dropped at once may also be dropped later
keep_again : {X : Type 0} (n : ℕ) (xs ys : List X) → keep_last n (keep_last n xs ++ ys) ≡ keep_last n (xs ++ ys)
keep_again n xs ys =
    let k : ℕ = length xs - n in
    let within : k ≤ length xs = omega arith in
    let joined : drop k xs ++ ys ≡ drop k (xs ++ ys) = sym (drop-append-le k xs ys within) in
    let all = length-append xs ys in
    let len : length (drop k (xs ++ ys)) ≡ length (xs ++ ys) - k = length-drop k (xs ++ ys) in
    let sum : k + (length (drop k (xs ++ ys)) - n) ≡ length (xs ++ ys) - n = omega (arith, all, len) in
    ap (keep_last n) joined
    ∙ (drop_further k (length (drop k (xs ++ ys)) - n) (xs ++ ys)
    ∙ ap (λ i. drop i (xs ++ ys)) sum)

keep_twice : {X : Type 0} (n : ℕ) (xs ys zs : List X) → keep_last n (keep_last n (xs ++ ys) ++ zs) ≡ keep_last n (xs ++ (ys ++ zs))
keep_twice n xs ys zs = keep_again n (xs ++ ys) zs ∙ ap (keep_last n) (append_assoc xs ys zs)

length_keep : {X : Type 0} (n : ℕ) (xs : List X) → length (keep_last n xs) ≤ n
length_keep n xs = let len = length-drop (length xs - n) xs in omega (arith, len)

-- ---- commands one after another

-- the state of a core after these were handed in
record Comes (old : CoreState) (hs : List Handling) (new : CoreState) : Type 0 where
  log : new.decisions.log ≡ old.decisions.log ++ decisions_in hs
  made : new.decisions.made ≡ old.decisions.made + length (decisions_in hs)
  base : new.decisions.base ≡ old.decisions.base
  opening : new.decisions.opening ≡ old.decisions.opening
  taken : new.decisions.taken ≡ old.decisions.taken
  outcomes : new.outcomes ≡ keep_last MOST_OUTCOMES (old.outcomes ++ outcomes_in hs)
  few : length new.outcomes ≤ MOST_OUTCOMES
  lawful : IsLawful new.decisions

abbrev Few : CoreState → Type 0
Few s = length s.outcomes ≤ MOST_OUTCOMES

comes-none : (old new : CoreState) → new.decisions ≡ old.decisions → new.outcomes ≡ old.outcomes → Few old → IsLawful old.decisions → Comes old [] new
comes-none old new decisions outcomes few lawful =
    record {
      log = ap (λ (d : DecisionsState). d.log) decisions ∙ sym (append-nil old.decisions.log);
      made = ap (λ (d : DecisionsState). d.made) decisions ∙ add_none old.decisions.made;
      base = ap (λ (d : DecisionsState). d.base) decisions;
      opening = ap (λ (d : DecisionsState). d.opening) decisions;
      taken = ap (λ (d : DecisionsState). d.taken) decisions;
      outcomes = outcomes ∙ sym (keep_few MOST_OUTCOMES old.outcomes few);
      few = subst (λ (o : List Outcome). length o ≤ MOST_OUTCOMES) (sym outcomes) few;
      lawful = subst IsLawful (sym decisions) lawful;
    }
  where
    add_none : (n : ℕ) → n ≡ n + 0
    add_none n = omega arith

comes-then : (a b c : CoreState) (hs ks : List Handling) → Comes a hs b → Comes b ks c → Comes a (hs ++ ks) c
comes-then a b c hs ks h k =
    let ds = filter_map-append decision_in hs ks in
    let outs = filter_map-append outcome_in hs ks in
    let len = length-append (decisions_in hs) (decisions_in ks) in
    let all : length (decisions_in (hs ++ ks)) ≡ length (decisions_in hs) + length (decisions_in ks) = ap length ds ∙ len in
    record {
      log = k.log ∙ (ap (λ l. l ++ decisions_in ks) h.log ∙ (append_assoc a.decisions.log (decisions_in hs) (decisions_in ks) ∙ ap (λ l. a.decisions.log ++ l) (sym ds)));
      made = omega (arith, h.made, k.made, all);
      base = k.base ∙ h.base;
      opening = k.opening ∙ h.opening;
      taken = k.taken ∙ h.taken;
      outcomes =
          k.outcomes
          ∙ (ap (λ o. keep_last MOST_OUTCOMES (o ++ outcomes_in ks)) h.outcomes
          ∙ (keep_twice MOST_OUTCOMES a.outcomes (outcomes_in hs) (outcomes_in ks) ∙ ap (λ o. keep_last MOST_OUTCOMES (a.outcomes ++ o)) (sym outs)));
      few = k.few;
      lawful = k.lawful;
    }

-- the moment of an event doesn't matter
comes-moment : (old : CoreState) (moment : ℕ) (hs : List Handling) (new : CoreState) → Comes (core_at_moment old moment) hs new → Comes old hs new
comes-moment old moment hs new h =
    record { log = h.log; made = h.made; base = h.base; opening = h.opening; taken = h.taken; outcomes = h.outcomes; few = h.few; lawful = h.lawful }

-- ---- one command

made_of : {X : Type 0} (frugal : Bool) (want : Result TableStep Refusal) (Is : TableStep → Unit {0} → Type 0) (done : Unit {0})
    → ((s : TableStep) → Is s done → X)
    → MatchBool frugal (Answers want Is (Ok done)) (AnswersWithMemory want Is (Ok done)) → X
made_of true (Ok step) Is done give h = give step h
made_of true (Err refusal) Is done give h = absurd (search (rules, h))
made_of false (Ok step) Is done give h = give step h
made_of false (Err refusal) Is done give h = absurd h

refused-outcomes : (s : CoreState) (d : DecisionsState) (command : Command) (e : Refusal) → Few s
    → (with_outcome s d (Err e)).outcomes ≡ keep_last MOST_OUTCOMES (s.outcomes ++ outcomes_in (WasRefused command e ∷ []))
refused-outcomes s d command OutOfMemory few = sym (keep_few MOST_OUTCOMES s.outcomes few)
refused-outcomes s d command e few = refl

-- the result of one command
record One (old : CoreState) (command : Command) (result : Result (Unit {0}) Refusal) (new : CoreState) : Type 0 where
  h : Handling
  is_command : command_in h ≡ command
  is_refused : verdict_of (refusal_in h) ≡ result
  comes : Comes old (h ∷ []) new

one_made : (old : CoreState) (command : Command) (decisions : DecisionsState) (done : Unit {0}) (new : CoreState) → new ≡ with_outcome old decisions (Ok done) → IsLawful decisions
    → (s : TableStep) → Makes old.decisions command s decisions → One old command (Ok done) new
one_made old command decisions done new is lawful s makes =
    let d = makes.decision in
    let of_new : new.decisions ≡ decisions = ap (λ (s : CoreState). s.decisions) is in
    let number : last_number decisions ≡ d.seq =
    ap last_number makes.new_is ∙ (add_one old.decisions.opening old.decisions.made ∙ sym makes.is_step.number) in
    record {
      h = Became d;
      is_command = makes.is_step.command;
      is_refused = refl;
      comes =
          record {
            log = ap (λ (s : DecisionsState). s.log) (of_new ∙ makes.new_is);
            made = ap (λ (s : DecisionsState). s.made) (of_new ∙ makes.new_is);
            base = ap (λ (s : DecisionsState). s.base) (of_new ∙ makes.new_is);
            opening = ap (λ (s : DecisionsState). s.opening) (of_new ∙ makes.new_is);
            taken = ap (λ (s : DecisionsState). s.taken) (of_new ∙ makes.new_is);
            outcomes = ap (λ (s : CoreState). s.outcomes) is ∙ ap (λ n. keep_last MOST_OUTCOMES (old.outcomes ++ Decided n ∷ [])) number;
            few =
                subst (λ (o : List Outcome). length o ≤ MOST_OUTCOMES) (sym (ap (λ (s : CoreState). s.outcomes) is))
                (length_keep MOST_OUTCOMES (old.outcomes ++ Decided (last_number decisions) ∷ []));
            lawful = subst IsLawful (sym of_new) lawful;
          };
    }
  where
    add_one : (o m : ℕ) → o + (m + 1) ≡ o + m + 1
    add_one o m = omega arith

one_refused : (old : CoreState) (command : Command) (decisions : DecisionsState) (e : Refusal) (new : CoreState) → new ≡ with_outcome old decisions (Err e)
    → decisions ≡ old.decisions → Few old → IsLawful old.decisions → One old command (Err e) new
one_refused old command decisions e new is same few lawful =
    let of_new : new.decisions ≡ old.decisions = ap (λ (s : CoreState). s.decisions) is ∙ (outcome-decisions old decisions (Err e) ∙ same) in
    let outcomes : new.outcomes ≡ keep_last MOST_OUTCOMES (old.outcomes ++ outcomes_in (WasRefused command e ∷ [])) =
    ap (λ (s : CoreState). s.outcomes) is ∙ refused-outcomes old decisions command e few in
    let none = comes-none old old refl refl few lawful in
    record {
      h = WasRefused command e;
      is_command = refl;
      is_refused = refl;
      comes =
          record {
            log = ap (λ (s : DecisionsState). s.log) of_new ∙ none.log;
            made = ap (λ (s : DecisionsState). s.made) of_new ∙ none.made;
            base = ap (λ (s : DecisionsState). s.base) of_new;
            opening = ap (λ (s : DecisionsState). s.opening) of_new;
            taken = ap (λ (s : DecisionsState). s.taken) of_new;
            outcomes = outcomes;
            few = subst (λ (o : List Outcome). length o ≤ MOST_OUTCOMES) (sym outcomes) (length_keep MOST_OUTCOMES (old.outcomes ++ outcomes_in (WasRefused command e ∷ [])));
            lawful = subst IsLawful (sym of_new) lawful;
          };
    }

one : (old : CoreState) (command : Command) (result : Result (Unit {0}) Refusal) (new : CoreState) → Handles old command result new → Few old → IsLawful old.decisions
    → One old command result new
one old command (Ok done) new h few lawful =
    made_of (is_frugal command (step_if_room old.decisions command)) (step_if_room old.decisions command) (λ s _. Makes old.decisions command s h.decisions) done
    (λ s makes. one_made old command h.decisions done new h.new_is h.kept.lawful s makes) h.kept.made
one old command (Err e) new h few lawful = one_refused old command h.decisions e new h.new_is h.kept.same few lawful

-- ---- windows that are closed

record ClosesSo (n : ℕ) (old last : CoreState) : Type 0 where
  hs : List Handling
  first : List Window
  count : length first ≡ n
  windows : old.windows ≡ first ++ last.windows
  frames : map command_in hs ≡ frames_in first
  in_memory : All (λ h. refusal_in h ≢ Some OutOfMemory) hs
  comes : Comes old hs last

not_starved : (h : Handling) (result : Result (Unit {0}) Refusal) → verdict_of (refusal_in h) ≡ result → result ≢ Err OutOfMemory → refusal_in h ≢ Some OutOfMemory
not_starved h result is there refused = there (sym is ∙ ap verdict_of refused)

closes-so : (n : ℕ) (old last : CoreState) → Closes n old last → Few old → IsLawful old.decisions → ClosesSo n old last
closes-so zero old last is few lawful =
    record {
      hs = [];
      first = [];
      count = refl;
      windows = sym (ap (λ (s : CoreState). s.windows) is);
      frames = refl;
      in_memory = search rules;
      comes = comes-none old last (ap (λ (s : CoreState). s.decisions) is) (ap (λ (s : CoreState). s.outcomes) is) few lawful;
    }
closes-so (suc n) old last closes few lawful =
    let before = closes.0 in
    let so = closes-so n old before closes.1 few lawful in
    let step = closes.2 in
    let hand = step.handed_in in
    let w = hand.oldest.window in
    let came = one before (commands.Heard hand.heard) step.result step.between hand.handled so.comes.few so.comes.lawful in
    let left : last.windows ≡ hand.rest = ap (λ (s : CoreState). s.windows) step.new_is in
    let on : Comes step.between [] last =
    comes-none step.between last (ap (λ (s : CoreState). s.decisions) step.new_is) (ap (λ (s : CoreState). s.outcomes) step.new_is) came.comes.few came.comes.lawful in
    let len = length-append so.first (w ∷ []) in
    record {
      hs = so.hs ++ came.h ∷ [];
      first = so.first ++ w ∷ [];
      count = omega (arith, so.count, len);
      windows =
          so.windows
          ∙ (ap (λ ws. so.first ++ ws) (hand.oldest.oldest ∙ ap (λ ws. w ∷ ws) (sym left)) ∙ sym (append_assoc so.first (w ∷ []) last.windows));
      frames =
          map-append command_in so.hs (came.h ∷ [])
          ∙ (ap (λ cs. cs ++ command_in came.h ∷ []) so.frames
          ∙ (ap (λ c. frames_in so.first ++ c ∷ []) (came.is_command ∙ ap (λ h. commands.Heard h) hand.oldest.heard_in_it)
          ∙ sym (map-append (λ w. commands.Heard (heard_in w)) so.first (w ∷ []))));
      in_memory =
          All-append (λ h. refusal_in h ≢ Some OutOfMemory) so.hs (came.h ∷ []) so.in_memory
          (let there = not_starved came.h step.result came.is_refused step.there_was_memory in search (rules, there));
      comes =
          subst (λ hs. Comes old hs last) (append_nil (so.hs ++ came.h ∷ []))
          (comes-then old step.between last (so.hs ++ came.h ∷ []) [] (comes-then old before step.between so.hs (came.h ∷ []) so.comes came.comes) on);
    }
  where
    append_nil : (hs : List Handling) → hs ++ [] ≡ hs
    append_nil hs = append-nil hs

-- ---- turns

-- two runs of decisions continue a table if the second continues what the first leaves
abbrev pub Joins : Type 0
Joins =
    (t : TableState) (seq : ℕ) (first second : List Decision)
    → ContinueAll t seq (first ++ second) ↔ (ContinueAll t seq first × ContinueAll (with_decisions t first) (seq + length first) second)

continued : Joins → (old new : CoreState) (hs : List Handling) → IsLawful old.decisions → Comes old hs new → ContinueAll (now_of old.decisions) (last_number old.decisions) (decisions_in hs)
continued joins old new hs lawful comes =
    let d = old.decisions in
    let at : new.decisions.opening + new.decisions.taken ≡ d.opening + d.taken = omega (arith, comes.opening, comes.taken) in
    let whole : ContinueAll d.base (d.opening + d.taken) (d.log ++ decisions_in hs) =
    subst (λ t. ContinueAll t (d.opening + d.taken) (d.log ++ decisions_in hs)) comes.base
    (subst (λ n. ContinueAll new.decisions.base n (d.log ++ decisions_in hs)) at
    (subst (λ l. ContinueAll new.decisions.base (new.decisions.opening + new.decisions.taken) l) comes.log comes.lawful.continues)) in
    let number : d.opening + d.taken + length d.log ≡ last_number d = let count = lawful.count in omega arith in
    subst (λ n. ContinueAll (now_of d) n (decisions_in hs)) number ((joins d.base (d.opening + d.taken) d.log (decisions_in hs)).0 whole).1

-- what an event's own leaves
record OwnSo (s : CoreState) (own : List Command) (refused : Option Refusal) (new : CoreState) : Type 0 where
  hs : List Handling
  own_command : map command_in hs ≡ own
  refused_so : All (λ h. refusal_in h ≡ refused) hs
  comes : Comes s hs new
  closings : new.closings ≡ s.closings

module _ (joins : Joins) (own : List Command) (Own : CoreState → Option Refusal → CoreState → Type 0)
    (does : (s : CoreState) (refused : Option Refusal) (new : CoreState) → Own s refused new → Few s → IsLawful s.decisions → OwnSo s own refused new)
    (starves : (s : CoreState) (refused : Option Refusal) (new : CoreState) → Starves s refused new → Few s → IsLawful s.decisions → OwnSo s own refused new) where
  ends : (due : Bool) (s : CoreState) (refused : Option Refusal) (new : CoreState) → MatchBool due (Starves s refused new) (Own s refused new) → Few s → IsLawful s.decisions → OwnSo s own refused new
  ends true s refused new h = starves s refused new h
  ends false s refused new h = does s refused new h

  turn-whole : (old new : CoreState) (moment : ℕ) (turn : Turn) → IsTurn old moment Own turn new → IsLawfulCore old → Few old → IsWholeTurn old own turn new
  turn-whole old new moment turn h lawful few =
      let between = h.between in
      let last = h.closed.last in
      let so = closes-so between.closings (core_at_moment old moment) last h.closed.closed few lawful.decisions in
      let mid : Comes last [] between =
      comes-none last between (ap (λ (s : CoreState). s.decisions) h.closed.new_is) (ap (λ (s : CoreState). s.outcomes) h.closed.new_is) so.comes.few so.comes.lawful in
      let end = ends (has_due between) between turn.refused new h.own mid.few mid.lawful in
      let closed : Comes old so.hs between =
      comes-moment old moment so.hs between
      (subst (λ hs. Comes (core_at_moment old moment) hs between) (append-nil so.hs) (comes-then (core_at_moment old moment) last between so.hs [] so.comes mid)) in
      let all : Comes old (so.hs ++ end.hs) new = comes-then old between new so.hs end.hs closed end.comes in
      let first : so.first ≡ take new.closings old.windows =
      sym (ap (λ ws. take new.closings ws) so.windows ∙ take_at so.first last.windows new.closings (so.count ∙ sym end.closings)) in
      let ds = decisions_in (so.hs ++ end.hs) in
      record {
        closed = so.hs;
        asked = end.hs;
        frames = so.frames ∙ ap frames_in first;
        in_memory = so.in_memory;
        own_command = end.own_command;
        refused = end.refused_so;
        handed = record { log = all.log; made = all.made; continue = continued joins old new (so.hs ++ end.hs) lawful.decisions all; outcomes = all.outcomes };
        from = h.from;
        to = h.to ∙ (all.made ∙ ap (λ n. n + length ds) (sym h.from));
      }

-- ---- each event

same-own : (s : CoreState) (refused : Option Refusal) (new : CoreState) → new.decisions ≡ s.decisions → new.outcomes ≡ s.outcomes → new.closings ≡ s.closings → Few s → IsLawful s.decisions
    → OwnSo s [] refused new
same-own s refused new decisions outcomes closings few lawful =
    record { hs = []; own_command = refl; refused_so = search rules; comes = comes-none s new decisions outcomes few lawful; closings = closings }

starved-own : (s : CoreState) (refused : Option Refusal) (new : CoreState) → Starves s refused new → Few s → IsLawful s.decisions → OwnSo s [] refused new
starved-own s refused new h =
    same-own s refused new (ap (λ (s : CoreState). s.decisions) h.1) (ap (λ (s : CoreState). s.outcomes) h.1) (ap (λ (s : CoreState). s.closings) h.1)

ticked-own : (s : CoreState) (refused : Option Refusal) (new : CoreState) → Ticks s refused new → Few s → IsLawful s.decisions → OwnSo s [] refused new
ticked-own s refused new h =
    same-own s refused new (ap (λ (s : CoreState). s.decisions) h.1) (ap (λ (s : CoreState). s.outcomes) h.1) (ap (λ (s : CoreState). s.closings) h.1)

-- a command that isn't handed in, since memory ran out before
starved-asked : (command : Command) (s : CoreState) (refused : Option Refusal) (new : CoreState) → Starves s refused new → Few s → IsLawful s.decisions → OwnSo s (command ∷ []) refused new
starved-asked command s refused new h few lawful =
    let none = comes-none s new (ap (λ (s : CoreState). s.decisions) h.1) (ap (λ (s : CoreState). s.outcomes) h.1) few lawful in
    record {
      hs = WasRefused command OutOfMemory ∷ [];
      own_command = refl;
      refused_so = let is = sym h.0 in search (rules, is);
      comes =
          record {
            log = none.log;
            made = none.made;
            base = none.base;
            opening = none.opening;
            taken = none.taken;
            outcomes = none.outcomes;
            few = none.few;
            lawful = none.lawful;
          };
      closings = ap (λ (s : CoreState). s.closings) h.1;
    }

outcome-closings : (s : CoreState) (d : DecisionsState) (r : Result (Unit {0}) Refusal) → (with_outcome s d r).closings ≡ s.closings
outcome-closings s d (Ok done) = refl
outcome-closings s d (Err OutOfMemory) = refl
outcome-closings s d (Err refusal) = refl

same_verdict : (a b : Option Refusal) → verdict_of a ≡ verdict_of b → a ≡ b
same_verdict None None h = refl
same_verdict (Some a) (Some b) h = let same : a ≡ b = cc in ap Some same
same_verdict None (Some b) h = absurd cc
same_verdict (Some a) None h = absurd cc

asked-own : (command : Command) (s : CoreState) (refused : Option Refusal) (new : CoreState) → Asks command s refused new → Few s → IsLawful s.decisions → OwnSo s (command ∷ []) refused new
asked-own command s refused new h few lawful =
    let came = one s command (verdict_of refused) new h few lawful in
    record {
      hs = came.h ∷ [];
      own_command = ap (λ c. c ∷ []) came.is_command;
      refused_so = let is = same_verdict (refusal_in came.h) refused came.is_refused in search (rules, is);
      comes = came.comes;
      closings = ap (λ (s : CoreState). s.closings) h.new_is ∙ outcome-closings s h.decisions (verdict_of refused);
    }

heard-own : (copy : FrameCopy) (s : CoreState) (refused : Option Refusal) (new : CoreState) → Hears copy s refused new → Few s → IsLawful s.decisions → OwnSo s [] refused new
heard-own copy s refused new h =
    same-own s refused new (search (rules, h)) (search (rules, h)) (search (rules, h))

pub asked-whole : Joins → (command : Command) (old new : CoreState) (moment : ℕ) (turn : Turn) → IsTurn old moment (Asks command) turn new → IsLawfulCore old → Few old
    → IsWholeTurn old (command ∷ []) turn new
asked-whole joins command = turn-whole joins (command ∷ []) (Asks command) (asked-own command) (starved-asked command)

pub ticked-whole : Joins → (old new : CoreState) (moment : ℕ) (turn : Turn) → IsTurn old moment Ticks turn new → IsLawfulCore old → Few old → IsWholeTurn old [] turn new
ticked-whole joins = turn-whole joins [] Ticks ticked-own starved-own

pub heard-whole : Joins → (copy : FrameCopy) (old new : CoreState) (moment : ℕ) (turn : Turn) → IsTurn old moment (Hears copy) turn new → IsLawfulCore old → Few old → IsWholeTurn old [] turn new
heard-whole joins copy = turn-whole joins [] (Hears copy) (heard-own copy) starved-own

pub starved-whole : Joins → (old new : CoreState) (moment : ℕ) (turn : Turn) → IsTurn old moment Starves turn new → IsLawfulCore old → Few old → IsWholeTurn old [] turn new
starved-whole joins = turn-whole joins [] Starves starved-own starved-own
