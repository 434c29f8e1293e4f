-- The frame of the oldest window is decided, or refused.
use Rattle.std.proofs.Common.{◌≡◌, ◌≢◌, ◌∙◌, ◌+◌, ◌-◌, ◌++◌, ◌∷◌, ◌↔◌, [], List, ℕ, Bool, true, false, Option, Some, None, Result, Ok, Err, length, refl, sym, ap, subst, arith}
use Rattle.std.specs.List.{slice_get}
use Rattle.std.specs.Option.{IsSome, MatchOption, option_map}
use Rattle.std.specs.Result.{IsErrAnd}
use Rattle.std.proofs.lemmas.Result.{err_from_is_err_and}
use Rattle.std.proofs.lemmas.List.{length_push}
use Rattle.lw_types.specs.declared.refusal.Refusal.{Refusal}
use Rattle.lw_types.specs.declared.refusal.Refusal.TheVariants.{OutOfMemory}
use Rattle.devices.specs.declared.command.Command.{Command}
use Rattle.devices.specs.declared.command.Command.TheVariants as commands
use Rattle.devices.specs.Heard.{best_of}
use Rattle.devices.specs.declared.heard.Heard.{Heard}
use Rattle.devices.specs.declared.heard.Hearing.{Hearing}
use Rattle.dedup.specs.Windows.{Window, IsOldestDue, NoneDue, heard_in}
use Rattle.sessions.specs.Table.{TableState}
use Rattle.sessions.specs.Decision.{AnswersTo, Decides, FitsTable, with_decision, with_decisions, without_decisions, ContinueAll, FitAll}
use Rattle.sessions.specs.HeardStep.{Becomes, IsStepOf, heard_decision}
use Rattle.sessions.specs.Served.{is_request, received_in}
use Rattle.sessions.specs.declared.decision.Decision.{Decision}
use Rattle.sessions.specs.declared.heard_step.HeardStep.{HeardStep}
use Rattle.session_core.specs.State.{DecisionsState, IsLawful, now_of, last_number}
use Rattle.session_core.specs.Deciding.{Keeps, Makes, has_room, step_if_room}
use Rattle.session_core.specs.Core.{CoreState, with_outcome}
use Rattle.session_core.specs.Observing.{ClosesOldestSeen, DecidesOldest, IsDecidedFrame, KeepsFrame, KeepsOldest, ObservedState, RefusesOldest, last_slot}
use Rattle.session_core.specs.declared.observed.ClosedFrame.TheVariants.{Decided, Refused}
use Rattle.session_core.specs.declared.observed.DecidedFrame.{DecidedFrame}
use Rattle.session_core.proofs.Lawful.{decided, lawful-made, now-made, room-few, state-made, step-made, decided-made}
use Rattle.session_core.proofs.Windows.{due-none, due-some}

-- ---- which frame it is

same_head : (v w : Window) (vs ws : List Window) → v ∷ vs ≡ w ∷ ws → v ≡ w
same_head v w vs ws h = cc

same_tail : (v w : Window) (vs ws : List Window) → v ∷ vs ≡ w ∷ ws → vs ≡ ws
same_tail v w vs ws h = cc

no_both : ◌≡◌ {A = Bool} true false → ⊥
no_both h = cc

-- only one window is the oldest
pub one-oldest : (now : ℕ) (ws rest left : List Window) (a b : Heard) → IsOldestDue now ws a rest → IsOldestDue now ws b left → a ≡ b
one-oldest now ws rest left a b one two =
    let same = same_head one.window two.window rest left (sym one.oldest ∙ two.oldest) in
    one.heard_in_it ∙ (ap heard_in same ∙ sym two.heard_in_it)

-- ---- what it became

-- a step with its frame is a decision
pub made-of : (t : TableState) (seq : ℕ) (h heard : Heard) (s : HeardStep) (d : Decision) → Becomes t seq h s → h ≡ heard
    → ((is : IsStepOf s heard) → d ≡ heard_decision s heard is) → Decides t seq (commands.Heard heard) (Ok d) × (FitsTable t d × ((d.slot ≡ s.slot) × (d.after ≡ s.after)))
made-of t seq h heard s d becomes same made =
    let at = subst (λ (x : Heard). Becomes t seq x s) same becomes in
    let is = made at.0 in (
      subst (λ (x : Decision). Decides t seq (commands.Heard heard) (Ok x)) (sym is) at.1.0,
      (
        subst (FitsTable t) (sym is) at.1.1,
        (ap (λ (x : Decision). x.slot) is, ap (λ (x : Decision). x.after) is),
      ),
    )

-- the window that is due can be closed
pub there-is : (now : ℕ) (ws rest left : List Window) (heard : Heard) (o : Option Heard) → IsOldestDue now ws heard rest
    → MatchOption o ((left ≡ ws) × NoneDue now ws) (λ h. IsOldestDue now ws h left) → IsSome o
there-is now ws rest left heard (Some h) due closed = refl
there-is now ws rest left heard None due closed = absurd (no_both (sym (due-some now ws rest heard due) ∙ due-none now ws closed.1))

last-get : {X : Type 0} (xs : List X) (x : X) → slice_get (xs ++ x ∷ []) (length xs) ≡ Some x
last-get [] x = refl
last-get (y ∷ ys) x = last-get ys x

-- the slot of the last decision
pub last-made : (s : DecisionsState) (l : List Decision) (d : Decision) (slot : ℕ) → s.log ≡ l ++ d ∷ [] → d.slot ≡ slot → last_slot s ≡ Some slot
last-made s l d slot is at =
    let longer = length_push l d in
    let last : length (l ++ d ∷ []) - 1 ≡ length l = omega (arith, longer) in
    ap (λ (log : List Decision). of (slice_get log (length log - 1))) is
    ∙ (ap (λ n. of (slice_get (l ++ d ∷ []) n)) last ∙ (ap of (last-get l d) ∙ ap Some at))
  where
    of : Option Decision → Option ℕ
    of o = option_map (λ d. d.slot) o

-- ---- what is kept of it

-- what is then given
abbrev pub decided_frame : HeardStep → Hearing → DecidedFrame
decided_frame step best = record { slot = step.slot; best = best; is_join_request = step.is_join_request }

-- with one decision more
abbrev pub kept_with : DecisionsState → TableState → List Decision → DecisionsState
kept_with s table log = record s { base = without_decisions table log; made = s.made + 1; log = log }

-- nothing
pub keeps-err : (now : ℕ) (s new : DecisionsState) (ws rest : List Window) (h : Heard) (e : Refusal) (result : Result (Option DecidedFrame) Refusal)
    → IsErrAnd result (λ x. x ≡ e) → IsOldestDue now ws h rest → IsLawful s → has_room s ≡ true
    → AnswersTo {B = Unit {0}} (commands.Heard h) (step_if_room s (commands.Heard h)) (λ st _. Makes s (commands.Heard h) st s) (Err e) → new ≡ s → KeepsOldest now s ws result new ws
keeps-err now s new ws rest h e result handed due lawful room answers same =
    let r = err_from_is_err_and result handed in
    subst (λ (x : Result (Option DecidedFrame) Refusal). KeepsOldest now s ws x new ws) (sym (r.1 ∙ ap Err r.2)) (
      record {
        heard = h;
        rest = rest;
        oldest = due;
        kept = record { full = λ none. absurd (no_both (sym room ∙ none)); made = answers; same = refl; lawful = lawful };
      },
      (same, refl),
    )

-- the decision
module _
    (continues : (t : TableState) (seq : ℕ) (first second : List Decision) → ContinueAll t seq (first ++ second)
    ↔ (ContinueAll t seq first × ContinueAll (with_decisions t first) (seq + length first) second))
    (joined : (t : TableState) (first second : List Decision) → with_decisions t (first ++ second) ≡ with_decisions (with_decisions t first) second)
    (back : (t : TableState) (ds : List Decision) → FitAll t ds → without_decisions (with_decisions t ds) ds ≡ t) where
  pub kept-one : (s : DecisionsState) (t table : TableState) (log : List Decision) (c : Command) (d : Decision) → IsLawful s → t ≡ now_of s → has_room s ≡ true
      → Decides t (last_number s + 1) c (Ok d) → FitsTable t d → table ≡ with_decision t d → log ≡ s.log ++ d ∷ []
      → Keeps s c decided (kept_with s table log) × (table ≡ now_of (kept_with s table log))
  kept-one s t table log c d lawful now roomy decides fits table_is log_is =
      let room = room-few s roomy in
      let made : Decides (now_of s) (last_number s + 1) c (Ok d) = subst (λ (t : TableState). Decides t (last_number s + 1) c (Ok d)) now decides in
      let fit : FitsTable (now_of s) d = subst (λ (t : TableState). FitsTable t d) now fits in
      let left : table ≡ with_decision (now_of s) d = table_is ∙ ap (λ (t : TableState). with_decision t d) now in
      let more = lawful-made continues joined back s d lawful room.0 room.1 fit (step-made (now_of s) (last_number s + 1) c d made).2.number in
      let same = state-made continues joined back s d table log more left log_is in (
        record {
          full = λ none. absurd (no_both (sym roomy ∙ none));
          made = decided-made s c d roomy made (kept_with s table log) same;
          same = tt;
          lawful = subst IsLawful (sym same) more;
        },
        left ∙ (sym (now-made continues joined back s d) ∙ ap now_of (sym same)),
      )

  pub decides-oldest : (s : DecisionsState) (t table : TableState) (log : List Decision) (now : ℕ) (ws rest left : List Window) (h heard : Heard) (step : HeardStep)
      (d : Decision) (best : Hearing) → IsLawful s → t ≡ now_of s → has_room s ≡ true → IsOldestDue now ws h rest → IsOldestDue now ws heard left
      → Becomes t (last_number s + 1) h step → ((is : IsStepOf step heard) → d ≡ heard_decision step heard is)
      → Some best ≡ best_of h.hearings → step.is_join_request ≡ is_request (received_in h) → table ≡ with_decision t d → log ≡ s.log ++ d ∷ []
      → DecidesOldest now s ws (decided_frame step best) (kept_with s table log) left × (table ≡ now_of (kept_with s table log))
  decides-oldest s t table log now ws rest left h heard step d best lawful is_now room due closed becomes made best_is request table_is log_is =
      let same = one-oldest now ws rest left h heard due closed in
      let is = made-of t (last_number s + 1) h heard step d becomes same made in
      let kept = kept-one s t table log (commands.Heard heard) d lawful is_now room is.0 is.1.0 table_is log_is in (
        record {
          heard = heard;
          oldest = closed;
          kept = kept.0;
          frame_is =
              record {
                slot = last-made (kept_with s table log) s.log d step.slot log_is is.1.1.0;
                best = ap (λ (x : Heard). best_of x.hearings) (sym same) ∙ sym best_is;
                request = request ∙ ap (λ (x : Heard). is_request (received_in x)) same;
              };
        },
        kept.1,
      )

-- ---- what is then closed

outcome-left : (s : CoreState) (left : List Window) (r : Result (Unit {0}) Refusal)
    → with_outcome (record s { windows = left }) s.decisions r ≡ record (with_outcome s s.decisions r) { windows = left }
outcome-left s left (Ok done) = refl
outcome-left s left (Err OutOfMemory) = refl
outcome-left s left (Err refusal) = refl

-- a frame that was decided moved out of its window
pub decided-seen : (old : CoreState) (now : ℕ) (frame : DecidedFrame) (d : DecisionsState) (left : List Window) (new : CoreState) (before observed : ObservedState)
    → now ≡ old.clock → DecidesOldest now old.decisions old.windows frame d left → new ≡ with_outcome (record old { decisions = d; windows = left }) d decided
    → KeepsFrame before (Decided frame) observed → ClosesOldestSeen old new before observed
decided-seen old now frame d left new before observed at decides is kept = (
  record {
    result = decided;
    between = with_outcome old d decided;
    handed_in =
        record {
          heard = decides.heard;
          rest = left;
          oldest = subst (λ n. IsOldestDue n old.windows decides.heard left) at decides.oldest;
          handled = record { decisions = d; kept = decides.kept; new_is = refl };
        };
    there_was_memory = no_refusal;
    new_is = is;
  },
  (
    Decided frame,
    (
      (frame, (refl, subst (λ (s : DecisionsState). IsDecidedFrame decides.heard s frame) (sym (ap (λ (s : CoreState). s.decisions) is)) decides.frame_is)),
      kept,
    ),
  ),
)
  where
    no_refusal : decided ≢ Err OutOfMemory
    no_refusal h = absurd (apart h)
      where
        apart : ◌≡◌ {A = Result (Unit {0}) Refusal} (Ok tt) (Err OutOfMemory) → ⊥
        apart h = cc

-- and one that was refused was taken out
pub refused-seen : (old : CoreState) (now : ℕ) (e : Refusal) (heard : Heard) (left : List Window) (new : CoreState) (before observed : ObservedState)
    → now ≡ old.clock → RefusesOldest now old.decisions old.windows e → e ≢ OutOfMemory → IsOldestDue now old.windows heard left
    → new ≡ with_outcome (record old { windows = left }) old.decisions (Err e) → KeepsFrame before (Refused heard e) observed → ClosesOldestSeen old new before observed
refused-seen old now e heard left new before observed at refuses memory oldest is kept = (
  record {
    result = Err e;
    between = with_outcome old old.decisions (Err e);
    handed_in =
        record {
          heard = heard;
          rest = left;
          oldest = subst (λ n. IsOldestDue n old.windows heard left) at oldest;
          handled =
              record {
                decisions = old.decisions;
                kept =
                    subst (λ (h : Heard). Keeps old.decisions (commands.Heard h) (Err e) old.decisions)
                    (one-oldest now old.windows refuses.rest left refuses.heard heard refuses.oldest oldest) refuses.kept;
                new_is = refl;
              };
        };
    there_was_memory = λ h. memory (same_refusal h);
    new_is = is ∙ outcome-left old left (Err e);
  },
  (Refused heard e, (refl, kept)),
)
  where
    same_refusal : ◌≡◌ {A = Result (Unit {0}) Refusal} (Err e) (Err OutOfMemory) → e ≡ OutOfMemory
    same_refusal h = cc
