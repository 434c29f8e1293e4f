-- What observers are given of windows that are closed.
use Rattle.std.proofs.Common.{◌≡◌, ◌∙◌, ◌++◌, ◌&&◌, ℕ, zero, suc, Bool, true, false, List, [], ◌∷◌, Option, Some, ap, if◌then◌else◌, inl, inr, length, nat_lt, refl, subst, sym}
use Rattle.std.specs.Bool.{MatchBool}
use Rattle.lw_types.specs.declared.refusal.Refusal.{Refusal}
use Rattle.lw_types.specs.declared.refusal.Refusal.TheVariants.{OutOfMemory}
use Rattle.dedup.specs.declared.TheConstants.{MOST_WINDOWS}
use Rattle.session_core.specs.Calls.{work_of}
use Rattle.session_core.specs.Core.{CoreState}
use Rattle.session_core.specs.Events.{Closes, HasClosed, Starves, core_at_moment, has_due}
use Rattle.session_core.specs.Observing.{ClosesSeen, HasClosedSeen, IsSeenTurn, KeepsFrame, ObservedState, frames_seen, nothing_seen}
use Rattle.session_core.specs.declared.event.Event.{Event}
use Rattle.session_core.specs.declared.observed.ClosedFrame.{ClosedFrame}
use Rattle.session_core.specs.declared.turn.Turn.{Turn}

-- which windows were closed, without what observers are given
pub closes-unseen : (n : ℕ) (old new : CoreState) (before after : ObservedState) → ClosesSeen n old new before after → Closes n old new
closes-unseen zero old new before after h = h.0
closes-unseen (suc n) old new before after (mid, (between, (rest, (closes, kept)))) = (mid, closes-unseen n old mid before between rest, closes)

pub has-closed : (old new : CoreState) (before after : ObservedState) → HasClosedSeen old new before after → HasClosed old new
has-closed old new before after h = record { last = h.last; closed = closes-unseen new.closings old h.last before after h.closed; new_is = h.new_is }

pub counted-seen : (n : ℕ) (old last new : CoreState) (before after : ObservedState) → ClosesSeen n old last before after → new ≡ record last { closings = n }
    → HasClosedSeen old new before after
counted-seen n old last new before after closes is =
    let count : new.closings ≡ n = ap (λ (s : CoreState). s.closings) is in
    record {
      last = last;
      closed = subst (λ n. ClosesSeen n old last before after) (sym count) closes;
      new_is = is ∙ ap (λ n. record last { closings = n }) (sym count);
    }

-- ---- turns

module _ (old between new : CoreState) (moment : ℕ) (event : Event) (turn : Turn) (before after : ObservedState)
    (closed : HasClosedSeen (core_at_moment old moment) between before after) (from : turn.from ≡ old.decisions.made) (to : turn.to ≡ new.decisions.made) where
  -- an event whose own work was done
  pub seen-own : has_due between ≡ false → work_of event between turn.refused new → IsSeenTurn old moment event turn new before after
  seen-own none own = (
    record {
      between = between;
      closed = has-closed (core_at_moment old moment) between before after closed;
      own = subst (λ b. MatchBool b (Starves between turn.refused new) (work_of event between turn.refused new)) (sym none) own;
      from = from;
      to = to;
    },
    closed,
  )

  -- and one for whose closings memory ran out
  pub seen-starved : has_due between ≡ true → turn.refused ≡ Some OutOfMemory → new ≡ between → IsSeenTurn old moment event turn new before after
  seen-starved some refused same = (
    record {
      between = between;
      closed = has-closed (core_at_moment old moment) between before after closed;
      own = subst (λ b. MatchBool b (Starves between turn.refused new) (work_of event between turn.refused new)) (sym some) (refused, same);
      from = from;
      to = to;
    },
    closed,
  )

pub starved-both : (b : Bool) (s new : CoreState) (refused : Option Refusal) → Starves s refused new → MatchBool b (Starves s refused new) (Starves s refused new)
starved-both true s new refused h = h
starved-both false s new refused h = h

-- ---- whether somebody observes

either_kept : (b : Bool) (s t : ObservedState) → t.is_kept ≡ s.is_kept → (if b then t else s).is_kept ≡ s.is_kept
either_kept true s t h = h
either_kept false s t h = refl

frame-kept : (before : ObservedState) (frame : ClosedFrame) (after : ObservedState) → KeepsFrame before frame after → after.is_kept ≡ before.is_kept
frame-kept before frame after (inl is) =
    ap (λ (s : ObservedState). s.is_kept) is
    ∙ either_kept (before.is_kept && nat_lt (length before.frames) MOST_WINDOWS) before (record before { frames = before.frames ++ frame ∷ [] }) refl
frame-kept before frame after (inr is) = ap (λ (s : ObservedState). s.is_kept) is

closes-kept : (n : ℕ) (old new : CoreState) (before after : ObservedState) → ClosesSeen n old new before after → after.is_kept ≡ before.is_kept
closes-kept zero old new before after h = ap (λ (s : ObservedState). s.is_kept) h.1
closes-kept (suc n) old new before after (mid, (between, (rest, (closes, (frame, (is, kept)))))) =
    frame-kept between frame after kept ∙ closes-kept n old mid before between rest

-- what is then given
pub seen-frames : (old new : CoreState) (moment : ℕ) (event : Event) (turn : Turn) (is_kept : Bool) (before after : ObservedState) (frames : List ClosedFrame) (lacks : Bool)
    → before ≡ nothing_seen is_kept → frames ≡ after.frames → lacks ≡ after.lacks → IsSeenTurn old moment event turn new before after
    → IsSeenTurn old moment event turn new (nothing_seen is_kept) (frames_seen is_kept frames lacks)
seen-frames old new moment event turn is_kept before after frames lacks nothing are is (turned, seen) =
    let kept : after.is_kept ≡ is_kept = closes-kept turned.between.closings (core_at_moment old moment) seen.last before after seen.closed ∙ ap (λ (s : ObservedState). s.is_kept) nothing in
    let all : after ≡ frames_seen is_kept frames lacks = ap (λ k. frames_seen k after.frames after.lacks) kept ∙ (ap (λ l. frames_seen is_kept l after.lacks) (sym are) ∙ ap (frames_seen is_kept frames) (sym is)) in (
      turned,
      subst (λ s. HasClosedSeen (core_at_moment old moment) turned.between s (frames_seen is_kept frames lacks)) nothing
          (subst (HasClosedSeen (core_at_moment old moment) turned.between before) all seen),
    )
