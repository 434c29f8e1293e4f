-- What observers are given of the frames whose windows an event closes.
use Rattle.std.specs.Prelude.{◌≡◌, ◌⊎◌, ◌-◌, ◌∷◌, ◌++◌, ◌&&◌, [], ℕ, zero, suc, Bool, List}
use Rattle.std.specs.Prelude.{true, false, length, nat_lt, slice_get, if◌then◌else◌, Option, Some}
use Rattle.std.specs.Prelude.{None, Result, Ok, Err}
use Rattle.std.specs.Option.{option_map}
use Rattle.dedup.specs.Windows.{Window, IsOldestDue, NoneDue}
use Rattle.dedup.specs.declared.TheConstants.{MOST_WINDOWS}
use Rattle.devices.specs.Heard.{best_of}
use Rattle.devices.specs.declared.command.Command.TheVariants as commands
use Rattle.devices.specs.declared.heard.Heard.{Heard}
use Rattle.lw_types.specs.declared.refusal.Refusal.{Refusal}
use Rattle.sessions.specs.Served.{is_request, received_in}
use Rattle.session_core.specs.Core.{CoreState}
use Rattle.session_core.specs.Calls.{work_of}
use Rattle.session_core.specs.Deciding.{Keeps}
use Rattle.session_core.specs.Events.{ClosesOldest, IsTurn, core_at_moment}
use Rattle.session_core.specs.State.{DecisionsState}
use Rattle.session_core.specs.declared.event.Event.{Event}
use Rattle.session_core.specs.declared.observed.ClosedFrame.{ClosedFrame}
use Rattle.session_core.specs.declared.observed.ClosedFrame.TheVariants.{Decided, Refused}
use Rattle.session_core.specs.declared.observed.DecidedFrame.{DecidedFrame}
use Rattle.session_core.specs.declared.turn.Turn.{Turn}

-- whether somebody observes; the frames that are kept, the oldest first; and whether one is
-- missing, since memory ran out for it
pub record ObservedState : Type 0 where
  pub is_kept : Bool
  pub frames : List ClosedFrame
  pub lacks : Bool

-- the slot of the last decision
abbrev pub last_slot : DecisionsState → Option ℕ
last_slot s = option_map (λ d. d.slot) (slice_get s.log (length s.log - 1))

-- a frame that was decided: the slot of its device, which is that of the last decision then; its
-- best copy; and whether it is a Join-Request
pub record IsDecidedFrame (heard : Heard) (decisions : DecisionsState)
    (frame : DecidedFrame) : Type 0 where
  pub slot : last_slot decisions ≡ Some frame.slot
  pub best : best_of heard.hearings ≡ Some frame.best
  pub request : frame.is_join_request ≡ is_request (received_in heard)

-- the frame of a closed window: it was decided; or it was refused, and is what was heard in it
abbrev pub IsClosedFrame : Heard → Result (Unit {0}) Refusal → DecisionsState → ClosedFrame → Type 0
IsClosedFrame heard (Ok done) decisions frame =
    (decided : DecidedFrame) × ((frame ≡ Decided decided)
    × IsDecidedFrame heard decisions decided)
IsClosedFrame heard (Err refusal) decisions frame = frame ≡ Refused heard refusal

-- the oldest window is due; its frame was decided, and the window was closed
pub record DecidesOldest (now : ℕ) (old : DecisionsState) (ws : List Window) (frame : DecidedFrame)
    (new : DecisionsState) (left : List Window) : Type 0 where
  pub heard : Heard
  pub oldest : IsOldestDue now ws heard left
  pub kept : Keeps old (commands.Heard heard) (Ok tt) new
  pub frame_is : IsDecidedFrame heard new frame

-- the oldest window is due, and its frame was refused
pub record RefusesOldest (now : ℕ) (old : DecisionsState) (ws : List Window)
    (refusal : Refusal) : Type 0 where
  pub heard : Heard
  pub rest : List Window
  pub oldest : IsOldestDue now ws heard rest
  pub kept : Keeps old (commands.Heard heard) (Err refusal) old

-- the frame of the oldest window was handed in, if the window is due; unless it was decided,
-- nothing changed
abbrev pub KeepsOldest : ℕ → DecisionsState → List Window → Result (Option DecidedFrame) Refusal
    → DecisionsState → List Window → Type 0
KeepsOldest now old ws (Ok None) new left = NoneDue now ws × ((new ≡ old) × (left ≡ ws))
KeepsOldest now old ws (Ok (Some frame)) new left = DecidesOldest now old ws frame new left
KeepsOldest now old ws (Err refusal) new left =
    RefusesOldest now old ws refusal × ((new ≡ old) × (left ≡ ws))

-- one more frame is kept, if somebody observes and fewer are kept than windows may be open
abbrev pub with_frame : ObservedState → ClosedFrame → ObservedState
with_frame s frame =
    if s.is_kept && nat_lt (length s.frames) MOST_WINDOWS
    then record s { frames = s.frames ++ frame ∷ [] } else s

-- a frame is kept so; or memory ran out for it, and it is missing
abbrev pub KeepsFrame : ObservedState → ClosedFrame → ObservedState → Type 0
KeepsFrame before frame after =
    (after ≡ with_frame before frame) ⊎ (after ≡ record before { lacks = true })

-- the oldest window was closed, and its frame was kept, or is missing
abbrev pub ClosesOldestSeen : CoreState → CoreState → ObservedState → ObservedState → Type 0
ClosesOldestSeen old new before after =
    (closes : ClosesOldest old new) × ((frame : ClosedFrame)
    × (IsClosedFrame closes.handed_in.heard closes.result new.decisions frame
    × KeepsFrame before frame after))

-- so were n windows, one after another
abbrev pub ClosesSeen : ℕ → CoreState → CoreState → ObservedState → ObservedState → Type 0
ClosesSeen zero old new before after = (new ≡ old) × (after ≡ before)
ClosesSeen (suc n) old new before after =
    (mid : CoreState) × ((between : ObservedState) × (ClosesSeen n old mid before between
    × ClosesOldestSeen mid new between after))

-- some windows were closed so, and counted
pub record HasClosedSeen (old new : CoreState) (before after : ObservedState) : Type 0 where
  pub last : CoreState
  pub closed : ClosesSeen new.closings old last before after
  pub new_is : new ≡ record last { closings = new.closings }

-- an event, and what observers are given of it: the frames whose windows it closed, in order
abbrev pub IsSeenTurn : CoreState → ℕ → Event → Turn → CoreState → ObservedState → ObservedState
    → Type 0
IsSeenTurn old moment event turn new before after =
    (is : IsTurn old moment (work_of event) turn new)
    × HasClosedSeen (core_at_moment old moment) is.between before after

-- what observers are given: these frames, and perhaps one is missing
abbrev pub frames_seen : Bool → List ClosedFrame → Bool → ObservedState
frames_seen is_kept frames lacks = record { is_kept = is_kept; frames = frames; lacks = lacks }

-- before an event: nothing
abbrev pub nothing_seen : Bool → ObservedState
nothing_seen is_kept = frames_seen is_kept [] false

-- The same through a lock, which hides the core: these are the frames of some core's turn. Whether
-- somebody observed it is not known.
abbrev pub IsSeenSomewhere : ℕ → Event → Turn → List ClosedFrame → Bool → Type 0
IsSeenSomewhere moment event turn frames lacks =
    (old : CoreState) × ((new : CoreState) × ((is_kept : Bool)
    × IsSeenTurn old moment event turn new (nothing_seen is_kept)
    (frames_seen is_kept frames lacks)))
