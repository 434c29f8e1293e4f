-- What each call of the disk leaves of a log, on the disk and in every image.
use Rattle.std.proofs.Common.{◌≡◌, ◌≢◌, ◌<◌, ◌≤◌, ℕ, ◌+◌, List, [], ◌∷◌, ◌++◌, length, get_or, refl, sym, ◌∙◌, ap, subst, arith, length-append}
use Rattle.std.specs.Prelude.{MatchBool, false, true}
use Rattle.disk.specs.State.{State, NothingOpen, IsPermitted, EveryImage, IsWrite, IsTorn, bytes_after_write}
use Rattle.gate_log.specs.declared.checkpoint.Checkpoint.{Checkpoint}
use Rattle.gate_log.specs.declared.checkpoint.CheckpointFront.{CheckpointFront}
use Rattle.gate_log.specs.declared.layout.Areas.{Areas}
use Rattle.gate_log.specs.declared.layout.Header.{Header}
use Rattle.gate_log.specs.declared.layout.TheConstants.{OPEN}
use Rattle.gate_log.specs.declared.phases.Begun.{Begun}
use Rattle.gate_log.specs.Areas.{LogContents, Holds, HoldsOneOf, IsClosedArea, IsOpenArea, IsShutArea, IsStaged, MayFollowContents, contents_with_batch, contents_with_checkpoint, exchanged_areas}
use Rattle.gate_log.specs.Checkpointing.{IsCheckpoint, IsCheckpointOpened, IsCheckpointSynced, IsCheckpointWritten, IsRetiring, checkpoint_bytes, front_of}
use Rattle.gate_log.specs.Layout.{BatchValue, body, checkpoint, header_bytes, spelling}
use Rattle.gate_log.specs.Log.{IsAtRest, Knows, KnowsOther, LogState}
use Rattle.gate_log.specs.Phases.{IsBegun, IsBodySynced, IsGateWritten, IsWritten, bytes_of}
use Rattle.gate_log.proofs.Gates.{room}
use Rattle.gate_log.proofs.Headers.{closed_is_shut, gate_is_open, header_of}
use Rattle.gate_log.proofs.Holding.{body_image, body_staged, checkpoint_image, checkpoint_staged, gate_content, gate_image, live_kept, live_order, live_within, other_gate_stays, other_order, other_within, published_content, published_image, retired_image, spelling-with_batch}
use Rattle.gate_log.proofs.Recovering.{length-spelling}
use Rattle.gate_log.proofs.Slices.{written_byte}
use Rattle.gate_log.proofs.Spelling.{length-header_bytes}

-- the disk's laws
abbrev pub Tears : Type 0
Tears =
    (at n : ℕ) (before after : State) → at + n ≤ length before.content → IsWrite at n before after → EveryImage after (λ image. (was : List ℕ) × IsPermitted before was × IsTorn at n was image)

abbrev pub Keeps : Type 0
Keeps = (state : State) → NothingOpen state → EveryImage state (λ image. image ≡ state.content)

-- the log with another disk
abbrev pub on_disk : LogState → State → LogState
on_disk log disk = record { disk = disk; areas = log.areas; next = log.next; generation = log.generation; other_open = log.other_open }

pub knows_on : (log : LogState) (c : LogContents) (disk : State) → Knows log c → Knows (on_disk log disk) c
knows_on log c disk knows = record { areas = knows.areas; generation = knows.generation; next = knows.next }

pub other_on : (log : LogState) (c : LogContents) (disk : State) → get_or disk.content c.areas.other.start 0 ≡ get_or log.disk.content c.areas.other.start 0 → KnowsOther log c → KnowsOther (on_disk log disk) c
other_on log c disk same knows = subst (λ (gate : ℕ). MatchBool log.other_open (gate ≡ OPEN) (gate ≢ OPEN)) (sym same) knows

-- what the content holds and every image is if nothing is open
pub settled_images : Keeps → (c : LogContents) (s : State) → NothingOpen s → Holds c s.content → EveryImage s (Holds c)
settled_images keeps c s settled holds image permitted = subst (Holds c) (sym (keeps s settled image permitted)) holds

-- a crash may leave the content itself
content_of : (c : LogContents) (s : State) → EveryImage s (Holds c) → Holds c s.content
content_of c s images = images s.content (record { same_length = refl; kept = λ i shut. refl })

-- after a sync
pub synced_images : Keeps → (c : LogContents) (before after : State) → EveryImage before (Holds c) → after.content ≡ before.content → NothingOpen after → EveryImage after (Holds c)
synced_images keeps c before after images same settled = settled_images keeps c after settled (subst (Holds c) (sym same) (content_of c before images))

pub live_end : (log : LogState) (c : LogContents) → Knows log c → log.areas.live.end ≡ c.areas.live.end
live_end log c knows = ap (λ (x : Areas). x.live.end) knows.areas

other_start : (log : LogState) (c : LogContents) → Knows log c → log.areas.other.start ≡ c.areas.other.start
other_start log c knows = ap (λ (x : Areas). x.other.start) knows.areas

other_end : (log : LogState) (c : LogContents) → Knows log c → log.areas.other.end ≡ c.areas.other.end
other_end log c knows = ap (λ (x : Areas). x.other.end) knows.areas

-- a batch's body
module _ (tears : Tears) (keeps : Keeps) (log : LogState) (c : LogContents) (after : State) (n : ℕ) (rest : IsAtRest log c) (opens : IsWrite (log.next + 1) n log.disk after) (room : log.next + n < log.areas.live.end) where
  place : log.next + 1 ≡ c.areas.live.start + (length (spelling c.journal) + 1)
  place = omega (arith, rest.knows.next)

  fits : log.next + 1 + n ≤ c.areas.live.end
  fits = omega (arith, room, live_end log c rest.knows)

  pub body_images : EveryImage after (Holds c)
  body_images image permitted =
      let was = tears (log.next + 1) n log.disk after (omega (arith, fits, live_within c log.disk.content rest.holds)) opens image permitted in
      body_image c (log.next + 1) n was.0 image (settled_images keeps c log.disk rest.settled rest.holds was.0 was.1) place was.2 fits

  pub body_written : (b : BatchValue) (begun : Begun) (size : ℕ) → IsBegun begun b → length (bytes_of begun) ≡ n → size ≡ n → after.content ≡ bytes_after_write log.disk.content (log.next + 1) (bytes_of begun) → IsWritten (on_disk log after) c b size
  body_written b begun size is_begun len same is = record {
    stages = record {
      staged =
          body_staged c (log.next + 1) is_begun.gate b (bytes_of begun) log.disk.content after.content rest.holds place is_begun.bytes is_begun.closed (omega (arith, fits, len)) is;
      head = is_begun.head;
      bytes = omega (arith, same, len, ap length is_begun.bytes, length-append (body b) (is_begun.gate ∷ []));
      knows = knows_on log c after rest.knows;
      other_gate =
          other_on log c after
          (other_gate_stays c log.disk.content rest.holds (log.next + 1) n after.content opens.torn (omega (arith, place)) fits)
          rest.other_gate;
    };
    images = body_images;
  }

pub body_synced : (log : LogState) (c : LogContents) (b : BatchValue) (size : ℕ) (after : State) → IsWritten log c b size → after.content ≡ log.disk.content → NothingOpen after → IsBodySynced (on_disk log after) c b size
body_synced log c b size after is same settled = record {
  stages = record {
    staged = subst (IsStaged c.areas.live (spelling c.journal) (body b)) (sym same) is.stages.staged;
    head = is.stages.head;
    bytes = is.stages.bytes;
    knows = knows_on log c after is.stages.knows;
    other_gate = other_on log c after (ap (λ (l : List ℕ). get_or l c.areas.other.start 0) same) is.stages.other_gate;
  };
  settled = settled;
  holds = subst (Holds c) (sym same) (content_of c log.disk is.images);
}

-- a batch's gate
module _ (tears : Tears) (keeps : Keeps) (log : LogState) (c : LogContents) (b : BatchValue) (size : ℕ) (after : State) (is : IsBodySynced log c b size) (opens : IsWrite log.next 1 log.disk after) where
  gate_room : log.next < c.areas.live.end
  gate_room =
      omega (arith, is.stages.knows.next, room c.areas.live (spelling c.journal) log.disk.content (omega (arith, live_order c log.disk.content is.holds)) (live_within c log.disk.content is.holds) (body b) is.stages.staged)

  pub gate_images : EveryImage after (HoldsOneOf c (contents_with_batch c b))
  gate_images image permitted =
      let was = tears log.next 1 log.disk after (omega (arith, gate_room, live_within c log.disk.content is.holds)) opens image permitted in
      let same = keeps log.disk is.settled was.0 was.1 in
      gate_image c b is.stages.head log.disk.content is.holds is.stages.staged log.next image is.stages.knows.next gate_room (subst (λ (l : List ℕ). IsTorn log.next 1 l image) same was.2)

  pub gate_is_written : after.content ≡ bytes_after_write log.disk.content log.next (OPEN ∷ []) → IsGateWritten (on_disk log after) c b size
  gate_is_written is_written = record {
    holds = gate_content c b is.stages.head log.disk.content is.holds is.stages.staged log.next after.content is.stages.knows.next gate_room opens.torn is_written;
    images = gate_images;
    bytes = is.stages.bytes;
    knows = knows_on log c after is.stages.knows;
    other_gate =
        other_on log c after
        (other_gate_stays c log.disk.content is.holds log.next 1 after.content opens.torn (omega (arith, is.stages.knows.next)) (omega (arith, gate_room)))
        is.stages.other_gate;
  }

pub batch_at_rest : (log : LogState) (c : LogContents) (b : BatchValue) (size : ℕ) (after : State) → IsGateWritten log c b size → after.content ≡ log.disk.content → NothingOpen after
    → IsAtRest (record { disk = after; areas = log.areas; next = log.next + size; generation = log.generation; other_open = log.other_open }) (contents_with_batch c b)
batch_at_rest log c b size after is same settled = record {
  settled = settled;
  holds = subst (Holds (contents_with_batch c b)) (sym same) is.holds;
  knows = record {
    areas = is.knows.areas;
    generation = is.knows.generation;
    next = omega (arith, is.knows.next, is.bytes, ap length (spelling-with_batch b c.journal), length-append (spelling c.journal) (OPEN ∷ body b));
  };
  other_gate = other_on log c after (ap (λ (l : List ℕ). get_or l c.areas.other.start 0) same) is.other_gate;
}

-- the other area's gate is closed
module _ (tears : Tears) (keeps : Keeps) (log : LogState) (c : LogContents) (after : State) (rest : IsAtRest log c) (is_open : log.other_open ≡ true) (opens : IsWrite log.areas.other.start 1 log.disk after) where
  retired_opens : IsWrite c.areas.other.start 1 log.disk after
  retired_opens = subst (λ (at : ℕ). IsWrite at 1 log.disk after) (other_start log c rest.knows) opens

  gate_open : IsOpenArea c.areas.other log.disk.content
  gate_open = subst (λ (x : _). MatchBool x (IsOpenArea c.areas.other log.disk.content) (IsClosedArea c.areas.other log.disk.content)) is_open rest.other_gate

  pub retired_images : EveryImage after (Holds c)
  retired_images image permitted =
      let was = tears c.areas.other.start 1 log.disk after (omega (arith, other_order c log.disk.content rest.holds, other_within c log.disk.content rest.holds)) retired_opens image permitted in
      let same = keeps log.disk rest.settled was.0 was.1 in
      retired_image c log.disk.content image rest.holds gate_open (subst (λ (l : List ℕ). IsTorn c.areas.other.start 1 l image) same was.2)

  pub is_retiring : after.content ≡ bytes_after_write log.disk.content log.areas.other.start (0 ∷ []) → IsRetiring (on_disk log after) c
  is_retiring is_written = record { closed = λ is_open. closed is_open; images = retired_images; knows = knows_on log c after rest.knows }
    where
      zero_is : get_or after.content c.areas.other.start 0 ≡ 0
      zero_is =
          ap (λ (l : List ℕ). get_or l c.areas.other.start 0) (is_written ∙ ap (λ (at : ℕ). bytes_after_write log.disk.content at (0 ∷ [])) (other_start log c rest.knows))
          ∙ written_byte log.disk.content c.areas.other.start 0 (omega (arith, other_order c log.disk.content rest.holds, other_within c log.disk.content rest.holds))

      closed : get_or after.content c.areas.other.start 0 ≡ OPEN → ⊥
      closed is_open = omega (arith, zero_is, is_open)

pub retired_at_rest : (log : LogState) (c : LogContents) (after : State) → IsRetiring log c → after.content ≡ log.disk.content → NothingOpen after
    → IsAtRest (record { disk = after; areas = log.areas; next = log.next; generation = log.generation; other_open = false }) c
retired_at_rest log c after is same settled = record {
  settled = settled;
  holds = subst (Holds c) (sym same) (content_of c log.disk is.images);
  knows = record { areas = is.knows.areas; generation = is.knows.generation; next = is.knows.next };
  other_gate = subst (λ (l : List ℕ). get_or l c.areas.other.start 0 ≢ OPEN) (sym same) is.closed;
}

-- a checkpoint's bytes
module _ (tears : Tears) (keeps : Keeps) (log : LogState) (c : LogContents) (after : State) (n : ℕ) (rest : IsAtRest log c) (is_shut : log.other_open ≡ false) (opens : IsWrite (log.areas.other.start + 1) n log.disk after) (room : log.areas.other.start + n < log.areas.other.end) where
  shut : IsShutArea c.areas.other [] log.disk.content
  shut =
      closed_is_shut c.areas.other log.disk.content (other_order c log.disk.content rest.holds) (other_within c log.disk.content rest.holds)
      (subst (λ (x : _). MatchBool x (IsOpenArea c.areas.other log.disk.content) (IsClosedArea c.areas.other log.disk.content)) is_shut rest.other_gate)

  other_opens : IsWrite (c.areas.other.start + 1) n log.disk after
  other_opens = subst (λ (at : ℕ). IsWrite (at + 1) n log.disk after) (other_start log c rest.knows) opens

  other_fits : c.areas.other.start + 1 + n ≤ c.areas.other.end
  other_fits = omega (arith, room, other_start log c rest.knows, other_end log c rest.knows)

  pub checkpoint_images : EveryImage after (Holds c)
  checkpoint_images image permitted =
      let was = tears (c.areas.other.start + 1) n log.disk after (omega (arith, other_fits, other_within c log.disk.content rest.holds)) other_opens image permitted in
      let same = keeps log.disk rest.settled was.0 was.1 in
      checkpoint_image c n log.disk.content image rest.holds shut (subst (λ (l : List ℕ). IsTorn (c.areas.other.start + 1) n l image) same was.2) other_fits

  pub checkpoint_written : (begun : Checkpoint) (header : Header) (records : List ℕ) (front : CheckpointFront) → IsCheckpoint begun header records → MayFollowContents c header records → length (checkpoint_bytes begun) ≡ n
      → front ≡ front_of begun → after.content ≡ bytes_after_write log.disk.content (log.areas.other.start + 1) (checkpoint_bytes begun) → IsCheckpointWritten (on_disk log after) c header records front
  checkpoint_written begun header records front is follows len same is_written = record {
    stages = record {
      staged =
          checkpoint_staged c is.gate (header_bytes header ++ records) (checkpoint_bytes begun) log.disk.content after.content rest.holds shut is.bytes is.closed (omega (arith, other_fits, len))
          (is_written ∙ ap (λ (at : ℕ). bytes_after_write log.disk.content (at + 1) (checkpoint_bytes begun)) (other_start log c rest.knows));
      follows = follows;
      is_front = record {
        generation = ap (λ (x : CheckpointFront). x.generation) same ∙ is.generation;
        len =
            omega (arith, ap (λ (x : CheckpointFront). x.len) same, ap length is.bytes, length-append (header_bytes header ++ records) (is.gate ∷ []), length-append (header_bytes header) records, length-header_bytes header);
      };
      knows = knows_on log c after rest.knows;
    };
    images = checkpoint_images;
  }

pub checkpoint_synced : (log : LogState) (c : LogContents) (header : Header) (records : List ℕ) (front : CheckpointFront) (after : State) → IsCheckpointWritten log c header records front → after.content ≡ log.disk.content → NothingOpen after → IsCheckpointSynced (on_disk log after) c header records front
checkpoint_synced log c header records front after is same settled = record {
  stages = record {
    staged = subst (IsStaged c.areas.other [] (header_bytes header ++ records)) (sym same) is.stages.staged;
    follows = is.stages.follows;
    is_front = is.stages.is_front;
    knows = knows_on log c after is.stages.knows;
  };
  settled = settled;
  holds = subst (Holds c) (sym same) (content_of c log.disk is.images);
}

-- a checkpoint's gate
module _ (tears : Tears) (keeps : Keeps) (log : LogState) (c : LogContents) (header : Header) (records : List ℕ) (front : CheckpointFront) (after : State) (is : IsCheckpointSynced log c header records front) (opens : IsWrite log.areas.other.start 1 log.disk after) where
  here : IsWrite c.areas.other.start 1 log.disk after
  here = subst (λ (at : ℕ). IsWrite at 1 log.disk after) (other_start log c is.stages.knows) opens

  pub published_images : EveryImage after (HoldsOneOf c (contents_with_checkpoint c header records))
  published_images image permitted =
      let was = tears c.areas.other.start 1 log.disk after (omega (arith, other_order c log.disk.content is.holds, other_within c log.disk.content is.holds)) here image permitted in
      let same = keeps log.disk is.settled was.0 was.1 in
      published_image c header records is.stages.follows log.disk.content is.holds is.stages.staged image (subst (λ (l : List ℕ). IsTorn c.areas.other.start 1 l image) same was.2)

  pub checkpoint_opened : after.content ≡ bytes_after_write log.disk.content log.areas.other.start (OPEN ∷ []) → IsCheckpointOpened (on_disk log after) c header records front
  checkpoint_opened is_written =
      let kept = live_kept c log.disk.content is.holds c.areas.other.start 1 after.content here.torn (omega arith) (omega (arith, other_order c log.disk.content is.holds)) in
      record {
        holds =
            published_content c header records is.stages.follows log.disk.content is.holds is.stages.staged after.content here.torn
            (is_written ∙ ap (λ (at : ℕ). bytes_after_write log.disk.content at (OPEN ∷ [])) (other_start log c is.stages.knows));
        images = published_images;
        old_gate = gate_is_open c.areas.live after.content c.journal.header (live_order c log.disk.content is.holds) (header_of c.areas.live after.content c.journal kept);
        is_front = is.stages.is_front;
        knows = knows_on log c after is.stages.knows;
      }

pub published_at_rest : (log : LogState) (c : LogContents) (header : Header) (records : List ℕ) (front : CheckpointFront) (after : State) → IsCheckpointOpened log c header records front → after.content ≡ log.disk.content → NothingOpen after
    → IsAtRest (record { disk = after; areas = exchanged_areas log.areas; next = log.areas.other.start + front.len; generation = front.generation; other_open = true }) (contents_with_checkpoint c header records)
published_at_rest log c header records front after is same settled = record {
  settled = settled;
  holds = subst (Holds (contents_with_checkpoint c header records)) (sym same) is.holds;
  knows = record {
    areas = ap exchanged_areas is.knows.areas;
    generation = is.is_front.generation;
    next = omega (arith, is.is_front.len, other_start log c is.knows, length-spelling (checkpoint header records));
  };
  other_gate = subst (λ (l : List ℕ). get_or l c.areas.live.start 0 ≡ OPEN) (sym same) is.old_gate;
}
