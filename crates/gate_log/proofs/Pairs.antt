-- What a body after a gate that isn't synced leaves of a log.
use Rattle.std.proofs.Common.{◌≡◌, ◌<◌, ◌≤◌, ℕ, ◌+◌, ◌-◌, List, ◌∷◌, [], length, take, drop, inl, inr, refl, sym, ◌∙◌, ap, subst, arith, length-append}
use Rattle.std.proofs.lemmas.List.{take-take}
use Rattle.disk.specs.State.{State, NothingOpen, EveryImage, IsWrite, IsTorn, bytes_after_write}
use Rattle.gate_log.specs.declared.layout.TheConstants.{OPEN}
use Rattle.gate_log.specs.declared.phases.Begun.{Begun}
use Rattle.gate_log.specs.Areas.{LogContents, Holds, HoldsOneOf, IsStaged, contents_with_batch}
use Rattle.gate_log.specs.Layout.{BatchValue, body, spelling}
use Rattle.gate_log.specs.Log.{LogState}
use Rattle.gate_log.specs.Pairing.{IsPaired}
use Rattle.gate_log.specs.Phases.{IsBegun, IsBodySynced, IsGateWritten, bytes_of}
use Rattle.gate_log.proofs.Holding.{body_image, body_staged, live_within, other_gate_stays, spelling-with_batch}
use Rattle.gate_log.proofs.Steps.{Keeps, Tears, batch_at_rest, live_end, on_disk, other_on, knows_on, settled_images}

-- what is torn is also torn in a wider range
torn_wider : (k at n : ℕ) (xs ys : List ℕ) → k ≤ at → IsTorn at n xs ys → IsTorn k (n + (at - k)) xs ys
torn_wider k at n xs ys past torn = record {
  same_length = torn.same_length;
  before = sym (take-take k at ys past) ∙ (ap (take k) torn.before ∙ take-take k at xs past);
  after = subst (λ (i : ℕ). drop i ys ≡ drop i xs) (omega (arith, past)) torn.after;
}

-- a write further after the closed gate
body_image_past : (c : LogContents) (at n : ℕ) (old new : List ℕ) → Holds c old → c.areas.live.start + (length (spelling c.journal) + 1) ≤ at → IsTorn at n old new
    → at + n ≤ c.areas.live.end → Holds c new
body_image_past c at n old new h past torn fits =
    let k = c.areas.live.start + (length (spelling c.journal) + 1) in
    body_image c k (n + (at - k)) old new h refl (torn_wider k at n old new past torn) (omega (arith, past, fits))

-- the next batch's body
module _ (tears : Tears) (log : LogState) (c : LogContents) (b : BatchValue) (size : ℕ) (after : State) (k : ℕ) (is : IsGateWritten log c b size)
    (opens : IsWrite (log.next + size + 1) k log.disk after) (room : log.next + size + k < log.areas.live.end) where
  abbrev both : LogContents
  both = contents_with_batch c b

  long : length (spelling both.journal) ≡ length (spelling c.journal) + size
  long = omega (arith, is.bytes, ap length (spelling-with_batch b c.journal), length-append (spelling c.journal) (OPEN ∷ body b))

  place : log.next + size + 1 ≡ both.areas.live.start + (length (spelling both.journal) + 1)
  place = omega (arith, long, is.knows.next)

  past : c.areas.live.start + (length (spelling c.journal) + 1) ≤ log.next + size + 1
  past = omega (arith, is.knows.next)

  fits : log.next + size + 1 + k ≤ c.areas.live.end
  fits = omega (arith, room, live_end log c is.knows)

  pub pair_images : EveryImage after (HoldsOneOf c both)
  pair_images image permitted =
      let was = tears (log.next + size + 1) k log.disk after (omega (arith, fits, live_within both log.disk.content is.holds)) opens image permitted in
      elim (is.images was.0 was.1) [
        | inl h ↦ inl (body_image_past c (log.next + size + 1) k was.0 image h past was.2 fits)
        | inr h ↦ inr (body_image both (log.next + size + 1) k was.0 image h place was.2 fits)
      ]

  pub pair_written : (n : BatchValue) (begun : Begun) (next_size : ℕ) → IsBegun begun n → length (bytes_of begun) ≡ k → next_size ≡ k
      → after.content ≡ bytes_after_write log.disk.content (log.next + size + 1) (bytes_of begun) → IsPaired (on_disk log after) c b n size next_size
  pair_written n begun next_size is_begun len same written = record {
    staged =
        body_staged both (log.next + size + 1) is_begun.gate n (bytes_of begun) log.disk.content after.content is.holds place is_begun.bytes is_begun.closed
        (omega (arith, fits, len)) written;
    holds = body_image both (log.next + size + 1) k log.disk.content after.content is.holds place opens.torn fits;
    head = is_begun.head;
    images = pair_images;
    bytes = is.bytes;
    next_bytes = omega (arith, same, len, ap length is_begun.bytes, length-append (body n) (is_begun.gate ∷ []));
    knows = knows_on log c after is.knows;
    other_gate =
        other_on log c after
        (other_gate_stays both log.disk.content is.holds (log.next + size + 1) k after.content opens.torn (omega (arith, place)) fits)
        is.other_gate;
  }

-- the first of the pair alone
first_of : (log : LogState) (c : LogContents) (b n : BatchValue) (size next_size : ℕ) → IsPaired log c b n size next_size → IsGateWritten log c b size
first_of log c b n size next_size is = record { holds = is.holds; images = is.images; bytes = is.bytes; knows = is.knows; other_gate = is.other_gate }

-- the sync that both share
module _ (log : LogState) (c : LogContents) (b n : BatchValue) (size next_size : ℕ) (after : State) (is : IsPaired log c b n size next_size)
    (same : after.content ≡ log.disk.content) (settled : NothingOpen after) where
  abbrev there : LogState
  there = record { disk = after; areas = log.areas; next = log.next + size; generation = log.generation; other_open = log.other_open }

  pub pair_synced : (m : ℕ) → m ≡ next_size → IsBodySynced there (contents_with_batch c b) n m
  pair_synced m len =
      let rest = batch_at_rest log c b size after (first_of log c b n size next_size is) same settled in
      record {
        stages = record {
          staged = subst (IsStaged c.areas.live (spelling (contents_with_batch c b).journal) (body n)) (sym same) is.staged;
          head = is.head;
          bytes = len ∙ is.next_bytes;
          knows = rest.knows;
          other_gate = rest.other_gate;
        };
        settled = settled;
        holds = rest.holds;
      }

  pub pair_durable : Keeps → EveryImage after (Holds (contents_with_batch c b))
  pair_durable keeps = settled_images keeps (contents_with_batch c b) after settled (subst (Holds (contents_with_batch c b)) (sym same) is.holds)
