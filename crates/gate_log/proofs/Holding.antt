-- What each write leaves of a disk's contents.
use Rattle.std.proofs.Common.{◌≡◌, ◌≢◌, ◌⊎◌, inl, inr, ◌<◌, ◌≤◌, ℕ, ◌+◌, min, max, List, [], ◌∷◌, ◌++◌, length, get_or, take, drop, refl, sym, ◌∙◌, ap, subst, arith, append_assoc}
use Rattle.std.proofs.lemmas.Bool.{cases_lt}
use Rattle.std.proofs.lemmas.List.{append-nil, drop_more}
use Rattle.disk.specs.State.{IsTorn, bytes_after_write}
use Rattle.gate_log.specs.declared.layout.Areas.{Areas}
use Rattle.gate_log.specs.declared.layout.Header.{Header}
use Rattle.gate_log.specs.declared.layout.TheConstants.{OPEN}
use Rattle.gate_log.specs.Areas.{AreLaidOut, LogContents, HasHeader, Holds, HoldsOneOf, HoldsIn, IsOlder, IsOpenArea, IsShutArea, IsStaged, MayFollowContents, contents_with_batch, bytes_in, front_len, contents_with_checkpoint, exchanged_areas}
use Rattle.gate_log.specs.Layout.{AreHeads, BatchValue, IsHead, IsJournal, Journal, body, head_of, header_bytes, open_batches, spelling, with_batch}
use Rattle.gate_log.proofs.Gates.{gate_torn, gate_written, shut_torn, shut_written}
use Rattle.gate_log.proofs.Headers.{header_of, one_header, shut_is_older}
use Rattle.gate_log.proofs.Slices.{bytes_stay, bytes_torn, byte_stays, front_stays, gate_of, length-bytes_in}

module _ (b : BatchValue) where
  open_batches-push : (batches : List BatchValue) → open_batches (batches ++ b ∷ []) ≡ open_batches batches ++ (OPEN ∷ body b)
  open_batches-push [] = ap (λ (l : List ℕ). OPEN ∷ l) (append-nil (body b))
  open_batches-push (x ∷ batches) =
      ap (λ (l : List ℕ). OPEN ∷ (body x ++ l)) (open_batches-push batches) ∙ ap (λ (l : List ℕ). OPEN ∷ l) (sym (append_assoc (body x) (open_batches batches) (OPEN ∷ body b)))

  AreHeads-push : (batches : List BatchValue) → AreHeads batches → IsHead (head_of b) → AreHeads (batches ++ b ∷ [])
  AreHeads-push [] are is = (is, tt)
  AreHeads-push (x ∷ batches) are is = (are.0, AreHeads-push batches are.1 is)

  pub spelling-with_batch : (j : Journal) → spelling j ++ (OPEN ∷ body b) ≡ spelling (with_batch j b)
  spelling-with_batch j =
      let header = header_bytes j.header in
      let more = OPEN ∷ body b in
      ap (λ (l : List ℕ). OPEN ∷ l) (append_assoc header (j.records ++ open_batches j.batches) more)
      ∙ ap (λ (l : List ℕ). OPEN ∷ (header ++ l)) (append_assoc j.records (open_batches j.batches) more)
      ∙ ap (λ (l : List ℕ). OPEN ∷ (header ++ (j.records ++ l))) (sym (open_batches-push j.batches))

  with_batch_in_range : (j : Journal) → IsJournal j → IsHead (head_of b) → IsJournal (with_batch j b)
  with_batch_in_range j is head = record { header = is.header; records = is.records; batches = AreHeads-push j.batches is.batches head }

-- areas that share no byte lie one after the other
pub in_order : (areas : Areas) (size : ℕ) → AreLaidOut areas size → (areas.live.end ≤ areas.other.start) ⊎ (areas.other.end ≤ areas.live.start)
in_order areas size are = elim (cases_lt areas.other.start areas.live.end) [
  | inl inside ↦ inr (behind inside)
  | inr past ↦ inl past
]
  where
    behind : areas.other.start < areas.live.end → areas.other.end ≤ areas.live.start
    behind inside = elim (cases_lt areas.live.start areas.other.end) [
      | inl both ↦ absurd (are.apart (max areas.live.start areas.other.start) (omega arith) (omega (arith, inside, are.live_room)) (omega arith) (omega (arith, both, are.other_room)))
      | inr before ↦ before
    ]

-- they may change places
pub turned : (areas : Areas) (size : ℕ) → AreLaidOut areas size → AreLaidOut (exchanged_areas areas) size
turned areas size are = record {
  live_room = are.other_room;
  other_room = are.live_room;
  live_within = are.other_within;
  other_within = are.live_within;
  apart = λ i a b x y. are.apart i x y a b;
}

-- the areas of a disk that holds contents
module _ (c : LogContents) (old : List ℕ) (h : Holds c old) where
  pub live_order : c.areas.live.start < c.areas.live.end
  live_order = omega (arith, h.layout.live_room)

  pub other_order : c.areas.other.start < c.areas.other.end
  other_order = omega (arith, h.layout.other_room)

  pub live_within : c.areas.live.end ≤ length old
  live_within = omega (arith, h.layout.live_within, h.size)

  pub other_within : c.areas.other.end ≤ length old
  other_within = omega (arith, h.layout.other_within, h.size)

  -- a write into the live area
  module _ (at n : ℕ) (new : List ℕ) (torn : IsTorn at n old new) (above : c.areas.live.start ≤ at) (below : at + n ≤ c.areas.live.end) where
    elsewhere : (at + n ≤ c.areas.other.start) ⊎ (c.areas.other.end ≤ at)
    elsewhere = elim (in_order c.areas c.size h.layout) [
      | inl apart ↦ inl (omega (arith, apart, below))
      | inr apart ↦ inr (omega (arith, apart, above))
    ]

    -- the live area has another journal of the same generation
    pub with_journal : (j : Journal) → j.header.generation ≡ c.journal.header.generation → HoldsIn c.areas.live j new → Holds (record { areas = c.areas; front = c.front; journal = j; size = c.size }) new
    with_journal j same held = record {
      layout = h.layout;
      size = torn.same_length ∙ h.size;
      front = front_stays (front_len c.areas) at n old new torn (omega (arith, above)) ∙ h.front;
      live = held;
      other =
          λ (k : Header) (has : HasHeader c.areas.other k new).
          omega (arith, same, h.other k (record { rest = has.rest; bytes = sym (bytes_stay c.areas.other at n old new (omega (arith, other_order)) torn elsewhere) ∙ has.bytes; in_range = has.in_range }));
    }

    pub other_gate_stays : get_or new c.areas.other.start 0 ≡ get_or old c.areas.other.start 0
    other_gate_stays = byte_stays c.areas.other.start at n old new torn (elim elsewhere [
      | inl past ↦ inr past
      | inr front ↦ inl (omega (arith, front, other_order))
    ])

  -- a write into the other area
  module _ (at n : ℕ) (new : List ℕ) (torn : IsTorn at n old new) (above : c.areas.other.start ≤ at) (below : at + n ≤ c.areas.other.end) where
    away : (at + n ≤ c.areas.live.start) ⊎ (c.areas.live.end ≤ at)
    away = elim (in_order c.areas c.size h.layout) [
      | inl apart ↦ inr (omega (arith, apart, above))
      | inr apart ↦ inl (omega (arith, apart, below))
    ]

    pub front_kept : take (front_len c.areas) new ≡ c.front
    front_kept = front_stays (front_len c.areas) at n old new torn (omega (arith, above)) ∙ h.front

    pub live_kept : HoldsIn c.areas.live c.journal new
    live_kept = record {
      shut = record {
        gate = h.live.shut.gate;
        free = h.live.shut.free;
        bytes = bytes_stay c.areas.live at n old new (omega (arith, live_order)) torn away ∙ h.live.shut.bytes;
        closed = h.live.shut.closed;
      };
      in_range = h.live.in_range;
    }

    pub with_other : IsOlder c.journal.header.generation c.areas.other new → Holds c new
    with_other older = record {
      layout = h.layout;
      size = torn.same_length ∙ h.size;
      front = front_kept;
      live = live_kept;
      other = older;
    }

    -- the other area has a checkpoint that follows
    pub with_checkpoint : (header : Header) (records : List ℕ) → MayFollowContents c header records → IsShutArea c.areas.other (OPEN ∷ (header_bytes header ++ records)) new → Holds (contents_with_checkpoint c header records) new
    with_checkpoint header records follows shut = record {
      layout = turned c.areas c.size h.layout;
      size = torn.same_length ∙ h.size;
      front = ap (λ (k : ℕ). take k new) same_len ∙ front_kept;
      live = record {
        shut = subst (λ (l : List ℕ). IsShutArea c.areas.other l new) (ap (λ (l : List ℕ). OPEN ∷ (header_bytes header ++ l)) (sym (append-nil records))) shut;
        in_range = record { header = follows.in_range; records = follows.len; batches = tt };
      };
      other =
          λ (k : Header) (has : HasHeader c.areas.live k new).
          let is : k ≡ c.journal.header = one_header c.areas.live new k c.journal.header has (header_of c.areas.live new c.journal live_kept) in
          omega (arith, ap (λ (x : Header). x.generation) is, follows.later);
    }
      where
        same_len : min c.areas.other.start c.areas.live.start ≡ min c.areas.live.start c.areas.other.start
        same_len = omega arith

-- a batch's body is written, whole or torn or failed
pub body_image : (c : LogContents) (at n : ℕ) (old new : List ℕ) → Holds c old → at ≡ c.areas.live.start + (length (spelling c.journal) + 1) → IsTorn at n old new → at + n ≤ c.areas.live.end → Holds c new
body_image c at n old new h place torn fits =
    with_journal c old h at n new torn (omega (arith, place)) fits c.journal refl (record {
      shut = shut_torn c.areas.live (spelling c.journal) old (omega (arith, live_order c old h)) (live_within c old h) at n new h.live.shut place torn fits;
      in_range = h.live.in_range;
    })

pub body_staged : (c : LogContents) (at next : ℕ) (b : BatchValue) (bytes old new : List ℕ) → Holds c old → at ≡ c.areas.live.start + (length (spelling c.journal) + 1) → bytes ≡ body b ++ next ∷ [] → next ≢ OPEN → at + length bytes ≤ c.areas.live.end → new ≡ bytes_after_write old at bytes → IsStaged c.areas.live (spelling c.journal) (body b) new
body_staged c at next b bytes old new h place are closed fits is =
    shut_written c.areas.live (spelling c.journal) old (omega (arith, live_order c old h)) (live_within c old h) at next (body b) bytes new h.live.shut place are closed fits is

module _ (c : LogContents) (b : BatchValue) (head : IsHead (head_of b)) (old : List ℕ) (h : Holds c old) (staged : IsStaged c.areas.live (spelling c.journal) (body b) old) where
  order : c.areas.live.start ≤ c.areas.live.end
  order = omega (arith, live_order c old h)

  batch_in : (new : List ℕ) → IsShutArea c.areas.live (spelling c.journal ++ (OPEN ∷ body b)) new → HoldsIn c.areas.live (with_batch c.journal b) new
  batch_in new shut = record {
    shut = subst (λ (l : List ℕ). IsShutArea c.areas.live l new) (spelling-with_batch b c.journal) shut;
    in_range = with_batch_in_range b c.journal h.live.in_range head;
  }

  -- the batch's gate is written
  pub gate_image : (at : ℕ) (new : List ℕ) → at ≡ c.areas.live.start + length (spelling c.journal) → at < c.areas.live.end → IsTorn at 1 old new → HoldsOneOf c (contents_with_batch c b) new
  gate_image at new place room torn =
      let above : c.areas.live.start ≤ at = omega (arith, place) in
      let below : at + 1 ≤ c.areas.live.end = omega (arith, room) in
      elim (gate_torn c.areas.live (spelling c.journal) old order (live_within c old h) (body b) staged at new place torn) [
        | inl shut ↦ inl (with_journal c old h at 1 new torn above below c.journal refl (record { shut = shut; in_range = h.live.in_range }))
        | inr shut ↦ inr (with_journal c old h at 1 new torn above below (with_batch c.journal b) refl (batch_in new shut))
      ]

  pub gate_content : (at : ℕ) (new : List ℕ) → at ≡ c.areas.live.start + length (spelling c.journal) → at < c.areas.live.end → IsTorn at 1 old new → new ≡ bytes_after_write old at (OPEN ∷ []) → Holds (contents_with_batch c b) new
  gate_content at new place room torn is =
      with_journal c old h at 1 new torn (omega (arith, place)) (omega (arith, room)) (with_batch c.journal b) refl
      (batch_in new (gate_written c.areas.live (spelling c.journal) old order (live_within c old h) (body b) staged at new place is))

-- the other area's gate, which was open, is written

pub retired_image : (c : LogContents) (old new : List ℕ) → Holds c old → IsOpenArea c.areas.other old → IsTorn c.areas.other.start 1 old new → Holds c new
retired_image c old new h is_open torn = with_other c old h c.areas.other.start 1 new torn (omega arith) (omega (arith, other_order c old h)) older
  where
    near : IsTorn 0 1 (bytes_in c.areas.other old) (bytes_in c.areas.other new)
    near = bytes_torn c.areas.other 0 1 old new (subst (λ (k : ℕ). IsTorn k 1 old new) (omega arith) torn) (omega (arith, other_order c old h))

    was : (k : Header) → HasHeader c.areas.other k new → HasHeader c.areas.other k old
    was k has =
        let bytes = bytes_in c.areas.other old in
        let some : 0 < length bytes = omega (arith, length-bytes_in c.areas.other old (omega (arith, other_order c old h)) (other_within c old h), other_order c old h) in
        let first : get_or bytes 0 0 ≡ OPEN = gate_of c.areas.other old (other_order c old h) ∙ is_open in
        let rest : drop 1 bytes ≡ header_bytes k ++ has.rest = sym near.after ∙ ap (λ (l : List ℕ). drop 1 l) has.bytes in
        record {
          rest = has.rest;
          bytes = drop_more bytes 0 0 some ∙ ap (λ (n : ℕ). n ∷ drop 1 bytes) first ∙ ap (λ (l : List ℕ). OPEN ∷ l) rest;
          in_range = has.in_range;
        }

    older : IsOlder c.journal.header.generation c.areas.other new
    older k has = h.other k (was k has)

-- a checkpoint is written after the other area's closed gate, whole or torn or failed
pub checkpoint_image : (c : LogContents) (n : ℕ) (old new : List ℕ) → Holds c old → IsShutArea c.areas.other [] old → IsTorn (c.areas.other.start + 1) n old new → c.areas.other.start + 1 + n ≤ c.areas.other.end → Holds c new
checkpoint_image c n old new h shut torn fits =
    with_other c old h (c.areas.other.start + 1) n new torn (omega arith) fits
    (shut_is_older c.areas.other new c.journal.header.generation
    (shut_torn c.areas.other [] old (omega (arith, other_order c old h)) (other_within c old h) (c.areas.other.start + 1) n new shut refl torn fits))

pub checkpoint_staged : (c : LogContents) (next : ℕ) (staged bytes old new : List ℕ) → Holds c old → IsShutArea c.areas.other [] old → bytes ≡ staged ++ next ∷ [] → next ≢ OPEN → c.areas.other.start + 1 + length bytes ≤ c.areas.other.end → new ≡ bytes_after_write old (c.areas.other.start + 1) bytes → IsStaged c.areas.other [] staged new
checkpoint_staged c next staged bytes old new h shut are closed fits is =
    shut_written c.areas.other [] old (omega (arith, other_order c old h)) (other_within c old h) (c.areas.other.start + 1) next staged bytes new shut refl are closed fits is

module _ (c : LogContents) (header : Header) (records : List ℕ) (follows : MayFollowContents c header records) (old : List ℕ) (h : Holds c old) (staged : IsStaged c.areas.other [] (header_bytes header ++ records) old) where
  other_ordered : c.areas.other.start ≤ c.areas.other.end
  other_ordered = omega (arith, other_order c old h)

  -- the checkpoint's gate is written
  pub published_image : (new : List ℕ) → IsTorn c.areas.other.start 1 old new → HoldsOneOf c (contents_with_checkpoint c header records) new
  published_image new torn =
      let below : c.areas.other.start + 1 ≤ c.areas.other.end = omega (arith, other_order c old h) in
      elim (gate_torn c.areas.other [] old other_ordered (other_within c old h) (header_bytes header ++ records) staged c.areas.other.start new (omega arith) torn) [
        | inl shut ↦ inl (with_other c old h c.areas.other.start 1 new torn (omega arith) below (shut_is_older c.areas.other new c.journal.header.generation shut))
        | inr shut ↦ inr (with_checkpoint c old h c.areas.other.start 1 new torn (omega arith) below header records follows shut)
      ]

  pub published_content : (new : List ℕ) → IsTorn c.areas.other.start 1 old new → new ≡ bytes_after_write old c.areas.other.start (OPEN ∷ []) → Holds (contents_with_checkpoint c header records) new
  published_content new torn is =
      with_checkpoint c old h c.areas.other.start 1 new torn (omega arith) (omega (arith, other_order c old h)) header records follows
      (gate_written c.areas.other [] old other_ordered (other_within c old h) (header_bytes header ++ records) staged c.areas.other.start new (omega arith) is)
