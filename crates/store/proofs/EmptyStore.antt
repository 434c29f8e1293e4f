-- The bytes of a store that is being made.
use Rattle.std.proofs.Common.{◌≡◌, ◌<◌, ◌≤◌, ◌+◌, ◌-◌, ◌∙◌, ℕ, List, [], ◌∷◌, ◌++◌, Result, Ok, Err, OnOk, false, length, take, drop, get_or, sym, ap, refl, arith, inl, inr, ◌≢◌, append_assoc}
use Rattle.std.proofs.lemmas.List.{drop-drop, drop_at, drop-take, take_at, take-take, length-take-le, get_or-take, get_or-drop}
use Rattle.std.specs.List.{slice_range}
use Rattle.disk.specs.State.{IsPermitted, IsTorn, NothingOpen, IsWrite, State, bytes_after_write}
use Rattle.gate_log.specs.declared.layout.Area.{Area}
use Rattle.std.proofs.lemmas.Bool.{cases_eq}
use Rattle.gate_log.specs.declared.layout.Areas.{Areas}
use Rattle.gate_log.specs.declared.layout.TheConstants.{OPEN}
use Rattle.gate_log.specs.Areas.{HoldsIn, IsClosedArea, IsOlder, bytes_in, contents_in}
use Rattle.gate_log.specs.Log.{IsAtRest}
use Rattle.gate_log.specs.Layout.{Journal, checkpoint, fresh_header, header_bytes}
use Rattle.sessions.specs.Table.{empty_table}
use Rattle.store_layout.specs.Superblock.{area_len, disk_len, superblock, superblock_body}
use Rattle.store.specs.Formatting.{IsFormatImage, IsShut, IsShutImage}
use Rattle.store.specs.Image.{area_a, area_b}
use Rattle.store.specs.declared.areas.TheConstants.{RECORD_VERSION}
use Rattle.store.specs.State.{IsSettled}
use Rattle.record_codec.specs.Version.{newest}
use Rattle.store.proofs.Holding.{front_is, laid_out}

pub OnOk-map : {T E : Type 0} {P Q : Type 0} (r : Result T E) → (P → Q) → OnOk r P → OnOk r Q
OnOk-map (Ok x) f p = f p
OnOk-map (Err e) f p = tt

pub OnOk-of : {T E : Type 0} {P : Type 0} (r : Result T E) → P → OnOk r P
OnOk-of (Ok x) p = p
OnOk-of (Err e) p = tt

-- what was written after the superblock's gate stays there
pub front_after : (at : ℕ) (c1 c2 c3 c4 body : List ℕ) → 32 ≤ at → length body ≡ 31 → 1 ≤ length c1 → c2 ≡ bytes_after_write c1 1 body
    → IsTorn at 1 c2 c3 → IsTorn 32 31 c3 c4 → drop 1 (take 32 c4) ≡ body
front_after at c1 c2 c3 c4 body far size some is one two =
    let first : take 32 c3 ≡ take 32 c2 = sym (take-take 32 at c3 far) ∙ (ap (take 32) one.before ∙ take-take 32 at c2 far) in
    let rest = drop (1 + length body) c1 in
    let gate : length (take 1 c1) ≡ 1 = length-take-le 1 c1 some in
    ap (drop 1) (two.before ∙ first)
    ∙ (drop-take 1 31 c2
    ∙ (ap (λ (l : List ℕ). take 31 (drop 1 l)) (is ∙ append_assoc (take 1 c1) body rest)
    ∙ (ap (take 31) (drop_at (take 1 c1) (body ++ rest) 1 gate) ∙ take_at body rest 31 size)))

-- the superblock's gate is opened
pub opened_front : (c4 c5 : List ℕ) → c5 ≡ bytes_after_write c4 0 (OPEN ∷ []) → take 32 c5 ≡ OPEN ∷ drop 1 (take 32 c4)
opened_front c4 c5 is = ap (take 32) is ∙ ap (λ (l : List ℕ). OPEN ∷ l) (sym (drop-take 1 31 c4))

pub opened_range : (c4 c5 : List ℕ) (end : ℕ) → c5 ≡ bytes_after_write c4 0 (OPEN ∷ []) → slice_range c5 32 end ≡ slice_range c4 32 end
opened_range c4 c5 end is = ap (λ (l : List ℕ). slice_range l 32 end) is ∙ ap (take (end - 32)) (drop-drop 31 1 c4)

-- a closed area is older than any other
abbrev pub ClosedLaw : Type 0
ClosedLaw = (area : Area) (disk : List ℕ) (generation : ℕ) → area.start < area.end → IsClosedArea area disk → IsOlder generation area disk

-- a log whose live area has no records and no batches, and whose other one is closed, is at rest
pub empty_at_rest : ClosedLaw → (slots : ℕ) (state : State) → NothingOpen state → length state.content ≡ disk_len slots
    → HoldsIn (area_a slots) (checkpoint (fresh_header RECORD_VERSION) []) state.content → IsClosedArea (area_b slots) state.content
    → IsAtRest
    (record { disk = state; areas = record { live = area_a slots; other = area_b slots }; next = (area_a slots).start + 30; generation = 1; other_open = false })
    (contents_in (record { live = area_a slots; other = area_b slots }) state.content (checkpoint (fresh_header RECORD_VERSION) []))
unfolding header_bytes
empty_at_rest law slots state settled long held closed =
    record {
      settled = settled;
      holds = record {
        layout = laid_out slots (length state.content) long;
        size = refl;
        front = refl;
        live = held;
        other = law (area_b slots) state.content 1 (omega arith) closed;
      };
      knows = record { areas = refl; generation = refl; next = refl };
      other_gate = closed;
    }

-- a disk with a superblock, an area without records or batches, and a closed one, is at rest
pub settled_empty : ClosedLaw → (net_id slots : ℕ) (state : State) → net_id < 64 → (1 ≤ slots) × (slots ≤ 4096) → NothingOpen state → length state.content ≡ disk_len slots
    → HoldsIn (area_a slots) (checkpoint (fresh_header RECORD_VERSION) []) state.content → IsClosedArea (area_b slots) state.content → take 32 state.content ≡ superblock net_id slots
    → IsSettled (record {
      log = record { disk = state; areas = record { live = area_a slots; other = area_b slots }; next = (area_a slots).start + 30; generation = 1; other_open = false };
      table = empty_table net_id slots;
      seq = 0;
      failed = false;
    })
settled_empty law net_id slots state net range settled long held closed front =
    let areas : Areas = record { live = area_a slots; other = area_b slots } in
    let c = contents_in areas state.content (checkpoint (fresh_header RECORD_VERSION) []) in
    record {
      contents = c;
      rest = empty_at_rest law slots state settled long held closed;
      says = record {
        net_id = net;
        slots = range;
        areas = inl refl;
        front = ap (λ k. take k state.content) (front_is slots areas (inl refl)) ∙ front;
        size = long;
        of_version = refl;
        generation = omega arith;
        journal = record {
          base = empty_table net_id slots;
          checkpoint = record { entries = []; replay = record { spelled = refl; number = refl; each = tt; leads = refl }; own_slots = refl };
          batches = (refl, refl);
        };
      };
    }

-- a crash leaves the first byte of a shut disk as it is
pub shut_images : (state : State) → IsShut state → (image : List ℕ) → IsPermitted state image → get_or image 0 0 ≢ OPEN
shut_images state shut image permitted same = shut.closed (sym (permitted.kept 0 shut.settled) ∙ same)

-- a write after the first byte leaves it
pub shut_after : (at n : ℕ) (old new : State) → 1 ≤ at → IsWrite at n old new → IsShut old → IsShut new
shut_after at n old new behind opens shut = record {
  settled = opens.others 0 (inl (omega arith)) ∙ shut.settled;
  closed = λ same. shut.closed (sym (first_kept at old.content new.content behind opens.torn.before) ∙ same);
}
  where
    first_kept : (at : ℕ) (xs ys : List ℕ) → 1 ≤ at → take at ys ≡ take at xs → get_or ys 0 0 ≡ get_or xs 0 0
    first_kept at xs ys behind same =
        sym (get_or-take at ys 0 0 (omega arith)) ∙ (ap (λ (l : List ℕ). get_or l 0 0) same ∙ get_or-take at xs 0 0 (omega arith))

-- a torn gate that reads as open is the open one
pub opened_image : (old image : List ℕ) → IsTorn 0 1 old image → 1 ≤ length old → get_or image 0 0 ≡ OPEN → image ≡ bytes_after_write old 0 (OPEN ∷ [])
opened_image old [] torn some is = absurd (omega (arith, torn.same_length))
opened_image old (x ∷ image) torn some is = (λ i. is i ∷ torn.after i)

-- a gate after a write stays closed
pub closed_after : (at n : ℕ) (area : Area) (old new : List ℕ) → IsTorn at n old new → at + n ≤ area.start → IsClosedArea area old → IsClosedArea area new
closed_after at n area old new torn behind closed same = closed (sym (kept old) ∙ (ap (λ (l : List ℕ). get_or l (area.start - (at + n)) 0) (sym torn.after) ∙ (kept new ∙ same)))
  where
    kept : (xs : List ℕ) → get_or (drop (at + n) xs) (area.start - (at + n)) 0 ≡ get_or xs area.start 0
    kept xs = get_or-drop (at + n) xs (area.start - (at + n)) 0 ∙ ap (λ k. get_or xs k 0) (let is : at + n + (area.start - (at + n)) ≡ area.start = omega (arith, behind) in is)

-- a torn gate before a store without devices
pub formatted_image : ClosedLaw → (net_id slots : ℕ) (old image : List ℕ) → net_id < 64 → (1 ≤ slots) × (slots ≤ 4096) → length old ≡ disk_len slots
    → ((area : Area) (old new : List ℕ) (j : Journal) → HoldsIn area j old → bytes_in area new ≡ bytes_in area old → HoldsIn area j new)
    → HoldsIn (area_a slots) (checkpoint (fresh_header RECORD_VERSION) []) old → IsClosedArea (area_b slots) old → drop 1 (take 32 old) ≡ superblock_body net_id slots
    → IsTorn 0 1 old image → (before : List ℕ) → IsFormatImage net_id slots before image
formatted_image law net_id slots old image net range long outside held closed body torn before =
    elim (cases_eq (get_or image 0 0) OPEN) [
      | inl is ↦
          let same = opened_image old image torn (omega (arith, long)) is in
          let state : State = record { content = image; synced = image; is_open = λ i. false } in
          let still = outside (area_a slots) old image (checkpoint (fresh_header RECORD_VERSION) []) held (opened_range old image (32 + area_len slots) same) in
          let front = opened_front old image same ∙ ap (λ (l : List ℕ). OPEN ∷ l) body in
          let settled = settled_empty law net_id slots state net range (λ i. refl) (torn.same_length ∙ long) still (closed_after 0 1 (area_b slots) old image torn (omega arith) closed) front in
          inr (inl (record { version = newest; contents = settled.contents; holds = settled.rest.holds; says = settled.says }))
      | inr other ↦ inl other
    ]

-- a disk on which nothing was opened
pub format_or_shut : (net_id slots : ℕ) (old image : List ℕ) → IsShutImage old image → IsFormatImage net_id slots old image
format_or_shut net_id slots old image (inl closed) = inl closed
format_or_shut net_id slots old image (inr same) = inr (inr same)
