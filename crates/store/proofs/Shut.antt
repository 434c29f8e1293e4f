-- A log after the superblock's closed gate, which is then opened.
use Rattle.std.proofs.Common.{◌≡◌, ◌≢◌, ◌≤◌, ◌<◌, ◌-◌, ◌+◌, ◌∙◌, ◌⊎◌, inl, inr, ℕ, zero, suc, List, [], ◌∷◌, Bool, true, false, length, take, drop, get_or, min, sym, ap, subst, refl, arith}
use Rattle.std.specs.Prelude.{IfErr, MatchBool, Result, Ok, Err}
use Rattle.std.proofs.lemmas.Bool.{cases_eq}
use Rattle.std.proofs.lemmas.List.{get_or-take}
use Rattle.disk.specs.State.{EveryImage, IsTorn, NothingOpen, State, bytes_after_write}
use Rattle.gate_log.specs.declared.layout.Area.{Area}
use Rattle.gate_log.specs.declared.layout.Header.{Header}
use Rattle.gate_log.specs.declared.layout.TheConstants.{OPEN}
use Rattle.gate_log.specs.Areas.{contents_in, Holds, HoldsIn, HoldsOneOf, IsClosedArea, IsOpenArea, LogContents, bytes_in, contents_with_checkpoint, front_len}
use Rattle.gate_log.specs.declared.layout.Areas.{Areas}
use Rattle.gate_log.specs.Layout.{Journal, checkpoint, fresh_header}
use Rattle.sessions.specs.Index.{HaveOwnSlots}
use Rattle.sessions.specs.Table.{IsSlots, TableState}
use Rattle.record_codec.specs.Version.{newest}
use Rattle.store_layout.specs.Entries.{AreEntries, entries, entries_of_table}
use Rattle.store_layout.specs.Superblock.{disk_len, superblock_body}
use Rattle.store.specs.Checkpointing.{header_behind}
use Rattle.store.specs.Formatting.{IsNewStoreImage, IsShut, IsShutImage}
use Rattle.store.specs.Image.{HoldsTable, Says, area_a, area_b}
use Rattle.store.specs.State.{IsSettled, StoreState}
use Rattle.store.specs.declared.areas.TheConstants.{RECORD_VERSION}
use Rattle.gate_log.specs.Log.{IsAtRest, KnowsOther, LogState}
use Rattle.store.specs.Establishing.{IsBehindShut, IsFirstImage, IsOpenedImage, first_contents, opened_contents}
use Rattle.store.proofs.EmptyStore.{opened_image}
use Rattle.store.proofs.Holding.{front_is}
use Rattle.store.proofs.Republishing.{TableLaw}

-- a journal stays if others change
abbrev pub StayLaw : Type 0
StayLaw = (area : Area) (old new : List ℕ) (j : Journal) → HoldsIn area j old → bytes_in area new ≡ bytes_in area old → HoldsIn area j new

-- ---- the bytes after the first one

behind_gate : (n : ℕ) (bytes : List ℕ) → 1 ≤ n → drop n (OPEN ∷ drop 1 bytes) ≡ drop n bytes
behind_gate zero bytes some = absurd (omega (arith, some))
behind_gate (suc zero) [] some = refl
behind_gate (suc (suc n)) [] some = refl
behind_gate (suc n) (x ∷ bytes) some = refl

same_at : (n : ℕ) (bytes : List ℕ) → 1 ≤ n → get_or (OPEN ∷ drop 1 bytes) n 0 ≡ get_or bytes n 0
same_at zero bytes some = absurd (omega (arith, some))
same_at (suc n) [] some = refl
same_at (suc n) (x ∷ bytes) some = refl

as_long : (bytes : List ℕ) → 1 ≤ length bytes → length (OPEN ∷ drop 1 bytes) ≡ length bytes
as_long [] some = absurd (omega (arith, some))
as_long (x ∷ bytes) some = refl

in_front : (n : ℕ) (bytes : List ℕ) → 1 ≤ n → take n (OPEN ∷ drop 1 bytes) ≡ OPEN ∷ drop 1 (take n bytes)
in_front zero bytes some = absurd (omega (arith, some))
in_front (suc zero) [] some = refl
in_front (suc (suc n)) [] some = refl
in_front (suc n) (x ∷ bytes) some = refl

same_area : (area : Area) (old new : List ℕ) → 1 ≤ area.start → new ≡ bytes_after_write old 0 (OPEN ∷ []) → bytes_in area new ≡ bytes_in area old
same_area area old new some is = ap (bytes_in area) is ∙ ap (take (area.end - area.start)) (behind_gate area.start old some)

-- ---- contents

-- both areas begin after the front
module _ (c : LogContents) (some : 1 ≤ front_len c.areas) where
  live_behind : 1 ≤ c.areas.live.start
  live_behind = omega (arith, some)

  other_behind : 1 ≤ c.areas.other.start
  other_behind = omega (arith, some)

pub opened_holds : StayLaw → (c : LogContents) (old new : List ℕ) → 1 ≤ front_len c.areas → new ≡ bytes_after_write old 0 (OPEN ∷ []) → Holds c old → Holds (opened_contents c) new
opened_holds law c old new some is h =
    let long : 1 ≤ length old = (let a = h.layout.live_room in let b = h.layout.live_within in let s = h.size in omega (arith, a, b, s)) in
    record {
      layout = h.layout;
      size = ap length is ∙ (as_long old long ∙ h.size);
      front = ap (take (front_len c.areas)) is ∙ (in_front (front_len c.areas) old some ∙ ap (λ (l : List ℕ). OPEN ∷ drop 1 l) h.front);
      live = law c.areas.live old new c.journal h.live (same_area c.areas.live old new (live_behind c some) is);
      other = λ header has. h.other header
          (record { rest = has.rest; bytes = sym (same_area c.areas.other old new (other_behind c some) is) ∙ has.bytes; in_range = has.in_range });
    }

gate_still : (is_open : Bool) (area : Area) (old new : List ℕ) → get_or new area.start 0 ≡ get_or old area.start 0
    → MatchBool is_open (IsOpenArea area old) (IsClosedArea area old) → MatchBool is_open (IsOpenArea area new) (IsClosedArea area new)
gate_still true area old new same is = same ∙ is
gate_still false area old new same closed = λ is. closed (sym same ∙ is)

-- a log at rest is still at rest after the gate before it was opened
pub opened_rest : StayLaw → (c : LogContents) (log : LogState) (new : State) → 1 ≤ front_len c.areas → NothingOpen new
    → new.content ≡ bytes_after_write log.disk.content 0 (OPEN ∷ []) → IsAtRest log c
    → IsAtRest (record { disk = new; areas = log.areas; next = log.next; generation = log.generation; other_open = log.other_open }) (opened_contents c)
opened_rest law c log new some nothing is rest =
    record {
      settled = nothing;
      holds = opened_holds law c log.disk.content new.content some is rest.holds;
      knows = record { areas = rest.knows.areas; generation = rest.knows.generation; next = rest.knows.next };
      other_gate = gate_still log.other_open c.areas.other log.disk.content new.content
          (ap (λ (l : List ℕ). get_or l c.areas.other.start 0) is ∙ same_at c.areas.other.start log.disk.content (other_behind c some)) rest.other_gate;
    }

-- the gate before it may be torn
pub torn_front : StayLaw → (c : LogContents) (old image : List ℕ) → 1 ≤ front_len c.areas → Holds c old → IsTorn 0 1 old image → IsOpenedImage c image
torn_front law c old image some h torn =
    let long : 1 ≤ length old = (let a = h.layout.live_room in let b = h.layout.live_within in let s = h.size in omega (arith, a, b, s)) in
    elim (cases_eq (get_or image 0 0) OPEN) [
      | inl is ↦ inr (opened_holds law c old image some (opened_image old image torn long is) h)
      | inr other ↦ inl other
    ]

-- ---- after the closed gate

pub still_shut : (c : LogContents) (image : List ℕ) → IsBehindShut c → Holds c image → get_or image 0 0 ≢ OPEN
still_shut c image shut h is =
    shut.closed (ap (λ (l : List ℕ). get_or l 0 0) (sym h.front) ∙ (get_or-take (front_len c.areas) image 0 0 shut.some ∙ is))

pub shut_behind : (c : LogContents) (header : Header) (records : List ℕ) → IsBehindShut c → IsBehindShut (contents_with_checkpoint c header records)
shut_behind c header records shut = record { some = (let some = shut.some in omega (arith, some)); closed = shut.closed }

pub still_shut_either : (c : LogContents) (header : Header) (records image : List ℕ) → IsBehindShut c
    → HoldsOneOf c (contents_with_checkpoint c header records) image → get_or image 0 0 ≢ OPEN
still_shut_either c header records image shut (inl h) = still_shut c image shut h
still_shut_either c header records image shut (inr h) = still_shut (contents_with_checkpoint c header records) image (shut_behind c header records shut) h

-- ---- the first checkpoint of a new store

abbrev new_areas : ℕ → Areas
new_areas slots = record { live = area_a slots; other = area_b slots }

-- what a disk holds after the closed gate
abbrev pub shut_contents : ℕ → List ℕ → LogContents
shut_contents slots bytes = contents_in (new_areas slots) bytes (checkpoint (fresh_header RECORD_VERSION) [])

pub behind_shut : (slots : ℕ) (state : State) → IsShut state → IsBehindShut (shut_contents slots state.content)
behind_shut slots state shut =
    let long = front_is slots (new_areas slots) (inl refl) in
    let some : 1 ≤ front_len (new_areas slots) = omega (arith, long) in
    record { some = some; closed = λ is. shut.closed (sym (get_or-take (front_len (new_areas slots)) state.content 0 0 some) ∙ is) }

pub first_is : (net_id slots : ℕ) (bytes : List ℕ) (header : Header) (records : List ℕ) → length bytes ≡ disk_len slots
    → drop 1 (take 32 bytes) ≡ superblock_body net_id slots
    → opened_contents (contents_with_checkpoint (shut_contents slots bytes) header records) ≡ first_contents net_id slots header records
first_is net_id slots bytes header records long body =
    let front : (OPEN ∷ drop 1 (take (front_len (new_areas slots)) bytes)) ≡ (OPEN ∷ superblock_body net_id slots) =
    ap (λ n. OPEN ∷ drop 1 (take n bytes)) (front_is slots (new_areas slots) (inl refl)) ∙ ap (λ (l : List ℕ). OPEN ∷ l) body in
    λ i. record { areas = record { live = area_b slots; other = area_a slots }; front = front i; journal = checkpoint header records; size = long i }

pub IfErr-map : {T E : Type 0} {P Q : E → Type 0} (r : Result T E) → ((e : E) → P e → Q e) → IfErr r P → IfErr r Q
IfErr-map (Ok x) f p = tt
IfErr-map (Err e) f p = f e p

pub to_first : (c d : LogContents) (old image : List ℕ) → opened_contents c ≡ d → IsOpenedImage c image → IsFirstImage d old image
to_first c d old image same (inl closed) = inl closed
to_first c d old image same (inr holds) = inr (inl (subst (λ x. Holds x image) same holds))

pub not_yet : (d : LogContents) (old image : List ℕ) → IsShutImage old image → IsFirstImage d old image
not_yet d old image (inl closed) = inl closed
not_yet d old image (inr same) = inr (inr same)

-- the checkpoint of a table says the table
pub first_says : TableLaw → (t : TableState) (seq : ℕ) → t.net_id < 64 → IsSlots t.slots → HaveOwnSlots t.devices → length t.devices ≤ t.slots
    → AreEntries newest (entries_of_table t)
    → Says newest
    (first_contents t.net_id t.slots (header_behind t seq 1 (length (entries newest (entries_of_table t)))) (entries newest (entries_of_table t))) t seq
first_says law t seq net_id slots own few each =
    record {
      net_id = net_id;
      slots = slots;
      areas = inr refl;
      front = refl;
      size = refl;
      of_version = refl;
      generation = omega arith;
      journal = record {
        base = t;
        checkpoint = record { entries = entries_of_table t; replay = law newest t own few each; own_slots = refl };
        batches = (refl, refl);
      };
    }

-- even if its network and its slots were read
pub first_of : TableLaw → (t : TableState) (seq net slots : ℕ) → net ≡ t.net_id → slots ≡ t.slots → net < 64 → IsSlots slots → HaveOwnSlots t.devices
    → length t.devices ≤ t.slots → AreEntries newest (entries_of_table t)
    → (first_contents net slots (header_behind t seq 1 (length (entries newest (entries_of_table t)))) (entries newest (entries_of_table t))
    ≡ first_contents t.net_id t.slots (header_behind t seq 1 (length (entries newest (entries_of_table t)))) (entries newest (entries_of_table t)))
    × Says newest
    (first_contents t.net_id t.slots (header_behind t seq 1 (length (entries newest (entries_of_table t)))) (entries newest (entries_of_table t))) t seq
first_of law t seq net slots net_is slots_is in_range some own few each =
    let records = entries newest (entries_of_table t) in
    let header = header_behind t seq 1 (length records) in (
      λ i. first_contents (net_is i) (slots_is i) header records,
      first_says law t seq (subst (λ n. n < 64) net_is in_range) (subst IsSlots slots_is some) own few each,
    )

-- a disk that wasn't touched is as it was
pub as_it_was : ((s : State) → NothingOpen s → EveryImage s (λ image. image ≡ s.content)) → (t : TableState) (seq : ℕ) (s : State) → NothingOpen s
    → EveryImage s (IsNewStoreImage t seq s.content)
as_it_was law t seq s nothing image permitted = inr (inr (ap (drop 1) (law s nothing image permitted)))

pub new_store : (t : TableState) (seq : ℕ) (c : LogContents) (old image : List ℕ) → Says newest c t seq → IsFirstImage c old image → IsNewStoreImage t seq old image
new_store t seq c old image says (inl closed) = inl closed
new_store t seq c old image says (inr (inl holds)) = inr (inl (record { version = newest; contents = c; holds = holds; says = says }))
new_store t seq c old image says (inr (inr same)) = inr (inr same)

-- ---- a store whose gate is being closed

same_if_open : (old image : List ℕ) → drop 1 image ≡ drop 1 old → get_or old 0 0 ≡ OPEN → get_or image 0 0 ≡ OPEN → image ≡ old
same_if_open [] image same was is = absurd (omega (arith, was))
same_if_open (x ∷ old) [] same was is = absurd (omega (arith, is))
same_if_open (x ∷ old) (y ∷ image) same was is = λ i. (is ∙ sym was) i ∷ same i

-- an image holds the store, or none
pub shut_or_held : (s : StoreState) → IsSettled s → (image : List ℕ) → drop 1 image ≡ drop 1 s.log.disk.content
    → (get_or image 0 0 ≢ OPEN) ⊎ HoldsTable s.table s.seq image
shut_or_held s settled image same =
    let c = settled.contents in
    let content = s.log.disk.content in
    let holds = settled.rest.holds in
    let long = front_is s.table.slots c.areas settled.says.areas in
    let some : 1 ≤ front_len c.areas = omega (arith, long) in
    let was : get_or content 0 0 ≡ OPEN =
    sym (get_or-take (front_len c.areas) content 0 0 some) ∙ ap (λ (l : List ℕ). get_or l 0 0) (holds.front ∙ settled.says.front) in
    elim (cases_eq (get_or image 0 0) OPEN) [
      | inl is ↦ inr (record {
        version = newest;
        contents = c;
        holds = subst (Holds c) (sym (same_if_open content image same was is)) holds;
        says = settled.says;
      })
      | inr other ↦ inl other
    ]
