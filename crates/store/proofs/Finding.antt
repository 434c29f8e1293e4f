-- What was read of a disk, against what the disk holds.
use Rattle.std.proofs.Common.{arith, ◌≡◌, ◌↔◌, inl, inr, ◌<◌, ◌≤◌, ◌∙◌, ℕ, List, [], ◌∷◌, length, take, sym, ap, subst, refl}
use Rattle.lw_types.specs.declared.refusal.Refusal.{Refusal}
use Rattle.lw_types.specs.declared.refusal.Refusal.TheVariants.{Damaged, WrongVersion}
use Rattle.gate_log.specs.declared.layout.Area.{Area}
use Rattle.gate_log.specs.declared.layout.Header.{Header}
use Rattle.gate_log.specs.declared.recover.Recovered.{Recovered}
use Rattle.gate_log.specs.declared.layout.Areas.{Areas}
use Rattle.gate_log.specs.Areas.{AreOf, LogContents, Holds, IsLiveArea, NoLiveArea}
use Rattle.gate_log.specs.Layout.{BatchValue, HasRoomFor}
use Rattle.gate_log.specs.Live.{IsLiveAs}
use Rattle.gate_log.specs.Recovered.{IsRecovered, contents_of}
use Rattle.sessions.specs.Table.{TableState, empty_table}
use Rattle.record_codec.specs.declared.version.RecordVersion.{RecordVersion}
use Rattle.record_codec.specs.declared.version.RecordVersion.TheVariants.{V1, V2}
use Rattle.record_codec.specs.Version.{version_byte}
use Rattle.store_layout.specs.Entries.{EntryValue, EntriesLead}
use Rattle.store_layout.specs.Superblock.{disk_len, superblock}
use Rattle.store.specs.declared.found.Found.{Found}
use Rattle.store.specs.Faults.{HasGoodFront, HeaderFault, IsFault, IsKnown, IsStoreOf, IsUsable}
use Rattle.store.specs.Found.{IsFound}
use Rattle.store.specs.Image.{AreAreas, HoldsTable, IsLive, BatchesLead, NoneLive, Restores, Says, area_a, area_b, last_generation}
use Rattle.store.proofs.Holding.{front_is, store_of}

-- the laws of areas that this file uses
pub record AreaLaws : Type 0 where
  pub live : (disk : List ℕ) (c : LogContents) → Holds c disk → IsLiveArea c.areas c.journal.header disk
  pub room : (disk : List ℕ) (c : LogContents) → Holds c disk → HasRoomFor c.areas.live c.journal.header
  pub one : (a b : Area) (disk : List ℕ) (areas others : Areas) (h k : Header) → AreOf a b areas → AreOf a b others → IsLiveArea areas h disk → IsLiveArea others k disk → (areas ≡ others) × (h ≡ k)
  pub none : (a b : Area) (disk : List ℕ) (c : LogContents) → NoLiveArea a b disk → AreOf a b c.areas → ¬ (Holds c disk)
  pub same : (a b : Area) (disk : List ℕ) (c d : LogContents) → AreOf a b c.areas → AreOf a b d.areas → Holds c disk → Holds d disk → c ≡ d

-- putting entries keeps the network and the number of slots
pub record KeepLaws : Type 0 where
  pub net_id : (v : RecordVersion) (t u : TableState) (es : List EntryValue) → EntriesLead v t es u → u.net_id ≡ t.net_id
  pub slots : (v : RecordVersion) (t u : TableState) (es : List EntryValue) → EntriesLead v t es u → u.slots ≡ t.slots

lead_net : KeepLaws → (v : RecordVersion) (t : TableState) (seq : ℕ) (batches : List BatchValue) (u : TableState) (n : ℕ) → BatchesLead v t seq batches u n → u.net_id ≡ t.net_id
lead_net keep v t seq [] u n lead = ap (λ (x : TableState). x.net_id) lead.0
lead_net keep v t seq (b ∷ batches) u n lead =
    lead_net keep v lead.1 b.last_sequence batches u n lead.3 ∙ keep.net_id v t lead.1 lead.0 lead.2.replay.leads

lead_slots : KeepLaws → (v : RecordVersion) (t : TableState) (seq : ℕ) (batches : List BatchValue) (u : TableState) (n : ℕ) → BatchesLead v t seq batches u n → u.slots ≡ t.slots
lead_slots keep v t seq [] u n lead = ap (λ (x : TableState). x.slots) lead.0
lead_slots keep v t seq (b ∷ batches) u n lead =
    lead_slots keep v lead.1 b.last_sequence batches u n lead.3 ∙ keep.slots v t lead.1 lead.0 lead.2.replay.leads

-- what is restored has the slots for which it was restored
pub restored_slots : KeepLaws → (v : RecordVersion) (net slots : ℕ) (header : Header) (records : List ℕ) (batches : List BatchValue) (t : TableState) (seq : ℕ)
    → Restores v net slots header records batches t seq → t.slots ≡ slots
restored_slots keep v net slots header records batches t seq r =
    lead_slots keep v r.base header.sequence batches t seq r.batches
    ∙ keep.slots v (empty_table net slots) r.base r.checkpoint.entries r.checkpoint.replay.leads

-- each version has a byte of its own
pub one_version : (v w : RecordVersion) → version_byte v ≡ version_byte w → v ≡ w
one_version V1 V1 same = refl
one_version V1 V2 same = absurd (omega (arith, same))
one_version V2 V1 same = absurd (omega (arith, same))
one_version V2 V2 same = refl

-- so a usable header of a version has a generation that is allowed in that version
pub early : {area : Area} {h : Header} (v : RecordVersion) → h.version ≡ version_byte v → IsUsable area h → h.generation ≤ last_generation v
early {area} {h} v version usable = subst (λ w. h.generation ≤ last_generation w) (one_version usable.version v (sym usable.of_version ∙ version)) usable.generation

pub good_front : (content : List ℕ) (net slots : ℕ) → IsStoreOf content net slots → length content ≡ disk_len slots → (areas : Areas) (h : Header)
    → IsLive content slots areas h → IsUsable areas.live h → HasGoodFront content
good_front content net slots store long areas h live usable =
    record { net_id = net; slots = slots; areas = areas; header = h; store = store; long = long; live = live; usable = usable }

module _ (content : List ℕ) (net slots : ℕ) (store : IsStoreOf content net slots)
    (only : (n s : ℕ) → IsStoreOf content n s → (n ≡ net) × (s ≡ slots)) (long : length content ≡ disk_len slots) (laws : AreaLaws) where
  -- a table that the image holds lies in the store's areas
  in_areas : (t : TableState) (seq : ℕ) (x : HoldsTable t seq content) → AreAreas slots x.contents.areas
  in_areas t seq x = subst (λ k. AreAreas k x.contents.areas) ((only t.net_id t.slots (store_of t seq content x)).1) x.says.areas

  pub closed_fault : (e : Refusal) → NoneLive content slots → e ≡ Damaged → IsFault content e
  closed_fault e closed is = record {
    none = λ t seq x. laws.none (area_a slots) (area_b slots) content x.contents closed (in_areas t seq x) x.holds;
    first = inr (net, slots, store, long, inl (closed, is));
  }

  module _ (areas : Areas) (h : Header) (live : IsLive content slots areas h) where
    same_live : (t : TableState) (seq : ℕ) (x : HoldsTable t seq content) → (areas ≡ x.contents.areas) × (h ≡ x.contents.journal.header)
    same_live t seq x =
        laws.one (area_a slots) (area_b slots) content areas x.contents.areas h x.contents.journal.header live.place (in_areas t seq x) live.at (laws.live content x.contents x.holds)

    known : (t : TableState) (seq : ℕ) (x : HoldsTable t seq content) → h.version ≡ version_byte x.version
    known t seq x = ap (λ (k : Header). k.version) (same_live t seq x).1 ∙ x.says.of_version

    version_fault : (e : Refusal) → ¬ (IsKnown h.version) → e ≡ WrongVersion → IsFault content e
    version_fault e other is = record {
      none = λ t seq x. other (x.version, known t seq x);
      first = inr (net, slots, store, long, inr (areas, h, live, inl (other, is)));
    }

    useless_fault : (e : Refusal) → IsKnown h.version → ¬ (IsUsable areas.live h) → e ≡ Damaged → IsFault content e
    useless_fault e version useless is = record {
      none = λ t seq x.
          let same = same_live t seq x in
          useless (record {
            version = x.version;
            of_version = known t seq x;
            generation = subst (λ (k : Header). k.generation ≤ last_generation x.version) (sym same.1) x.says.generation;
            room = subst (λ (k : Header). HasRoomFor areas.live k) (sym same.1) (subst (λ (a : Areas). HasRoomFor a.live x.contents.journal.header) (sym same.0) (laws.room content x.contents x.holds));
          });
      first = inr (net, slots, store, long, inr (areas, h, live, inr (version, is)));
    }

    pub area_fault : (e : Refusal) → IsKnown h.version → e ≡ Damaged → ((c : LogContents) → AreAreas slots c.areas → ¬ (Holds c content)) → IsFault content e
    area_fault e version is nothing = record {
      none = λ t seq x. nothing x.contents (in_areas t seq x) x.holds;
      first = inr (net, slots, store, long, inr (areas, h, live, inr (version, is)));
    }

    module _ (v : RecordVersion) (version : h.version ≡ version_byte v) (r : Recovered) (header : r.header ≡ h) (recovered : IsRecovered areas content r) where
      journal_is : (t : TableState) (seq : ℕ) → HoldsTable t seq content → Restores v net slots r.header r.records.items r.batches.items t seq
      journal_is t seq x =
          let same = only t.net_id t.slots (store_of t seq content x) in
          let says : Says x.version (contents_of areas content r) t seq =
          subst (λ (c : LogContents). Says x.version c t seq) (laws.same (area_a slots) (area_b slots) content x.contents (contents_of areas content r) (in_areas t seq x) live.place x.holds recovered.holds) x.says in
          subst (λ w. Restores w net slots r.header r.records.items r.batches.items t seq) (one_version x.version v (sym (known t seq x) ∙ version))
          (subst (λ k. Restores x.version k slots r.header r.records.items r.batches.items t seq) same.0
          (subst (λ k. Restores x.version t.net_id k r.header r.records.items r.batches.items t seq) same.1 says.journal))

      pub journal_fault : (e : Refusal) → e ≡ Damaged
          → ((t : TableState) (seq : ℕ) → ¬ (Restores v net slots r.header r.records.items r.batches.items t seq)) → IsFault content e
      journal_fault e is none = record {
        none = λ t seq x. none t seq (journal_is t seq x);
        first = inr (net, slots, store, long, inr (areas, h, live, inr ((v, version), is)));
      }

      pub found_in : KeepLaws → (found : Found) → IsUsable areas.live h → found.live.areas ≡ areas → found.live.header ≡ h → IsLiveAs found.live content → found.version ≡ v → found.next ≡ r.next
          → ((t : TableState) (seq : ℕ) → Restores v net slots r.header r.records.items r.batches.items t seq ↔ ((t ≡ found.table) × (seq ≡ found.seq)))
          → IsFound content found
      found_in keep found usable in_areas_is with_header live_as of_version next exact =
          let c = contents_of areas content r in
          let journal = (exact found.table found.seq).1 (refl, refl) in
          let base = journal.base in
          let first = journal.checkpoint in
          let net_is : found.table.net_id ≡ net =
          lead_net keep v base r.header.sequence r.batches.items found.table found.seq journal.batches
          ∙ keep.net_id v (empty_table net slots) base first.entries first.replay.leads in
          let slots_is : found.table.slots ≡ slots = restored_slots keep v net slots r.header r.records.items r.batches.items found.table found.seq journal in
          let says : Says v c found.table found.seq = record {
            net_id = subst (λ k. k < 64) (sym net_is) store.net_id_range;
            slots = subst (λ k. (1 ≤ k) × (k ≤ 4096)) (sym slots_is) store.slots_range;
            areas = subst (λ k. AreAreas k areas) (sym slots_is) live.place;
            front =
                ap (λ k. take k content) (front_is slots areas live.place)
                ∙ (store.superblock ∙ (ap (λ k. superblock k slots) (sym net_is) ∙ ap (superblock found.table.net_id) (sym slots_is)));
            size = long ∙ ap disk_len (sym slots_is);
            of_version = ap (λ (k : Header). k.version) header ∙ version;
            generation = subst (λ (k : Header). k.generation ≤ last_generation v) (sym header) (early v version usable);
            journal =
                subst (λ k. Restores v found.table.net_id k r.header r.records.items r.batches.items found.table found.seq) (sym slots_is)
                (subst (λ k. Restores v k slots r.header r.records.items r.batches.items found.table found.seq) (sym net_is) journal);
          } in
          record {
            contents = c;
            live = live_as;
            holds = recovered.holds;
            areas = sym in_areas_is;
            header = header ∙ sym with_header;
            next = next ∙ recovered.next;
            says = subst (λ w. Says w c found.table found.seq) (sym of_version) says;
            only = λ t seq x. (exact t seq).0 (journal_is t seq x);
          }

  -- what is wrong with the gates or the live area's header
  pub header_fault : (e : Refusal) → HeaderFault content slots e → IsFault content e
  header_fault e (inl closed) = closed_fault e closed.0 closed.1
  header_fault e (inr (areas, h, live, inl (other, is))) = version_fault areas h live e other is
  header_fault e (inr (areas, h, live, inr (version, (useless, is)))) = useless_fault areas h live e version useless is
