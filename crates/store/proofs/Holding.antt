-- What an image holds, from what is in it.
use Rattle.std.proofs.Common.{◌≡◌, ◌≢◌, ◌↔◌, ◌⊎◌, inl, inr, ◌≤◌, ◌+◌, ◌∙◌, ℕ, List, [], ◌∷◌, length, get_or, min, take, sym, ap, subst, refl, arith}
use Rattle.gate_log.specs.declared.layout.Areas.{Areas}
use Rattle.gate_log.specs.Areas.{AreLaidOut, LogContents, Holds, HoldsOneOf as LogHoldsEither, contents_with_batch, front_len}
use Rattle.gate_log.specs.Layout.{BatchValue}
use Rattle.lw_types.specs.declared.refusal.Refusal.{Refusal}
use Rattle.lw_types.specs.declared.refusal.Refusal.TheVariants.{NotFormatted, Damaged, WrongVersion, WrongSize}
use Rattle.sessions.specs.Decision.{with_decisions}
use Rattle.sessions.specs.declared.decision.Decision.{Decision}
use Rattle.sessions.specs.Table.{TableState, with_record}
use Rattle.record_codec.specs.Version.{newest}
use Rattle.store_layout.specs.Superblock.{area_len, disk_len}
use Rattle.store.specs.Commit.{Sequel, table_after}
use Rattle.store.specs.Faults.{IsStoreOf, IsFault, IsNamed, IsNoSuperblock, SuperblockFault}
use Rattle.store.specs.Image.{AreAreas, HaveLength, HoldsTable, area_a, area_b}
use Rattle.store.specs.Phases.{HoldsEither, Journals}
use Rattle.store.specs.State.{StoreState}

module _ (s : StoreState) (sequel : Sequel) (c : LogContents) (b : BatchValue) (journals : Journals s sequel c b) (image : List ℕ) where
  pub held : Holds c image → HoldsTable s.table s.seq image
  held holds = record { version = newest; contents = c; holds = holds; says = journals.before }

  pub held_with : Holds (contents_with_batch c b) image → HoldsTable (table_after s sequel) sequel.seq image
  held_with holds = record { version = newest; contents = contents_with_batch c b; holds = holds; says = journals.after }

  pub held_either : LogHoldsEither c (contents_with_batch c b) image → HoldsEither s sequel image
  held_either (inl without) = inl (held without)
  held_either (inr with_it) = inr (held_with with_it)

-- before the areas there is room for the superblock
pub front_is : (slots : ℕ) (areas : Areas) → AreAreas slots areas → front_len areas ≡ 32
front_is slots areas (inl is) = let start : min 32 (32 + area_len slots) ≡ 32 = omega arith in ap front_len is ∙ start
front_is slots areas (inr is) = let start : min (32 + area_len slots) 32 ≡ 32 = omega arith in ap front_len is ∙ start

-- the areas of a store have their length
pub have_length : (slots : ℕ) (areas : Areas) → AreAreas slots areas → HaveLength slots areas
have_length slots areas (inl is) = subst (HaveLength slots) (sym is) (record { live = refl; other = refl })
have_length slots areas (inr is) = subst (HaveLength slots) (sym is) (record { live = refl; other = refl })

-- decisions leave the number of slots
slots_after : (t : TableState) (ds : List Decision) → (with_decisions t ds).slots ≡ t.slots
slots_after t [] = refl
slots_after t (d ∷ ds) = slots_after (with_record t d.slot d.after) ds

-- so the areas still have their length
pub have_length_after : (t u : TableState) (ds : List Decision) (areas : Areas) → u ≡ with_decisions t ds → HaveLength t.slots areas → HaveLength u.slots areas
have_length_after t u ds areas is long = subst (λ n. HaveLength n areas) (sym (ap (λ (x : TableState). x.slots) is ∙ slots_after t ds)) long

-- the areas of a store lie on its disk
pub laid_out : (slots size : ℕ) → size ≡ disk_len slots → AreLaidOut (record { live = area_a slots; other = area_b slots }) size
laid_out slots size is = record {
  live_room = omega arith;
  other_room = omega arith;
  live_within = omega (arith, is);
  other_within = omega (arith, is);
  apart = λ i a b x y. omega (arith, b, x);
}

-- the superblock at the beginning of an image is the table's
pub store_of : (t : TableState) (seq : ℕ) (image : List ℕ) → HoldsTable t seq image → IsStoreOf image t.net_id t.slots
store_of t seq image h = record {
  net_id_range = h.says.net_id;
  slots_range = h.says.slots;
  superblock = ap (λ (n : ℕ). take n image) (sym (front_is t.slots h.contents.areas h.says.areas)) ∙ (h.holds.front ∙ h.says.front);
}

pub length_of : (t : TableState) (seq : ℕ) (image : List ℕ) → HoldsTable t seq image → length image ≡ disk_len t.slots
length_of t seq image h = h.holds.size ∙ h.says.size

-- first bytes that are no superblock
pub front_fault : (image bytes : List ℕ) (e : Refusal) → bytes ≡ take 32 image → 32 ≤ length image → IsNoSuperblock bytes
    → ((e ≡ NotFormatted) ↔ (¬ (IsNamed bytes))) → ((e ≡ WrongVersion) ↔ (IsNamed bytes × (get_or bytes 8 0 ≢ 1)))
    → (e ≡ NotFormatted) ⊎ ((e ≡ WrongVersion) ⊎ (e ≡ Damaged)) → IsFault image e
front_fault image bytes e is long none unnamed version others = record {
  none = λ t seq h. let s = store_of t seq image h in none t.net_id t.slots s.net_id_range s.slots_range (is ∙ s.superblock);
  first = inl (inr (long, inl (subst (λ (b : List ℕ). SuperblockFault b e) is (record { none = none; not_formatted = unnamed; version = version; others = others }))));
}

-- a superblock with another length
pub size_fault : (image : List ℕ) (net_id slots : ℕ) → 32 ≤ length image → IsStoreOf image net_id slots
    → ((n s : ℕ) → IsStoreOf image n s → (n ≡ net_id) × (s ≡ slots)) → length image ≢ disk_len slots → IsFault image WrongSize
size_fault image net_id slots long is only other = record {
  none = λ t seq h. other (length_of t seq image h ∙ ap disk_len ((only t.net_id t.slots (store_of t seq image h)).1));
  first = inl (inr (long, inr (net_id, slots, is, other, refl)));
}
