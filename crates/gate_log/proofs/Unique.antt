-- A disk holds one contents, in the area that is live.
use Rattle.std.proofs.Common.{◌≡◌, inl, inr, ◌≤◌, ℕ, ◌+◌, List, get_or, take, sym, ◌∙◌, ap, subst, arith}
use Rattle.gate_log.specs.declared.layout.Area.{Area}
use Rattle.gate_log.specs.declared.layout.Areas.{Areas}
use Rattle.gate_log.specs.declared.layout.Header.{Header}
use Rattle.gate_log.specs.declared.layout.TheConstants.{OPEN}
use Rattle.gate_log.specs.Areas.{AreOf, LogContents, HasHeader, Holds, HoldsIn, IsLiveArea, NoLiveArea, front_len, exchanged_areas}
use Rattle.gate_log.proofs.Headers.{gate_is_open, header_of, one_header}
use Rattle.gate_log.proofs.Holding.{live_order, live_within}
use Rattle.gate_log.proofs.Recovering.{fits_in, length-spelling, one_journal}

pub is_live : (disk : List ℕ) (c : LogContents) → Holds c disk → IsLiveArea c.areas c.journal.header disk
is_live disk c h = record { header = header_of c.areas.live disk c.journal h.live; other = h.other }

pub room_of : (disk : List ℕ) (c : LogContents) → Holds c disk → c.areas.live.start + 31 + c.journal.header.records_len ≤ c.areas.live.end
room_of disk c h =
    omega (arith, fits_in c.areas.live disk h.layout.live_room (live_within c disk h) c.journal h.live, length-spelling c.journal, h.live.in_range.records)

-- two areas are not live at once
crossed : (disk : List ℕ) (areas others : Areas) (h k : Header) → others ≡ exchanged_areas areas → IsLiveArea areas h disk → IsLiveArea others k disk → ⊥
crossed disk areas others h k turned first second =
    let one = second.other h (subst (λ (x : Area). HasHeader x h disk) (sym (ap (λ (x : Areas). x.other) turned)) first.header) in
    let two = first.other k (subst (λ (x : Area). HasHeader x k disk) (ap (λ (x : Areas). x.live) turned) second.header) in
    omega (arith, one, two)

pub one_live : (a b : Area) (disk : List ℕ) (areas others : Areas) (h k : Header) → AreOf a b areas → AreOf a b others → IsLiveArea areas h disk → IsLiveArea others k disk → (areas ≡ others) × (h ≡ k)
one_live a b disk areas others h k first second live other = by first second
  where
    same : areas ≡ others → (areas ≡ others) × (h ≡ k)
    same is = (is, one_header areas.live disk h k live.header (subst (λ (x : Areas). HasHeader x.live k disk) (sym is) other.header))

    by : AreOf a b areas → AreOf a b others → (areas ≡ others) × (h ≡ k)
    by (inl p) (inl q) = same (p ∙ sym q)
    by (inr p) (inr q) = same (p ∙ sym q)
    by (inl p) (inr q) = absurd (crossed disk areas others h k (q ∙ ap exchanged_areas (sym p)) live other)
    by (inr p) (inl q) = absurd (crossed disk areas others h k (q ∙ ap exchanged_areas (sym p)) live other)

pub one_contents : (a b : Area) (disk : List ℕ) (c d : LogContents) → AreOf a b c.areas → AreOf a b d.areas → Holds c disk → Holds d disk → c ≡ d
one_contents a b disk c d first second h k =
    let live = one_live a b disk c.areas d.areas c.journal.header d.journal.header first second (is_live disk c h) (is_live disk d k) in
    let journal = one_journal c.areas.live disk c.journal d.journal h.live (subst (λ (x : Areas). HoldsIn x.live d.journal disk) (sym live.0) k.live) in
    let front = sym h.front ∙ ap (λ (x : Areas). take (front_len x) disk) live.0 ∙ k.front in
    let size = sym h.size ∙ k.size in
    λ i. record { areas = live.0 i; front = front i; journal = journal i; size = size i }

pub none_live : (a b : Area) (disk : List ℕ) (c : LogContents) → NoLiveArea a b disk → AreOf a b c.areas → Holds c disk → ⊥
none_live a b disk c none are h = by none are
  where
    live : HasHeader c.areas.live c.journal.header disk
    live = header_of c.areas.live disk c.journal h.live

    open_in : (x : Area) → c.areas.live ≡ x → get_or disk x.start 0 ≡ OPEN
    open_in x is = subst (λ (y : Area). get_or disk y.start 0 ≡ OPEN) is (gate_is_open c.areas.live disk c.journal.header (live_order c disk h) live)

    tied : (x y : Header) → HasHeader c.areas.live x disk → HasHeader c.areas.other y disk → x.generation ≡ y.generation → ⊥
    tied x y first second same =
        let is : x ≡ c.journal.header = one_header c.areas.live disk x c.journal.header first live in
        omega (arith, h.other y second, ap (λ (z : Header). z.generation) is, same)

    by : NoLiveArea a b disk → AreOf a b c.areas → ⊥
    by (inl closed) (inl is) = closed.0 (open_in a (ap (λ (x : Areas). x.live) is))
    by (inl closed) (inr is) = closed.1 (open_in b (ap (λ (x : Areas). x.live) is))
    by (inr both) (inl is) =
        tied both.0 both.1 (subst (λ (x : Areas). HasHeader x.live both.0 disk) (sym is) both.2) (subst (λ (x : Areas). HasHeader x.other both.1 disk) (sym is) both.3) both.4
    by (inr both) (inr is) =
        tied both.1 both.0 (subst (λ (x : Areas). HasHeader x.live both.1 disk) (sym is) both.3) (subst (λ (x : Areas). HasHeader x.other both.0 disk) (sym is) both.2) (sym both.4)
