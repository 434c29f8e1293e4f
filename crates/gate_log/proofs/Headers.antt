-- The header of an area, and which of two areas is live.
use Rattle.std.proofs.Common.{◌≡◌, ◌<◌, ◌≤◌, ℕ, List, [], ◌∷◌, ◌++◌, length, get_or, drop, sym, ◌∙◌, ap, arith, append_assoc}
use Rattle.std.proofs.lemmas.List.{drop_more}
use Rattle.gate_log.specs.declared.layout.Area.{Area}
use Rattle.gate_log.specs.declared.layout.Header.{Header}
use Rattle.gate_log.specs.declared.layout.TheConstants.{OPEN}
use Rattle.gate_log.specs.Areas.{HasHeader, HoldsIn, IsClosedArea, IsOlder, IsOpenArea, IsShutArea, bytes_in}
use Rattle.gate_log.specs.Layout.{Journal, header_bytes, open_batches}
use Rattle.gate_log.proofs.Slices.{gate_of, length-bytes_in}
use Rattle.gate_log.proofs.Spelling.{length-header_bytes, same_front, same_header}

pub one_header : (area : Area) (disk : List ℕ) (h k : Header) → HasHeader area h disk → HasHeader area k disk → h ≡ k
one_header area disk h k first second =
    let whole : header_bytes h ++ first.rest ≡ header_bytes k ++ second.rest = ap (λ (l : List ℕ). drop 1 l) (sym first.bytes ∙ second.bytes) in
    let parts = same_front (header_bytes h) (header_bytes k) first.rest second.rest (length-header_bytes h ∙ sym (length-header_bytes k)) whole in
    same_header h k first.in_range second.in_range parts.0

-- what an area has begins with its header
pub header_of : (area : Area) (disk : List ℕ) (j : Journal) → HoldsIn area j disk → HasHeader area j.header disk
header_of area disk j held = record {
  rest = (j.records ++ open_batches j.batches) ++ (held.shut.gate ∷ held.shut.free);
  bytes =
      held.shut.bytes
      ∙ ap (λ (l : List ℕ). OPEN ∷ l) (append_assoc (header_bytes j.header) (j.records ++ open_batches j.batches) (held.shut.gate ∷ held.shut.free));
  in_range = held.in_range.header;
}

pub gate_is_open : (area : Area) (disk : List ℕ) (h : Header) → area.start < area.end → HasHeader area h disk → IsOpenArea area disk
gate_is_open area disk h order has = sym (gate_of area disk order) ∙ ap (λ (l : List ℕ). get_or l 0 0) has.bytes

pub shut_is_older : (area : Area) (disk : List ℕ) (generation : ℕ) → IsShutArea area [] disk → IsOlder generation area disk
shut_is_older area disk generation shut h has = absurd (shut.closed (ap (λ (l : List ℕ). get_or l 0 0) (sym shut.bytes ∙ has.bytes)))

pub closed_is_older : (area : Area) (disk : List ℕ) (generation : ℕ) → area.start < area.end → IsClosedArea area disk → IsOlder generation area disk
closed_is_older area disk generation order closed h has = absurd (closed (gate_is_open area disk h order has))

pub closed_is_shut : (area : Area) (disk : List ℕ) → area.start < area.end → area.end ≤ length disk → IsClosedArea area disk → IsShutArea area [] disk
closed_is_shut area disk order within closed = record {
  gate = get_or (bytes_in area disk) 0 0;
  free = drop 1 (bytes_in area disk);
  bytes = drop_more (bytes_in area disk) 0 0 (omega (arith, length-bytes_in area disk (omega (arith, order)) within, order));
  closed = λ is. closed (sym (gate_of area disk order) ∙ is);
}

pub shut_is_closed : (area : Area) (disk : List ℕ) → area.start < area.end → IsShutArea area [] disk → IsClosedArea area disk
shut_is_closed area disk order shut is = shut.closed (sym (sym (gate_of area disk order) ∙ ap (λ (l : List ℕ). get_or l 0 0) shut.bytes) ∙ is)
