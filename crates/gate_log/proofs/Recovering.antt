-- What an area has is what is read of it, and nothing else.
use Rattle.std.proofs.Common.{◌≡◌, ◌<◌, ◌≤◌, ℕ, ◌+◌, ◌-◌, List, [], ◌∷◌, ◌++◌, length, take, drop, sym, ◌∙◌, ap, arith, append_assoc, length-append, take-append-drop}
use Rattle.std.proofs.Math.Seq.{take-append-add}
use Rattle.std.proofs.lemmas.List.{append-nil, drop-drop, drop_at}
use Rattle.disk.specs.State.{bytes_after_write}
use Rattle.gate_log.specs.declared.layout.Area.{Area}
use Rattle.gate_log.specs.declared.layout.Header.{Header}
use Rattle.gate_log.specs.declared.layout.TheConstants.{OPEN}
use Rattle.gate_log.specs.Areas.{HasHeader, HoldsIn, bytes_in}
use Rattle.gate_log.specs.Layout.{BatchValue, IsHeader, Journal, checkpoint, header_bytes, open_batches, spelling}
use Rattle.gate_log.specs.Recover.{AreBatchesAt, IsHeaderAt}
use Rattle.gate_log.proofs.Batches.{same_batches}
use Rattle.gate_log.proofs.Headers.{header_of, one_header}
use Rattle.gate_log.proofs.Slices.{bytes_written, length-bytes_in}
use Rattle.gate_log.proofs.Spelling.{length-header_bytes, piece, same_front}

-- a spelling with what stands after it
flat : (j : Journal) (tail : List ℕ) → spelling j ++ tail ≡ OPEN ∷ (header_bytes j.header ++ (j.records ++ (open_batches j.batches ++ tail)))
flat j tail =
    ap (λ (l : List ℕ). OPEN ∷ l)
    (append_assoc (header_bytes j.header) (j.records ++ open_batches j.batches) tail ∙ ap (λ (l : List ℕ). header_bytes j.header ++ l) (append_assoc j.records (open_batches j.batches) tail))

pub length-spelling : (j : Journal) → length (spelling j) ≡ 30 + (length j.records + length (open_batches j.batches))
length-spelling j = omega (arith, length-append (header_bytes j.header) (j.records ++ open_batches j.batches), length-append j.records (open_batches j.batches), length-header_bytes j.header)

-- an area has one journal
pub one_journal : (area : Area) (disk : List ℕ) (j k : Journal) → HoldsIn area j disk → HoldsIn area k disk → j ≡ k
one_journal area disk j k held other =
    let header : j.header ≡ k.header = one_header area disk j.header k.header (header_of area disk j held) (header_of area disk k other) in
    let whole : header_bytes j.header ++ (j.records ++ (open_batches j.batches ++ (held.shut.gate ∷ held.shut.free))) ≡ header_bytes k.header ++ (k.records ++ (open_batches k.batches ++ (other.shut.gate ∷ other.shut.free))) =
    ap (λ (l : List ℕ). drop 1 l) (sym (flat j (held.shut.gate ∷ held.shut.free)) ∙ sym held.shut.bytes ∙ other.shut.bytes ∙ flat k (other.shut.gate ∷ other.shut.free)) in
    let behind = same_front (header_bytes j.header) (header_bytes k.header) (j.records ++ (open_batches j.batches ++ (held.shut.gate ∷ held.shut.free))) (k.records ++ (open_batches k.batches ++ (other.shut.gate ∷ other.shut.free))) (length-header_bytes j.header ∙ sym (length-header_bytes k.header)) whole in
    let parts = same_front j.records k.records (open_batches j.batches ++ (held.shut.gate ∷ held.shut.free)) (open_batches k.batches ++ (other.shut.gate ∷ other.shut.free)) (held.in_range.records ∙ ap (λ (h : Header). h.records_len) header ∙ sym other.in_range.records) behind.1 in
    let batches = same_batches j.batches k.batches held.shut.gate other.shut.gate held.shut.free other.shut.free held.in_range.batches other.in_range.batches held.shut.closed other.shut.closed parts.1 in
    λ i. record { header = header i; records = parts.0 i; batches = sym batches i }

module _ (area : Area) (disk : List ℕ) (order : area.start + 31 ≤ area.end) (within : area.end ≤ length disk) where
  ordered : area.start ≤ area.end
  ordered = omega (arith, order)

  -- the disk from the area's beginning on
  from_start : drop area.start disk ≡ bytes_in area disk ++ drop area.end disk
  from_start =
      sym (take-append-drop (area.end - area.start) (drop area.start disk))
      ∙ ap (λ (l : List ℕ). bytes_in area disk ++ l) (drop-drop (area.end - area.start) area.start disk ∙ ap (λ (n : ℕ). drop n disk) (omega (arith, order)))

  -- a header in the area stands at its beginning, and the other way round
  pub header_in : (h : Header) → IsHeaderAt disk area.start h → HasHeader area h disk
  header_in h is =
      let behind = drop (area.start + 30) disk in
      let n = (area.end - area.start) - 30 in
      let size : length (OPEN ∷ header_bytes h) ≡ 30 = omega (arith, length-header_bytes h) in
      let parts : length (OPEN ∷ header_bytes h) + n ≡ area.end - area.start = omega (arith, size, order) in
      record {
        rest = take n behind;
        bytes =
            ap (λ (l : List ℕ). take (area.end - area.start) l) is.bytes
            ∙ ap (λ (k : ℕ). take k ((OPEN ∷ header_bytes h) ++ behind)) (sym parts)
            ∙ take-append-add (OPEN ∷ header_bytes h) behind n;
        in_range = is.header;
      }

  pub header_at_start : (h : Header) → HasHeader area h disk → IsHeaderAt disk area.start h
  header_at_start h has =
      let tail = has.rest ++ drop area.end disk in
      let start : drop area.start disk ≡ OPEN ∷ (header_bytes h ++ tail) =
      from_start ∙ ap (λ (l : List ℕ). l ++ drop area.end disk) has.bytes ∙ ap (λ (l : List ℕ). OPEN ∷ l) (append_assoc (header_bytes h) has.rest (drop area.end disk)) in
      let behind : drop (area.start + 30) disk ≡ tail =
      sym (drop-drop 30 area.start disk) ∙ ap (λ (l : List ℕ). drop 30 l) start ∙ drop_at (OPEN ∷ header_bytes h) tail 30 (omega (arith, length-header_bytes h)) in
      record { bytes = start ∙ ap (λ (l : List ℕ). OPEN ∷ (header_bytes h ++ l)) (sym behind); header = has.in_range }

  -- what an area has fits it
  pub fits_in : (j : Journal) → HoldsIn area j disk → area.start + length (spelling j) < area.end
  fits_in j held = omega (arith, order, length-bytes_in area disk ordered within, ap length held.shut.bytes, length-append (spelling j) (held.shut.gate ∷ held.shut.free))

  module _ (header : Header) (has : HasHeader area header disk) where
    -- the batches of what an area has are those after the records
    pub held_batches : (j : Journal) → HoldsIn area j disk → AreBatchesAt disk area.end (area.start + 30 + header.records_len) j.batches
    held_batches j held =
        let tail = held.shut.free ++ drop area.end disk in
        let same : header ≡ j.header = one_header area disk header j.header has (header_of area disk j held) in
        let len : length j.records ≡ header.records_len = held.in_range.records ∙ sym (ap (λ (h : Header). h.records_len) same) in
        let start : drop area.start disk ≡ OPEN ∷ (header_bytes j.header ++ (j.records ++ (open_batches j.batches ++ (held.shut.gate ∷ tail)))) =
        from_start
        ∙ ap (λ (l : List ℕ). l ++ drop area.end disk) held.shut.bytes
        ∙ append_assoc (spelling j) (held.shut.gate ∷ held.shut.free) (drop area.end disk)
        ∙ flat j (held.shut.gate ∷ tail) in
        let records : drop (area.start + 30) disk ≡ j.records ++ (open_batches j.batches ++ (held.shut.gate ∷ tail)) =
        sym (drop-drop 30 area.start disk)
        ∙ ap (λ (l : List ℕ). drop 30 l) start
        ∙ drop_at (OPEN ∷ header_bytes j.header) (j.records ++ (open_batches j.batches ++ (held.shut.gate ∷ tail))) 30 (omega (arith, length-header_bytes j.header)) in
        record {
          gate = held.shut.gate;
          rest = tail;
          bytes =
              sym (drop-drop header.records_len (area.start + 30) disk)
              ∙ ap (λ (l : List ℕ). drop header.records_len l) records
              ∙ drop_at j.records (open_batches j.batches ++ (held.shut.gate ∷ tail)) header.records_len len;
          closed = held.shut.closed;
          fits = omega (arith, fits_in j held, length-spelling j, len);
          heads = held.in_range.batches;
        }

    module _ (records : List ℕ) (read : records ≡ take header.records_len (drop (area.start + 30) disk)) (size : length records ≡ header.records_len) (batches : List BatchValue) (are : AreBatchesAt disk area.end (area.start + 30 + header.records_len) batches) where
      abbrev journal : Journal
      journal = record { header = header; records = records; batches = batches }

      pub next_is : area.start + 30 + header.records_len + length (open_batches batches) ≡ area.start + length (spelling journal)
      next_is = omega (arith, length-spelling journal, size)

      abbrev upto : List ℕ
      upto = spelling journal ++ are.gate ∷ []

      abbrev left : ℕ
      left = (area.end - area.start) - length upto

      from_header : drop area.start disk ≡ upto ++ are.rest
      from_header =
          (header_at_start header has).bytes
          ∙ ap (λ (l : List ℕ). OPEN ∷ (header_bytes header ++ l))
          (sym (piece header.records_len (area.start + 30) disk)
          ∙ ap (λ (l : List ℕ). l ++ drop (area.start + 30 + header.records_len) disk) (sym read)
          ∙ ap (λ (l : List ℕ). records ++ l) are.bytes)
          ∙ sym (flat journal (are.gate ∷ are.rest))
          ∙ sym (append_assoc (spelling journal) (are.gate ∷ []) are.rest)

      pub recovered : HoldsIn area journal disk
      recovered =
          let parts : length upto + left ≡ area.end - area.start = omega (arith, are.fits, next_is, length-append (spelling journal) (are.gate ∷ [])) in
          record {
            shut = record {
              gate = are.gate;
              free = take left are.rest;
              bytes =
                  ap (λ (l : List ℕ). take (area.end - area.start) l) from_header
                  ∙ ap (λ (n : ℕ). take n (upto ++ are.rest)) (sym parts)
                  ∙ take-append-add upto are.rest left
                  ∙ append_assoc (spelling journal) (are.gate ∷ []) (take left are.rest);
              closed = are.closed;
            };
            in_range = record { header = has.in_range; records = size; batches = are.heads };
          }

-- a header without records and a closed gate in place of what stood there
pub formatted : (area : Area) (disk new : List ℕ) (header : Header) → area.start + 31 ≤ area.end → area.end ≤ length disk → IsHeader header → header.records_len ≡ 0 → new ≡ bytes_after_write disk area.start (OPEN ∷ (header_bytes header ++ (0 ∷ []))) → HoldsIn area (checkpoint header []) new
formatted area disk new header room within is_header none is =
    let bytes = OPEN ∷ (header_bytes header ++ (0 ∷ [])) in
    let rest = drop (0 + length bytes) (bytes_in area disk) in
    let size : length bytes ≡ 31 = omega (arith, length-append (header_bytes header) (0 ∷ []), length-header_bytes header) in
    record {
      shut = record {
        gate = 0;
        free = rest;
        bytes =
            ap (λ (l : List ℕ). bytes_in area l) (is ∙ ap (λ (at : ℕ). bytes_after_write disk at bytes) (omega arith))
            ∙ bytes_written area 0 disk bytes (omega (arith, size, room)) within
            ∙ ap (λ (l : List ℕ). OPEN ∷ l) (append_assoc (header_bytes header) (0 ∷ []) rest ∙ ap (λ (l : List ℕ). l ++ (0 ∷ rest)) (sym (append-nil (header_bytes header))));
        closed = λ same. omega (arith, same);
      };
      in_range = record { header = is_header; records = sym none; batches = tt };
    }
