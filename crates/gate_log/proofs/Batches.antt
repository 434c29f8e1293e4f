-- Lists of batches, from their bytes and back.
use Rattle.std.proofs.Common.{◌≡◌, ◌≢◌, ◌<◌, ◌≤◌, ℕ, ◌+◌, List, [], ◌∷◌, ◌++◌, length, get_or, take, drop, refl, sym, ◌∙◌, ap, subst, arith, append_assoc, length-append}
use Rattle.std.proofs.lemmas.List.{append-nil, drop-drop, take_at, drop_more}
use Rattle.gate_log.specs.declared.layout.BatchHead.{BatchHead}
use Rattle.gate_log.specs.declared.layout.TheConstants.{OPEN}
use Rattle.gate_log.specs.Layout.{BatchValue, AreHeads, IsHead, body, head_bytes, head_of, open_batches}
use Rattle.gate_log.specs.Recover.{IsBatchAt, NoBatchAt, AreBatchesAt}
use Rattle.gate_log.proofs.Spelling.{length-head_bytes, same_front, same_head, piece}

pub length-body : (b : BatchValue) → length (body b) ≡ 14 + length b.entries
length-body b = omega (arith, length-append (head_bytes (head_of b)) b.entries, length-head_bytes (head_of b))

pub length-open_batches-append : (xs ys : List BatchValue) → length (open_batches (xs ++ ys)) ≡ length (open_batches xs) + length (open_batches ys)
length-open_batches-append [] ys = omega arith
length-open_batches-append (x ∷ xs) ys = omega (arith, length-append (body x) (open_batches (xs ++ ys)), length-append (body x) (open_batches xs), length-open_batches-append xs ys)

pub open_batches-append : (xs ys : List BatchValue) → open_batches (xs ++ ys) ≡ open_batches xs ++ open_batches ys
open_batches-append [] ys = refl
open_batches-append (x ∷ xs) ys = ap (λ (l : List ℕ). OPEN ∷ (body x ++ l)) (open_batches-append xs ys) ∙ ap (λ (l : List ℕ). OPEN ∷ l) (sym (append_assoc (body x) (open_batches xs) (open_batches ys)))

pub AreHeads-append : (xs ys : List BatchValue) → AreHeads xs → AreHeads ys → AreHeads (xs ++ ys)
AreHeads-append [] ys are_xs are_ys = are_ys
AreHeads-append (x ∷ xs) ys are_xs are_ys = (are_xs.0, AreHeads-append xs ys are_xs.1 are_ys)

-- bytes begin with one body
same_body : (b c : BatchValue) (s t : List ℕ) → IsHead (head_of b) → IsHead (head_of c) → body b ++ s ≡ body c ++ t → (b ≡ c) × (s ≡ t)
same_body b c s t is_b is_c same =
    let flat = sym (append_assoc (head_bytes (head_of b)) b.entries s) ∙ same ∙ append_assoc (head_bytes (head_of c)) c.entries t in
    let fronts = same_front (head_bytes (head_of b)) (head_bytes (head_of c)) (b.entries ++ s) (c.entries ++ t) (length-head_bytes (head_of b) ∙ sym (length-head_bytes (head_of c))) flat in
    let head = same_head (head_of b) (head_of c) is_b is_c fronts.0 in
    let rest = same_front b.entries c.entries s t (ap (λ (h : BatchHead). h.entries_len) head) fronts.1 in
    ((λ i. record { last_sequence = (head i).last_sequence; entry_count = (head i).entry_count; entries = rest.0 i }), rest.1)

-- the rest of a list of batches that begins with these
pub record GoesOn (xs : List BatchValue) (rest : List ℕ) (ys : List BatchValue) (tail : List ℕ) : Type 0 where
  pub more : List BatchValue
  pub is : ys ≡ xs ++ more
  pub bytes : rest ≡ open_batches more ++ tail
  pub heads : AreHeads more

-- if a list's bytes begin with those of another list and its end is a closed gate, it continues the
-- other list
pub goes_on : (xs : List BatchValue) (rest : List ℕ) (ys : List BatchValue) (gate : ℕ) (tail : List ℕ) → AreHeads xs → AreHeads ys → gate ≢ OPEN → open_batches xs ++ rest ≡ open_batches ys ++ (gate ∷ tail) → GoesOn xs rest ys (gate ∷ tail)
goes_on [] rest ys gate tail are_xs are_ys shut same = record { more = ys; is = refl; bytes = same; heads = are_ys }
goes_on (x ∷ xs) rest [] gate tail are_xs are_ys shut same = absurd (shut (sym (ap (λ (l : List ℕ). get_or l 0 0) same)))
goes_on (x ∷ xs) rest (y ∷ ys) gate tail are_xs are_ys shut same =
    let bodies : body x ++ (open_batches xs ++ rest) ≡ body y ++ (open_batches ys ++ (gate ∷ tail)) =
    sym (append_assoc (body x) (open_batches xs) rest) ∙ ap (λ (l : List ℕ). drop 1 l) same ∙ append_assoc (body y) (open_batches ys) (gate ∷ tail) in
    let first = same_body x y (open_batches xs ++ rest) (open_batches ys ++ (gate ∷ tail)) are_xs.0 are_ys.0 bodies in
    let others = goes_on xs rest ys gate tail are_xs.1 are_ys.1 shut first.1 in
    record { more = others.more; is = (λ i. sym first.0 i ∷ others.is i); bytes = others.bytes; heads = others.heads }

-- bytes spell one list of batches up to a closed gate
pub same_batches : (xs ys : List BatchValue) (gate other : ℕ) (rest tail : List ℕ) → AreHeads xs → AreHeads ys → gate ≢ OPEN → other ≢ OPEN → open_batches xs ++ (gate ∷ rest) ≡ open_batches ys ++ (other ∷ tail) → ys ≡ xs
same_batches xs ys gate other rest tail are_xs are_ys shut other_shut same =
    let on = goes_on xs (gate ∷ rest) ys other tail are_xs are_ys other_shut same in
    on.is ∙ ap (λ (l : List BatchValue). xs ++ l) (none on.more on.bytes) ∙ append-nil xs
  where
    none : (more : List BatchValue) → gate ∷ rest ≡ open_batches more ++ (other ∷ tail) → more ≡ []
    none [] bytes = refl
    none (b ∷ more) bytes = absurd (shut (ap (λ (l : List ℕ). get_or l 0 0) bytes))

-- a damaged batch after those read so far: the disk has no list of batches
pub no_batches : (disk : List ℕ) (end first at : ℕ) (xs : List BatchValue) → AreHeads xs → drop first disk ≡ open_batches xs ++ drop at disk → at ≡ first + length (open_batches xs) → at < length disk → NoBatchAt disk end at → (ys : List BatchValue) → AreBatchesAt disk end first ys → ⊥
no_batches disk end first at xs are_xs bytes is_at within damaged ys are_ys =
    let on = goes_on xs (drop at disk) ys are_ys.gate are_ys.rest are_xs are_ys.heads are_ys.closed (sym bytes ∙ are_ys.bytes) in
    let size : length (open_batches ys) ≡ length (open_batches xs) + length (open_batches on.more) = ap (λ (l : List BatchValue). length (open_batches l)) on.is ∙ length-open_batches-append xs on.more in
    none on.more on.bytes on.heads size
  where
    none : (more : List BatchValue) → drop at disk ≡ open_batches more ++ (are_ys.gate ∷ are_ys.rest) → AreHeads more → length (open_batches ys) ≡ length (open_batches xs) + length (open_batches more) → ⊥
    none [] rest heads size = are_ys.closed (sym (ap (λ (l : List ℕ). get_or l 0 0) (sym (drop_more disk at 0 within) ∙ rest)) ∙ damaged.opened)
    none (b ∷ more) rest heads size =
        let tail = open_batches more ++ (are_ys.gate ∷ are_ys.rest) in
        let past = damaged.none b tail heads.0 (rest ∙ ap (λ (l : List ℕ). OPEN ∷ l) (append_assoc (body b) (open_batches more) (are_ys.gate ∷ are_ys.rest))) in
        omega (arith, past, are_ys.fits, size, is_at, length-body b, length-append (body b) (open_batches more))

-- what reads of a gate, a head and entries found
pub batch_at : (disk : List ℕ) (end at : ℕ) (h : BatchHead) (entries : List ℕ) → get_or disk at 0 ≡ OPEN → head_bytes h ≡ take 14 (drop (at + 1) disk) → IsHead h → entries ≡ take h.entries_len (drop (at + 15) disk) → length entries ≡ h.entries_len → at + 15 + h.entries_len < end → end ≤ length disk
    → IsBatchAt disk end at (record { last_sequence = h.last_sequence; entry_count = h.entry_count; entries = entries })
batch_at disk end at h entries is_open spelled is_head read size fits within =
    let head : h ≡ record { entries_len = length entries; last_sequence = h.last_sequence; entry_count = h.entry_count } =
    λ i. record { entries_len = sym size i; last_sequence = h.last_sequence; entry_count = h.entry_count } in
    let place : (at + 1) + 14 ≡ at + 15 = omega arith in
    let behind = drop (at + 15 + length entries) disk in
    let tail : drop (at + 15) disk ≡ entries ++ behind =
    sym (piece (length entries) (at + 15) disk) ∙ ap (λ (l : List ℕ). l ++ behind) (ap (λ (n : ℕ). take n (drop (at + 15) disk)) size ∙ sym read) in
    let rest : drop (at + 1) disk ≡ head_bytes h ++ (entries ++ behind) =
    sym (piece 14 (at + 1) disk)
    ∙ ap (λ (l : List ℕ). l ++ drop ((at + 1) + 14) disk) (sym spelled)
    ∙ ap (λ (n : ℕ). head_bytes h ++ drop n disk) place
    ∙ ap (λ (l : List ℕ). head_bytes h ++ l) tail in
    record {
      bytes =
          drop_more disk at 0 (omega arith)
          ∙ ap (λ (n : ℕ). n ∷ drop (at + 1) disk) is_open
          ∙ ap (λ (l : List ℕ). OPEN ∷ l) (rest ∙ ap (λ (k : BatchHead). head_bytes k ++ (entries ++ behind)) head)
          ∙ ap (λ (l : List ℕ). OPEN ∷ l) (sym (append_assoc (head_bytes (record { entries_len = length entries; last_sequence = h.last_sequence; entry_count = h.entry_count })) entries behind));
      head = subst IsHead head is_head;
      fits = omega (arith, size, fits);
    }

-- a head whose entries don't fit
pub no_batch_at : (disk : List ℕ) (end at : ℕ) (h : BatchHead) → get_or disk at 0 ≡ OPEN → head_bytes h ≡ take 14 (drop (at + 1) disk) → IsHead h → end ≤ at + 15 + h.entries_len → NoBatchAt disk end at
no_batch_at disk end at h is_open spelled is_head long = record { opened = is_open; none = none }
  where
    none : (b : BatchValue) (rest : List ℕ) → IsHead (head_of b) → drop at disk ≡ OPEN ∷ (body b ++ rest) → end ≤ at + 15 + length b.entries
    none b rest is bytes =
        let behind : drop (at + 1) disk ≡ head_bytes (head_of b) ++ (b.entries ++ rest) =
        sym (drop-drop 1 at disk) ∙ ap (λ (l : List ℕ). drop 1 l) bytes ∙ append_assoc (head_bytes (head_of b)) b.entries rest in
        let same : head_bytes h ≡ head_bytes (head_of b) =
        spelled ∙ ap (λ (l : List ℕ). take 14 l) behind ∙ take_at (head_bytes (head_of b)) (b.entries ++ rest) 14 (length-head_bytes (head_of b)) in
        omega (arith, long, ap (λ (k : BatchHead). k.entries_len) (same_head h (head_of b) is_head is same))

-- one batch more after those read so far
pub record ReadOn (disk : List ℕ) (first next : ℕ) (xs : List BatchValue) : Type 0 where
  pub bytes : drop first disk ≡ open_batches xs ++ drop next disk
  pub heads : AreHeads xs

pub read_on : (disk : List ℕ) (end first at next : ℕ) (xs : List BatchValue) (b : BatchValue) → drop first disk ≡ open_batches xs ++ drop at disk → AreHeads xs → IsBatchAt disk end at b → next ≡ at + (15 + length b.entries) → ReadOn disk first next (xs ++ b ∷ [])
read_on disk end first at next xs b bytes heads is is_next =
    let place : at + 15 + length b.entries ≡ next = omega (arith, is_next) in
    let one : open_batches (b ∷ []) ≡ OPEN ∷ body b = ap (λ (l : List ℕ). OPEN ∷ l) (append-nil (body b)) in
    record {
      bytes =
          bytes
          ∙ ap (λ (l : List ℕ). open_batches xs ++ l) (is.bytes ∙ ap (λ (n : ℕ). OPEN ∷ (body b ++ drop n disk)) place)
          ∙ sym (append_assoc (open_batches xs) (OPEN ∷ body b) (drop next disk))
          ∙ ap (λ (l : List ℕ). (open_batches xs ++ l) ++ drop next disk) (sym one)
          ∙ ap (λ (l : List ℕ). l ++ drop next disk) (sym (open_batches-append xs (b ∷ [])));
      heads = AreHeads-append xs (b ∷ []) heads (is.head, tt);
    }
