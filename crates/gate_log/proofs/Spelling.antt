-- The numbers of headers and heads, from their bytes and back.
use Rattle.std.proofs.Common.{◌≡◌, ◌<◌, ◌≤◌, ◌^◌, ℕ, ◌+◌, List, [], ◌∷◌, ◌++◌, length, get_or, take, drop, refl, sym, ◌∙◌, ap, arith, length-take, length-drop, take-append-drop}
use Rattle.std.proofs.lemmas.List.{drop-drop, drop_more, take_all}
use Rattle.std.proofs.lemmas.Nat.{from_be_bytes-to_be_bytes_2, from_be_bytes-to_be_bytes_4, from_be_bytes-to_be_bytes_8}
use Rattle.std.specs.Int.{to_be_bytes, from_be_bytes, w16, w32, w64}
use Rattle.gate_log.specs.declared.layout.BatchHead.{BatchHead}
use Rattle.gate_log.specs.declared.layout.Header.{Header}
use Rattle.gate_log.specs.declared.layout.TheConstants.{OPEN}
use Rattle.gate_log.specs.Layout.{IsHead, IsHeader, head_bytes, header_bytes}
use Rattle.gate_log.specs.Recover.{IsHeaderAt}

pub length-head_bytes : (h : BatchHead) → length (head_bytes h) ≡ 14
unfolding head_bytes
length-head_bytes h = refl

pub length-header_bytes : (h : Header) → length (header_bytes h) ≡ 29
unfolding header_bytes
length-header_bytes h = refl

-- the bytes from a place on are this number of bytes and the rest
pub piece : (n at : ℕ) (xs : List ℕ) → take n (drop at xs) ++ drop (at + n) xs ≡ drop at xs
piece n at xs = ap (λ (l : List ℕ). take n (drop at xs) ++ l) (sym (drop-drop n at xs)) ∙ take-append-drop n (drop at xs)

last_piece : (n at : ℕ) (xs : List ℕ) → length xs ≡ at + n → take n (drop at xs) ≡ drop at xs
last_piece n at xs size = take_all n (drop at xs) (omega (arith, length-drop at xs))

pub head_spelled : (bytes : List ℕ) (h : BatchHead) → length bytes ≡ 14 → to_be_bytes w32 h.entries_len ≡ take 4 (drop 0 bytes) → to_be_bytes w64 h.last_sequence ≡ take 8 (drop 4 bytes) → to_be_bytes w16 h.entry_count ≡ take 2 (drop 12 bytes) → head_bytes h ≡ bytes
unfolding head_bytes
head_spelled bytes h size len last count =
    (λ i. len i ++ (last i ++ count i))
    ∙ ap (λ (l : List ℕ). take 4 (drop 0 bytes) ++ (take 8 (drop 4 bytes) ++ l)) (last_piece 2 12 bytes size)
    ∙ ap (λ (l : List ℕ). take 4 (drop 0 bytes) ++ l) (piece 8 4 bytes)
    ∙ piece 4 0 bytes

pub header_spelled : (bytes : List ℕ) (h : Header) → length bytes ≡ 29 → h.version ≡ get_or bytes 0 0 → to_be_bytes w64 h.generation ≡ take 8 (drop 1 bytes) → to_be_bytes w64 h.sequence ≡ take 8 (drop 9 bytes) → to_be_bytes w32 h.record_count ≡ take 4 (drop 17 bytes) → to_be_bytes w64 h.records_len ≡ take 8 (drop 21 bytes) → header_bytes h ≡ bytes
unfolding header_bytes
header_spelled bytes h size version generation sequence count len =
    (λ i. version i ∷ (generation i ++ (sequence i ++ (count i ++ len i))))
    ∙ ap (λ (l : List ℕ). get_or bytes 0 0 ∷ (take 8 (drop 1 bytes) ++ (take 8 (drop 9 bytes) ++ (take 4 (drop 17 bytes) ++ l)))) (last_piece 8 21 bytes size)
    ∙ ap (λ (l : List ℕ). get_or bytes 0 0 ∷ (take 8 (drop 1 bytes) ++ (take 8 (drop 9 bytes) ++ l))) (piece 4 17 bytes)
    ∙ ap (λ (l : List ℕ). get_or bytes 0 0 ∷ (take 8 (drop 1 bytes) ++ l)) (piece 8 9 bytes)
    ∙ ap (λ (l : List ℕ). get_or bytes 0 0 ∷ l) (piece 8 1 bytes)
    ∙ sym (drop_more bytes 0 0 (omega (arith, size)))

-- two lists whose fronts have the same length have the same front and the same rest
pub same_front : (xs ys s t : List ℕ) → length xs ≡ length ys → xs ++ s ≡ ys ++ t → (xs ≡ ys) × (s ≡ t)
same_front [] [] s t size same = (refl, same)
same_front [] (y ∷ ys) s t size same = absurd (omega arith)
same_front (x ∷ xs) [] s t size same = absurd (omega arith)
same_front (x ∷ xs) (y ∷ ys) s t size same =
    let first : x ≡ y = cc in
    let others : xs ++ s ≡ ys ++ t = cc in
    let rest = same_front xs ys s t (omega arith) others in
    ((λ i. first i ∷ rest.0 i), rest.1)

same_16 : (m n : ℕ) → m < 2 ^ 16 → n < 2 ^ 16 → to_be_bytes w16 m ≡ to_be_bytes w16 n → m ≡ n
same_16 m n fits_m fits_n same = sym (from_be_bytes-to_be_bytes_2 m fits_m) ∙ ap (from_be_bytes w16) same ∙ from_be_bytes-to_be_bytes_2 n fits_n

same_32 : (m n : ℕ) → m < 2 ^ 32 → n < 2 ^ 32 → to_be_bytes w32 m ≡ to_be_bytes w32 n → m ≡ n
same_32 m n fits_m fits_n same = sym (from_be_bytes-to_be_bytes_4 m fits_m) ∙ ap (from_be_bytes w32) same ∙ from_be_bytes-to_be_bytes_4 n fits_n

same_64 : (m n : ℕ) → m < 2 ^ 64 → n < 2 ^ 64 → to_be_bytes w64 m ≡ to_be_bytes w64 n → m ≡ n
same_64 m n fits_m fits_n same = sym (from_be_bytes-to_be_bytes_8 m fits_m) ∙ ap (from_be_bytes w64) same ∙ from_be_bytes-to_be_bytes_8 n fits_n

-- bytes spell one head
pub same_head : (h k : BatchHead) → IsHead h → IsHead k → head_bytes h ≡ head_bytes k → h ≡ k
unfolding head_bytes
same_head h k is_h is_k same =
    let first = same_front (to_be_bytes w32 h.entries_len) (to_be_bytes w32 k.entries_len) (to_be_bytes w64 h.last_sequence ++ to_be_bytes w16 h.entry_count) (to_be_bytes w64 k.last_sequence ++ to_be_bytes w16 k.entry_count) refl same in
    let second = same_front (to_be_bytes w64 h.last_sequence) (to_be_bytes w64 k.last_sequence) (to_be_bytes w16 h.entry_count) (to_be_bytes w16 k.entry_count) refl first.1 in
    let len = same_32 h.entries_len k.entries_len is_h.entries_len is_k.entries_len first.0 in
    let last = same_64 h.last_sequence k.last_sequence is_h.last_sequence is_k.last_sequence second.0 in
    let count = same_16 h.entry_count k.entry_count is_h.entry_count is_k.entry_count second.1 in
    λ i. record { entries_len = len i; last_sequence = last i; entry_count = count i }

-- bytes spell one header
pub same_header : (h k : Header) → IsHeader h → IsHeader k → header_bytes h ≡ header_bytes k → h ≡ k
unfolding header_bytes
same_header h k is_h is_k same =
    let first = same_front (h.version ∷ []) (k.version ∷ [])
    (to_be_bytes w64 h.generation ++ (to_be_bytes w64 h.sequence ++ (to_be_bytes w32 h.record_count ++ to_be_bytes w64 h.records_len)))
    (to_be_bytes w64 k.generation ++ (to_be_bytes w64 k.sequence ++ (to_be_bytes w32 k.record_count ++ to_be_bytes w64 k.records_len))) refl same in
    let second = same_front (to_be_bytes w64 h.generation) (to_be_bytes w64 k.generation)
    (to_be_bytes w64 h.sequence ++ (to_be_bytes w32 h.record_count ++ to_be_bytes w64 h.records_len))
    (to_be_bytes w64 k.sequence ++ (to_be_bytes w32 k.record_count ++ to_be_bytes w64 k.records_len)) refl first.1 in
    let third = same_front (to_be_bytes w64 h.sequence) (to_be_bytes w64 k.sequence)
    (to_be_bytes w32 h.record_count ++ to_be_bytes w64 h.records_len) (to_be_bytes w32 k.record_count ++ to_be_bytes w64 k.records_len) refl second.1 in
    let fourth = same_front (to_be_bytes w32 h.record_count) (to_be_bytes w32 k.record_count) (to_be_bytes w64 h.records_len) (to_be_bytes w64 k.records_len) refl third.1 in
    let version : h.version ≡ k.version = ap (λ (l : List ℕ). get_or l 0 0) first.0 in
    let generation = same_64 h.generation k.generation is_h.generation is_k.generation second.0 in
    let sequence = same_64 h.sequence k.sequence is_h.sequence is_k.sequence third.0 in
    let count = same_32 h.record_count k.record_count is_h.record_count is_k.record_count fourth.0 in
    let len = same_64 h.records_len k.records_len is_h.records_len is_k.records_len fourth.1 in
    λ i. record { version = version i; generation = generation i; sequence = sequence i; record_count = count i; records_len = len i }

-- what a read of a gate and the header after it found
pub header_at : (disk bytes : List ℕ) (at : ℕ) (h : Header) → bytes ≡ take 30 (drop at disk) → at + 30 ≤ length disk → get_or bytes 0 0 ≡ OPEN → header_bytes h ≡ drop 1 bytes → IsHeader h → IsHeaderAt disk at h
header_at disk bytes at h read within is_open spelled is_header =
    let size : length bytes ≡ 30 = omega (arith, ap length read, length-take 30 (drop at disk), length-drop at disk) in
    let cells : bytes ≡ OPEN ∷ header_bytes h = drop_more bytes 0 0 (omega arith) ∙ ap (λ (k : ℕ). k ∷ drop 1 bytes) is_open ∙ ap (λ (l : List ℕ). OPEN ∷ l) (sym spelled) in
    record {
      bytes = sym (piece 30 at disk) ∙ ap (λ (l : List ℕ). l ++ drop (at + 30) disk) (sym read ∙ cells);
      header = is_header;
    }
