-- The keystream, and a payload to which its blocks are added in turn.
use Rattle.std.proofs.Common.{◌≡◌, ℕ, zero, suc, ◌+◌, ◌-◌, ◌*◌, ◌/◌, ◌^◌, ◌<◌, ◌≤◌, min, List, [], ◌∷◌, ◌++◌, length, take, drop, refl, sym, ap, ◌∙◌, arith, inl, inr, add-one, length-append, length-drop}
use Rattle.std.proofs.Math.Seq.{take-add}
use Rattle.std.proofs.lemmas.Bool.{cases_lt}
use Rattle.std.proofs.lemmas.Nat.{xor_lt}
use Rattle.std.proofs.lemmas.List.{take_all, length-take-le, drop-drop}
use Rattle.std.proofs.lemmas.Slice.{take-put_mid, drop-put_mid}
use borrow.Rule.Slice.PartMut.{put_mid, post_of}
use Rattle.std.specs.Int.Bits.{bit_xor, xor_assoc, xor_self, xor_zero_r}
use Rattle.aes128.specs.Field.{◌⊕◌, power}
use Rattle.std.specs.Prelude.{All}
use Rattle.std.proofs.lemmas.List.Elements.{All-nil, All-cons, All-head, All-tail, All-append}
use Rattle.aes128.specs.Cipher.{IsBlock, xor, ciphertext, rounds, round_key, next_round_key, shift_rows, sub_bytes}
use Rattle.lw_types.specs.declared.direction.Direction.{Direction}
use Rattle.frame_crypt.specs.Frames.{frame_block, keystream, crypted_payload}
use Rattle.lw_types.specs.Values.{IsByte}
use Rattle.aes128.proofs.XorLemmas.{length-xor, xor-twice}

pub xor-append : (as' bs ks s : List ℕ) → length as' ≡ length ks → xor (as' ++ bs) (ks ++ s) ≡ xor as' ks ++ xor bs s
xor-append [] bs [] s same = refl
xor-append [] bs (k ∷ ks) s same = absurd (omega arith)
xor-append (a ∷ as') bs [] s same = absurd (omega arith)
xor-append (a ∷ as') bs (k ∷ ks) s same = ap (λ (l : List ℕ). (a ⊕ k) ∷ l) (xor-append as' bs ks s (omega arith))

length-next : (constant : ℕ) (k : List ℕ) → length (next_round_key constant k) ≡ 16
length-next constant k = refl

length-round_key : (key : List ℕ) (r : ℕ) → length (round_key key (suc r)) ≡ 16
unfolding round_key
length-round_key key r = length-next (power 2 r) (round_key key r)

length-last : (s k : List ℕ) → length k ≡ 16 → length (xor (shift_rows s) k) ≡ 16
length-last s k sixteen = length-xor (shift_rows s) k (omega arith)

pub length-encrypted : (key block : List ℕ) → length (ciphertext key block) ≡ 16
unfolding ciphertext
length-encrypted key block = length-last (sub_bytes (rounds key block 9)) (round_key key 10) (length-round_key key 9)

pub length-keystream : (key : List ℕ) (dir : Direction) (addr counter n : ℕ) → length (keystream key dir addr counter n) ≡ 16 * n
unfolding keystream
length-keystream key dir addr counter zero = refl
length-keystream key dir addr counter (suc n) =
    length-append (keystream key dir addr counter n) (ciphertext key (frame_block 0x01 dir addr counter (suc n)))
    ∙ (let before = length-keystream key dir addr counter n in
    let block = length-encrypted key (frame_block 0x01 dir addr counter (suc n)) in omega arith)

pub crypted-twice : (key : List ℕ) (dir : Direction) (addr counter : ℕ) (payload : List ℕ) → crypted_payload key dir addr counter (crypted_payload key dir addr counter payload) ≡ payload
unfolding crypted_payload
crypted-twice key dir addr counter payload =
    let n : ℕ = (length payload + 15) / 16 in
    let stream : List ℕ = keystream key dir addr counter n in
    let long : length stream ≡ 16 * n = length-keystream key dir addr counter n in
    let fits : length payload ≤ length stream = omega arith in
    let same : length (xor payload stream) ≡ length payload = length-xor payload stream fits in
    ap (λ (k : ℕ). xor (xor payload stream) (keystream key dir addr counter ((k + 15) / 16))) same ∙ xor-twice payload stream fits

pub length-crypted : (key : List ℕ) (dir : Direction) (addr counter : ℕ) (payload : List ℕ) → length (crypted_payload key dir addr counter payload) ≡ length payload
unfolding crypted_payload
length-crypted key dir addr counter payload =
    let n : ℕ = (length payload + 15) / 16 in
    let long : length (keystream key dir addr counter n) ≡ 16 * n = length-keystream key dir addr counter n in
    length-xor payload (keystream key dir addr counter n) (omega arith)

xor_bytes : (xs ys : List ℕ) → All IsByte xs → All IsByte ys → All IsByte (xor xs ys)
xor_bytes [] ys p q = All-nil IsByte
xor_bytes (x ∷ xs) [] p q = All-nil IsByte
xor_bytes (x ∷ xs) (y ∷ ys) p q =
    All-cons IsByte (x ⊕ y) (xor xs ys) (xor_lt 8 x y (All-head IsByte x xs p) (All-head IsByte y ys q)) (xor_bytes xs ys (All-tail IsByte x xs p) (All-tail IsByte y ys q))

keystream-bytes : ((key block : List ℕ) → IsBlock key → IsBlock (ciphertext key block)) → (key : List ℕ) (dir : Direction) (addr counter n : ℕ) → IsBlock key
    → All IsByte (keystream key dir addr counter n)
unfolding keystream
keystream-bytes gives key dir addr counter zero is_key = All-nil IsByte
keystream-bytes gives key dir addr counter (suc n) is_key =
    let block = frame_block 0x01 dir addr counter (suc n) in
    All-append IsByte (keystream key dir addr counter n) (ciphertext key block) (keystream-bytes gives key dir addr counter n is_key) (gives key block is_key).1

pub crypted-bytes : ((key block : List ℕ) → IsBlock key → IsBlock (ciphertext key block)) → (key : List ℕ) (dir : Direction) (addr counter : ℕ) (payload : List ℕ) → IsBlock key
    → All IsByte payload → All IsByte (crypted_payload key dir addr counter payload)
unfolding crypted_payload
crypted-bytes gives key dir addr counter payload is_key all =
    let n : ℕ = (length payload + 15) / 16 in
    xor_bytes payload (keystream key dir addr counter n) all (keystream-bytes gives key dir addr counter n is_key)

-- the first bytes of two lists of one length, for an end in the first list and for one beyond it
take-end : (xs : List ℕ) (a e : ℕ) → e ≡ min (length xs) (a + 16) → take (a + 16) xs ≡ take e xs
take-end xs a e end =
    elim (cases_lt (length xs) (a + 16)) [
      | inl ends ↦ take_all (a + 16) xs (omega arith) ∙ sym (take_all e xs (omega arith))
      | inr goes_on ↦ ap (λ (n : ℕ). take n xs) (let same : a + 16 ≡ e = omega arith in same)
    ]

pub length-put_mid : (a k : ℕ) (xs ys : List ℕ) → a + k ≤ length xs → length ys ≡ k → length (put_mid a k xs ys) ≡ length xs
length-put_mid a k xs ys fits long =
    let front : length (take a xs) ≡ a = length-take-le a xs (omega arith) in
    let rest : length (post_of a k xs) ≡ length xs - a - k = length-drop k (drop a xs) ∙ ap (λ (n : ℕ). n - k) (length-drop a xs) in
    let back : length (ys ++ post_of a k xs) ≡ length ys + length (post_of a k xs) = length-append ys (post_of a k xs) in
    length-append (take a xs) (ys ++ post_of a k xs) ∙ omega arith

-- a payload whose first a bytes are done, when the next block of the keystream is added
pub crypted_step : (old xs ys ks s : List ℕ) (a e k : ℕ) → length xs ≡ length old → a ≤ length old → length ks ≡ a → length s ≡ 16
    → e ≡ min (length xs) (a + 16) → k ≡ e - a → take a xs ≡ xor (take a old) ks → drop a xs ≡ drop a old
    → ys ≡ xor (take k (drop a xs)) s → take (a + 16) (put_mid a k xs ys) ≡ xor (take (a + 16) old) (ks ++ s)
crypted_step old xs ys ks s a e k same inside ks_long s_long end k_is done left part =
    let rest : length (drop a old) ≡ length old - a = length-drop a old in
    let piece : length (take k (drop a old)) ≡ k = length-take-le k (drop a old) (omega arith) in
    let ys_is : ys ≡ xor (take k (drop a old)) s = part ∙ ap (λ (l : List ℕ). xor (take k l) s) left in
    let ys_long : length ys ≡ k = ap (λ (l : List ℕ). length l) ys_is ∙ length-xor (take k (drop a old)) s (omega arith) ∙ piece in
    let whole : length (put_mid a k xs ys) ≡ length xs = length-put_mid a k xs ys (omega arith) ys_long in
    let cut : take (a + 16) (put_mid a k xs ys) ≡ take a xs ++ ys =
    take-end (put_mid a k xs ys) a e (omega arith) ∙ take-put_mid a k xs ys e (omega arith) (omega arith) in
    let ek : a + k ≡ e = omega arith in
    let old_cut : take (a + 16) old ≡ take a old ++ take k (drop a old) =
    take-end old a e (omega arith) ∙ ap (λ (n : ℕ). take n old) (sym ek) ∙ take-add a k old in
    let front : length (take a old) ≡ length ks = length-take-le a old inside ∙ sym ks_long in
    cut ∙ ap (λ (l : List ℕ). l ++ ys) done ∙ ap (λ (l : List ℕ). xor (take a old) ks ++ l) ys_is
    ∙ sym (ap (λ (l : List ℕ). xor l (ks ++ s)) old_cut ∙ xor-append (take a old) (take k (drop a old)) ks s front)

pub left_step : (old xs ys : List ℕ) (a k : ℕ) → a ≤ length xs → k ≤ 16 → length ys ≡ k → drop a xs ≡ drop a old
    → drop (a + 16) (put_mid a k xs ys) ≡ drop (a + 16) old
left_step old xs ys a k inside small long left =
    drop-put_mid a k xs ys (a + 16) (omega arith) inside long
    ∙ sym (drop-drop 16 a xs) ∙ ap (λ (l : List ℕ). drop 16 l) left ∙ drop-drop 16 a old

pub keystream-more : (key : List ℕ) (dir : Direction) (addr counter n : ℕ) (s block : List ℕ) → s ≡ ciphertext key block → block ≡ frame_block 0x01 dir addr counter (n + 1)
    → keystream key dir addr counter n ++ s ≡ keystream key dir addr counter (n + 1)
unfolding keystream
keystream-more key dir addr counter n s block sealed is_block =
    let plus : n + 1 ≡ suc n = add-one n in
    ap (λ (l : List ℕ). keystream key dir addr counter n ++ l) (sealed ∙ ap (ciphertext key) is_block)
    ∙ ap (λ (k : ℕ). keystream key dir addr counter n ++ ciphertext key (frame_block 0x01 dir addr counter k)) plus
    ∙ ap (keystream key dir addr counter) (sym plus)

-- the whole payload
pub crypted_end : (key : List ℕ) (dir : Direction) (addr counter : ℕ) (old xs : List ℕ) (n : ℕ) → length xs ≡ length old → n ≡ (length old + 15) / 16
    → take (16 * n) xs ≡ xor (take (16 * n) old) (keystream key dir addr counter n) → xs ≡ crypted_payload key dir addr counter old
unfolding crypted_payload
crypted_end key dir addr counter old xs n same blocks done =
    sym (take_all (16 * n) xs (omega arith)) ∙ done
    ∙ ap (λ (l : List ℕ). xor l (keystream key dir addr counter n)) (take_all (16 * n) old (omega arith))
    ∙ ap (λ (k : ℕ). xor old (keystream key dir addr counter k)) blocks
