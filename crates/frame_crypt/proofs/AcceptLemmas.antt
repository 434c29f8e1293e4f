-- A Join-Accept whose blocks go through a cipher.
use Rattle.std.proofs.Common.{◌≡◌, ℕ, zero, suc, ◌+◌, ◌-◌, ◌*◌, ◌/◌, ◌≤◌, ◌<◌, ◌⊎◌, inl, inr, List, [], ◌∷◌, ◌++◌, length, take, drop, refl, sym, ap, subst, ◌∙◌, arith, append_assoc, add-one, take-append-drop, length-append, length-drop}
use Rattle.std.specs.Prelude.{All}
use Rattle.std.proofs.Math.Seq.{take-add}
use Rattle.std.proofs.lemmas.List.{append-nil, length-take-le, drop-drop, drop_at, take_at, take_all}
use Rattle.std.proofs.lemmas.List.Elements.{All-append, All-take, All-drop}
use Rattle.std.proofs.lemmas.Slice.{take-put_mid, drop-put_mid}
use borrow.Rule.Slice.PartMut.{put_mid}
use Rattle.aes128.specs.Cipher.{IsBlock, ciphertext, xor}
use Rattle.aes128.specs.InverseCipher.{plaintext}
use Rattle.aes_cmac.specs.Cmac.{after_blocks, blocks_before_last, chain_value, cmac, masked_last}
use Rattle.frame_crypt.specs.Joins.{IsAccept, IsAcceptSize, each_block, join_mic, opened_accept, sealed_accept, through, with_mic}
use Rattle.lw_types.specs.Values.{IsByte}

pub each_block-zero : (f : List ℕ → List ℕ) (xs : List ℕ) → each_block f xs 0 ≡ []
unfolding each_block
each_block-zero f xs = refl

pub each_block-more : (f : List ℕ → List ℕ) (xs : List ℕ) (n : ℕ) → each_block f xs (n + 1) ≡ each_block f xs n ++ f (take 16 (drop (16 * n) xs))
unfolding each_block
each_block-more f xs n = rw add-one refl

-- the next block of a frame, from byte a on, went through the cipher
pub block_step : (f : List ℕ → List ℕ) (plain xs bytes : List ℕ) (n a : ℕ) → a ≡ 16 * n + 1 → a + 16 ≤ length xs
    → take a xs ≡ take 1 plain ++ each_block f (drop 1 plain) n → drop a xs ≡ drop a plain
    → bytes ≡ f (take 16 (drop a xs)) → length bytes ≡ 16
    → take (a + 16) (put_mid a 16 xs bytes) ≡ take 1 plain ++ each_block f (drop 1 plain) (n + 1)
block_step f plain xs bytes n a place fits done left is size =
    let inside : a ≤ length xs = omega arith in
    let shift : 1 + 16 * n ≡ a = omega arith in
    let piece : take 16 (drop a xs) ≡ take 16 (drop (16 * n) (drop 1 plain)) =
    ap (take 16) (left ∙ sym (drop-drop (16 * n) 1 plain ∙ ap (λ (k : ℕ). drop k plain) shift)) in
    take-put_mid a 16 xs bytes (a + 16) (omega arith) inside
    ∙ ap (λ (l : List ℕ). l ++ bytes) done
    ∙ append_assoc (take 1 plain) (each_block f (drop 1 plain) n) bytes
    ∙ ap (λ (l : List ℕ). take 1 plain ++ (each_block f (drop 1 plain) n ++ l)) (is ∙ ap f piece)
    ∙ ap (λ (l : List ℕ). take 1 plain ++ l) (sym (each_block-more f (drop 1 plain) n))

pub block_left : (plain xs bytes : List ℕ) (a : ℕ) → a + 16 ≤ length xs → length bytes ≡ 16 → drop a xs ≡ drop a plain
    → drop (a + 16) (put_mid a 16 xs bytes) ≡ drop (a + 16) plain
block_left plain xs bytes a fits size left =
    drop-put_mid a 16 xs bytes (a + 16) (omega arith) (omega arith) size
    ∙ sym (drop-drop 16 a xs) ∙ ap (λ (l : List ℕ). drop 16 l) left ∙ drop-drop 16 a plain

-- f makes blocks of blocks, and g undoes it
record Undoes (f g : List ℕ → List ℕ) : Type 0 where
  pub block : (x : List ℕ) → IsBlock x → IsBlock (f x)
  pub undone : (x : List ℕ) → IsBlock x → g (f x) ≡ x

piece_block : (bytes : List ℕ) (n : ℕ) → All IsByte bytes → 16 * suc n ≤ length bytes → IsBlock (take 16 (drop (16 * n) bytes))
piece_block bytes n all long =
    (length-take-le 16 (drop (16 * n) bytes) (omega (arith, length-drop (16 * n) bytes)), All-take IsByte 16 (drop (16 * n) bytes) (All-drop IsByte (16 * n) bytes all))

each_block-length : (f g : List ℕ → List ℕ) (undoes : Undoes f g) (bytes : List ℕ) (n : ℕ) → All IsByte bytes → 16 * n ≤ length bytes → length (each_block f bytes n) ≡ 16 * n
unfolding each_block
each_block-length f g undoes bytes zero all long = refl
each_block-length f g undoes bytes (suc n) all long =
    let block = undoes.block _ (piece_block bytes n all long) in
    length-append (each_block f bytes n) (f (take 16 (drop (16 * n) bytes))) ∙ (let before = each_block-length f g undoes bytes n all (omega arith) in omega (arith, block.0))

undone_blocks : (f g : List ℕ → List ℕ) (undoes : Undoes f g) (bytes : List ℕ) (n : ℕ) (tail : List ℕ) → All IsByte bytes → 16 * n ≤ length bytes
    → each_block g (each_block f bytes n ++ tail) n ≡ take (16 * n) bytes
unfolding each_block
undone_blocks f g undoes bytes zero tail all long = refl
undone_blocks f g undoes bytes (suc n) tail all long =
    let front = each_block f bytes n in
    let piece = take 16 (drop (16 * n) bytes) in
    let is_piece = piece_block bytes n all long in
    let next = f piece in
    let size : length next ≡ 16 = (undoes.block piece is_piece).0 in
    let before = each_block-length f g undoes bytes n all (omega arith) in
    let more : 16 * n + 16 ≡ 16 * suc n = omega arith in
    ap (λ (l : List ℕ). each_block g l n ++ g (take 16 (drop (16 * n) l))) (append_assoc front next tail)
    ∙ ap (λ (l : List ℕ). l ++ g (take 16 (drop (16 * n) (front ++ (next ++ tail))))) (undone_blocks f g undoes bytes n (next ++ tail) all (omega arith))
    ∙ ap (λ (l : List ℕ). take (16 * n) bytes ++ g (take 16 l)) (drop_at front (next ++ tail) (16 * n) before)
    ∙ ap (λ (l : List ℕ). take (16 * n) bytes ++ g l) (take_at next tail 16 size)
    ∙ ap (λ (l : List ℕ). take (16 * n) bytes ++ l) (undoes.undone piece is_piece)
    ∙ sym (take-add (16 * n) 16 bytes) ∙ ap (λ (k : ℕ). take k bytes) more

whole_blocks : (n : ℕ) → IsAcceptSize n → n ≡ 1 + 16 * (n / 16)
whole_blocks n (inl short) = short ∙ sym (ap (λ (k : ℕ). 1 + 16 * (k / 16)) short)
whole_blocks n (inr long) = long ∙ sym (ap (λ (k : ℕ). 1 + 16 * (k / 16)) long)

-- a frame that goes through f and then through g is unchanged
through-through : (f g : List ℕ → List ℕ) → Undoes f g → (frame : List ℕ) → IsAccept frame → through g (through f frame) ≡ frame
through-through f g undoes frame accept =
    let n = length frame / 16 in
    let whole = whole_blocks (length frame) accept.0 in
    let mhdr = take 1 frame in
    let body = drop 1 frame in
    let body_size : length body ≡ length frame - 1 = length-drop 1 frame in
    let all : All IsByte body = All-drop IsByte 1 frame accept.1 in
    let blocks = each_block f body n in
    let one : length mhdr ≡ 1 = length-take-le 1 frame (omega arith) in
    let many : length blocks ≡ 16 * n = each_block-length f g undoes body n all (omega arith) in
    let same : length (mhdr ++ blocks) ≡ length frame = length-append mhdr blocks ∙ omega arith in
    ap (λ (l : List ℕ). l ++ each_block g (drop 1 (mhdr ++ blocks)) (length (mhdr ++ blocks) / 16)) (take_at mhdr blocks 1 one)
    ∙ ap (λ (l : List ℕ). mhdr ++ each_block g l (length (mhdr ++ blocks) / 16)) (drop_at mhdr blocks 1 one ∙ sym (append-nil blocks))
    ∙ ap (λ (k : ℕ). mhdr ++ each_block g (blocks ++ []) (k / 16)) same
    ∙ ap (λ (l : List ℕ). mhdr ++ l) (undone_blocks f g undoes body n [] all (omega arith) ∙ take_all (16 * n) body (omega arith))
    ∙ take-append-drop 1 frame

-- the laws of the cipher that this file uses
pub record CipherLaws : Type 0 where
  pub encrypted_block : (key block : List ℕ) → IsBlock key → IsBlock (ciphertext key block)
  pub decrypted_block : (key block : List ℕ) → IsBlock key → IsBlock block → IsBlock (plaintext key block)
  pub back : (key block : List ℕ) → IsBlock key → IsBlock block → plaintext key (ciphertext key block) ≡ block
  pub forth : (key block : List ℕ) → IsBlock key → IsBlock block → ciphertext key (plaintext key block) ≡ block

mic_bytes : CipherLaws → (key message : List ℕ) → IsBlock key → (length (join_mic key message) ≡ 4) × All IsByte (join_mic key message)
unfolding join_mic cmac
mic_bytes laws key message is_key =
    let n = blocks_before_last message in
    let block = laws.encrypted_block key (xor (chain_value key message n) (masked_last key (after_blocks n message))) is_key in
    (length-take-le 4 (ciphertext key (xor (chain_value key message n) (masked_last key (after_blocks n message)))) (omega (arith, block.0)), All-take IsByte 4 _ block.1)

with_mic-accept : CipherLaws → (key frame : List ℕ) → IsBlock key → IsAccept frame → IsAccept (with_mic key frame)
with_mic-accept laws key frame is_key accept =
    let n = length frame - 4 in
    let fields = take n frame in
    let mic = mic_bytes laws key fields is_key in
    let whole = whole_blocks (length frame) accept.0 in
    let some : 4 ≤ length frame = elim accept.0 [ inl short ↦ omega arith | inr long ↦ omega arith ] in
    let size : length fields ≡ n = length-take-le n frame (omega arith) in
    let same : length (fields ++ join_mic key fields) ≡ length frame = length-append fields (join_mic key fields) ∙ (let four = mic.0 in omega arith) in
    (subst IsAcceptSize (sym same) accept.0, All-append IsByte fields (join_mic key fields) (All-take IsByte n frame accept.1) mic.1)

pub opened-sealed : CipherLaws → (key frame : List ℕ) → IsBlock key → IsAccept frame → opened_accept key (sealed_accept key frame) ≡ with_mic key frame
opened-sealed laws key frame is_key accept =
    through-through (plaintext key) (ciphertext key)
    (record { block = λ x is. laws.decrypted_block key x is_key is; undone = λ x is. laws.forth key x is_key is }) (with_mic key frame) (with_mic-accept laws key frame is_key accept)

pub sealed-only : CipherLaws → (key frame other : List ℕ) → IsBlock key → IsAccept other → opened_accept key other ≡ with_mic key frame → other ≡ sealed_accept key frame
sealed-only laws key frame other is_key accept same =
    sym (through-through (ciphertext key) (plaintext key)
    (record { block = λ x is. laws.encrypted_block key x is_key; undone = λ x is. laws.back key x is_key is }) other accept)
    ∙ ap (through (plaintext key)) same
