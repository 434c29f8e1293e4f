-- What is put in place of a buffer's first bytes.
use Rattle.std.proofs.Common.{◌≡◌, ◌≤◌, ◌∙◌, ℕ, List, ◌++◌, length, take, drop, length-append, length-drop, ap, arith}
use Rattle.std.proofs.lemmas.List.{take_at}

-- the buffer with these bytes at its front
pub put_in : (n : ℕ) (front old put : List ℕ) (len : ℕ) → put ≡ front ++ drop n old → length front ≡ n → n ≤ length old → length old ≡ len
    → take len (put ++ drop (length put) old) ≡ front ++ drop n old
put_in n front old put len is size room whole =
    take_at put (drop (length put) old) len (omega (arith, ap length is, length-append front (drop n old), length-drop n old, size, room, whole)) ∙ is
