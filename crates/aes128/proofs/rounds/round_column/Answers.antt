use Rattle.std.proofs.Common.{◌≡◌, ◌+◌, ◌*◌, ◌%◌, arith, ◌∙◌, ap, rules, get_or, List, [], ◌∷◌, ℕ}
use Rattle.std.proofs.lemmas.Nat.{le_bytes_4}
use Rattle.aes128.specs.Cipher.{xor, mixed_column, state_byte, s_box}
use Rattle.aes128.proofs.rounds.round_column.Goals as goal

pub returns : goal.returns
returns c =
    let state : List ℕ = c.args.state.now in
    let i : ℕ = c.args.c in
    let top : 0 + 4 * i ≡ 4 * i = omega arith in
    let bytes : List ℕ = s_box (get_or state (4 * i) 0) ∷ s_box (state_byte state 1 ((i + 1) % 4)) ∷ s_box (state_byte state 2 ((i + 2) % 4)) ∷ s_box (state_byte state 3 ((i + 3) % 4)) ∷ [] in
    let key = le_bytes_4 c.column_at.result c.from_le_bytes.result (omega arith) (search rules) c.from_le_bytes.ensures ∙ c.column_at.ensures in
    rw top (c.mixed_substituted.ensures ∙ ap (xor (mixed_column bytes)) (rw top at key))
