use Rattle.std.proofs.Common.{◌≡◌, ◌<◌, ◌≤◌, ◌+◌, ◌*◌, ◌/◌, ◌%◌, ◌∙◌, ℕ, Ok, get_or, sym, ap, arith}
use Rattle.store_layout.specs.Superblock.{superblock}
use Rattle.store_layout.specs.declared.superblock.Superblock.{Superblock}
use Rattle.store_layout.proofs.superblock.Superblock.from_bytes.Goals as goal

-- a small number from its lowest three bytes, and from all four
three_bytes : (n a b c : ℕ) → n < 64 → a ≡ n / 65536 % 256 → b ≡ n / 256 % 256 → c ≡ n % 256 → 0 + a * 65536 + b * 256 + c ≡ n
three_bytes n a b c small ha hb hc = omega arith

four_bytes : (n a b c d : ℕ) → n ≤ 4096 → a ≡ n / 16777216 % 256 → b ≡ n / 65536 % 256 → c ≡ n / 256 % 256 → d ≡ n % 256
    → a * 16777216 + b * 65536 + c * 256 + d ≡ n
four_bytes n a b c d small ha hb hc hd = omega arith

pub returns-in-Some-Some-clause-only : goal.returns-in-Some-Some-clause-only
returns-in-Some-Some-clause-only c net slots low few is =
    let at : (i : ℕ) → get_or c.args.bytes.now i 0 ≡ get_or (superblock net slots) i 0 = λ i. ap (λ bs. get_or bs i 0) is in
    let net_is : c.from_be_bytes-net_id.result ≡ net = c.from_be_bytes-net_id.ensures ∙ three_bytes net _ _ _ low (at 9) (at 10) (at 11) in
    let slots_is : c.from_be_bytes-slots.result ≡ slots = c.from_be_bytes-slots.ensures ∙ four_bytes slots _ _ _ _ few.1 (at 12) (at 13) (at 14) (at 15) in
    let n : c.in-Some-Some.net_id ≡ net = c.in-Some-Some.ensures.1 ∙ net_is in
    let s : c.in-Some-Some.slots ≡ slots = c.in-Some-Some.ensures'.1 ∙ (c.from.ensures ∙ slots_is) in
    let block : ℕ → ℕ → Superblock = λ n s. record { net_id = n; slots = s } in
    c.checked.ensures.same (is ∙ (ap (λ k. superblock k slots) (sym n) ∙ ap (superblock c.in-Some-Some.net_id) (sym s)))
    ∙ (ap (λ k. Ok (block k c.in-Some-Some.slots)) n ∙ ap (λ k. Ok (block net k)) s)
