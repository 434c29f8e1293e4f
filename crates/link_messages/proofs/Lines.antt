-- The lines that are read are those of ASCII without a newline.
use Rattle.std.proofs.Common.{◌≡◌, ◌≢◌, ℕ, zero, suc, ◌<◌, ◌==◌, Bool, true, false, List, [], ◌∷◌, refl, arith, Result, Ok, Err, MatchResult, IsOk, subst, not}
use Rattle.std.specs.List.{list_all}
use Rattle.std.specs.Prelude.{nat_lt, IsAscii}
use Rattle.std.proofs.lemmas.Bool.{and_parts, and_from, eqb-true, ltb-true, lt-ltb}
use Rattle.std.proofs.lemmas.List.Elements.{All-nil, All-cons, All-head, All-tail}
use Rattle.link_messages.specs.Message.{IsLine}
use Rattle.link_messages.specs.MessageReading.{is_line_byte}

byte_takes : (byte : ℕ) → is_line_byte byte ≡ true → (byte < 128) × (byte ≢ 10)
byte_takes byte e =
    let h = and_parts (nat_lt byte 128) (not (byte == 10)) e in
    (ltb-true byte 128 h.0, λ is. elim (other byte is h.1) [ ])
  where
    other : (b : ℕ) → b ≡ 10 → not (b == 10) ≡ true → ⊥
    other b is t = let f : not (10 == 10) ≡ true = subst (λ (n : ℕ). not (n == 10) ≡ true) is t in absurd cc

byte_again : (byte : ℕ) → (byte < 128) × (byte ≢ 10) → is_line_byte byte ≡ true
byte_again byte h = and_from (nat_lt byte 128) (not (byte == 10)) (lt-ltb byte 128 h.0) (by (byte == 10) refl)
  where
    by : (t : Bool) → (byte == 10) ≡ t → not t ≡ true
    by true e = absurd (h.1 (eqb-true byte 10 e))
    by false e = refl

pub line_takes : (bytes : List ℕ) → list_all is_line_byte bytes ≡ true → IsLine bytes
line_takes [] e = All-nil (λ byte. (byte < 128) × (byte ≢ 10))
line_takes (byte ∷ bytes) e =
    let h = and_parts (is_line_byte byte) (list_all is_line_byte bytes) e in
    All-cons (λ b. (b < 128) × (b ≢ 10)) byte bytes (byte_takes byte h.0) (line_takes bytes h.1)

pub line_again : (bytes : List ℕ) → IsLine bytes → list_all is_line_byte bytes ≡ true
line_again [] h = refl
line_again (byte ∷ bytes) h =
    and_from (is_line_byte byte) (list_all is_line_byte bytes) (byte_again byte (All-head (λ b. (b < 128) × (b ≢ 10)) byte bytes h))
    (line_again bytes (All-tail (λ b. (b < 128) × (b ≢ 10)) byte bytes h))

pub line_is_ascii : (bytes : List ℕ) → list_all is_line_byte bytes ≡ true → IsAscii bytes
line_is_ascii [] e i = omega arith
line_is_ascii (byte ∷ bytes) e zero = (byte_takes byte (and_parts (is_line_byte byte) (list_all is_line_byte bytes) e).0).0
line_is_ascii (byte ∷ bytes) e (suc i) = line_is_ascii bytes (and_parts (is_line_byte byte) (list_all is_line_byte bytes) e).1 i

pub is_ok_where : {A E : Type 0} (P : A → Type 0) (U : Type 0) (Q : E → Type 0) (r : Result A E) → MatchResult r P (λ e. (¬ U) × Q e) → U → IsOk r
is_ok_where P U Q (Ok x) h u = refl
is_ok_where P U Q (Err e) h u = absurd (h.0 u)
