-- Reading bytes from left to right, field by field.
use Rattle.std.specs.Prelude.{◌≡◌, ℕ, zero, suc, Bool, false, true, ◌&&◌, List, [], ◌∷◌, length}
use Rattle.std.specs.Prelude.{take, drop, nat_le, nat_lt, ◌==◌, if◌then◌else◌, Option, Some, None}
use Rattle.std.specs.Int.{Width, w32, w64, byte_len, from_be_bytes, from_le_bytes}
use Rattle.lw_types.specs.declared.identifiers.Eui.{Eui}
use Rattle.lw_types.specs.declared.key.Key.{Key}

-- a field at the front of some bytes, and the bytes after it; or nothing
abbrev pub Reader : Type 0 → Type 0
Reader X = List ℕ → Option (X × List ℕ)

infixl 10 ◌>>=◌
abbrev pub ◌>>=◌ : {A B : Type 0} → Option A → (A → Option B) → Option B
None >>= f = None
(Some x) >>= f = f x

-- ---- what a function returns

-- what a function returns, seen by view, and what it leaves to read, is what reading gives
abbrev pub GivesSeen : {X Y : Type 0} → (Y → X) → Option Y → List ℕ → Option (X × List ℕ) → Type 0
GivesSeen view (Some y) left read = read ≡ Some (view y, left)
GivesSeen view None left read = read ≡ None

-- what a function returns, and what it leaves to read, is what reading gives
abbrev pub Gives : {X : Type 0} → Option X → List ℕ → Option (X × List ℕ) → Type 0
Gives (Some x) left read = read ≡ Some (x, left)
Gives None left read = read ≡ None

-- ---- fields made of fields

-- two fields, one after the other
abbrev pub both : {X Y : Type 0} → Reader X → Reader Y → Reader (X × Y)
both first second bytes =
    first bytes >>= λ x. second x.1 >>= λ y. Some ((x.0, y.0), y.1)

-- a field seen as another value
abbrev pub seen_as : {X Y : Type 0} → (X → Y) → Reader X → Reader Y
seen_as f field bytes = field bytes >>= λ x. Some (f x.0, x.1)

-- a field that has to pass a test
abbrev pub that : {X : Type 0} → (X → Bool) → Reader X → Reader X
that test field bytes = field bytes >>= λ x. if test x.0 then Some x else None

-- a field that is all of the bytes
abbrev pub whole : {X : Type 0} → Reader X → List ℕ → Option X
whole field bytes = field bytes >>= λ x. if length x.1 == 0 then Some x.0 else None

-- ---- the first fields

abbrev pub front_at : ℕ → Reader (List ℕ)
front_at n bytes = if nat_lt (length bytes) n then None else Some (take n bytes, drop n bytes)

abbrev pub byte_at : Reader ℕ
byte_at [] = None
byte_at (byte ∷ rest) = Some (byte, rest)

-- a number, its lowest byte first
abbrev pub le_at : Width → Reader ℕ
le_at w = seen_as (from_le_bytes w) (front_at (byte_len w))

-- a number, its highest byte first
abbrev pub be_at : Width → Reader ℕ
be_at w = seen_as (from_be_bytes w) (front_at (byte_len w))

-- a number of three bytes, the highest first
abbrev pub three_be_bytes_at : Reader ℕ
three_be_bytes_at = seen_as (λ bytes. from_be_bytes w32 (0 ∷ bytes)) (front_at 3)

-- a byte of a range
abbrev pub ranged_at : ℕ → ℕ → Reader ℕ
ranged_at least most = that (λ n. nat_le least n && nat_le n most) byte_at

-- 00 or 01
abbrev pub flag_at : Reader Bool
flag_at [] = None
flag_at (zero ∷ rest) = Some (false, rest)
flag_at (suc zero ∷ rest) = Some (true, rest)
flag_at (suc (suc byte) ∷ rest) = None

-- a byte that gives a length, and this number of bytes
unfoldable pub counted_at : Reader (List ℕ)
counted_at bytes = byte_at bytes >>= λ n. front_at n.0 n.1

-- a flag and, after a 1, the field
abbrev pub optional_at : {X : Type 0} → Reader X → Reader (Option X)
optional_at field bytes =
    flag_at bytes >>= λ f. if f.0 then seen_as Some field f.1 else Some (None, f.1)

-- ---- names and keys

abbrev pub le_eui_at : Reader Eui
le_eui_at = seen_as (λ n. record { 0 = n }) (le_at w64)

abbrev pub be_eui_at : Reader Eui
be_eui_at = seen_as (λ n. record { 0 = n }) (be_at w64)

abbrev pub key_at : Reader Key
key_at = seen_as (λ bytes. record { 0 = bytes }) (front_at 16)
