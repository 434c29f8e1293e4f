-- A line of a record, and the session that it names.
use Rattle.std.proofs.Common.{◌≡◌, ◌≢◌, ℕ, ◌<◌, ◌^◌, List, length, get_or, Option, Some, sym, ap, ◌∙◌, arith}
use denote.Ref.{Bor}
use Rattle.std.specs.Fmt.{decimal}
use Rattle.std.specs.Int.{w64, to_be_bytes}
use Rattle.std.specs.Option.{MatchOption}
use Rattle.std.proofs.lemmas.Str.Pattern.{IsSplitOnceResult, split_after}
use Rattle.lw_types.specs.declared.identifiers.Eui.{Eui}
use Rattle.lw_types.specs.Hex.{eui_text, is_upper_digit}
use Rattle.lw_types.proofs.UpperHex.{upper-hex_text}
use Rattle.lw_types.proofs.ValueTexts.{IsBytes-high_first}
use Rattle.devices.specs.declared.mark.SessionName.{SessionName}
use Rattle.store_files.specs.Record.{session_text}

-- no comma stands in a DevEUI
no_comma : (eui : Eui) (i : ℕ) → i < length (eui_text eui) → get_or (eui_text eui) i 0 ≢ 44
unfolding eui_text
no_comma eui i lt e =
    let upper = upper-hex_text (to_be_bytes w64 eui.0) (IsBytes-high_first 8 eui.0) i 0 lt in
    absurd (let no = sym (ap is_upper_digit e) ∙ upper in cc no)

-- a session's line is parted at its comma
pub parted : (line : List ℕ) (r : Option (Bor (List ℕ) × Bor (List ℕ))) (s : SessionName) → IsSplitOnceResult 44 line r → line ≡ session_text s
    → MatchOption r ⊥ (λ x. (x.0.now ≡ eui_text s.dev_eui) × (x.1.now ≡ decimal s.join_nonce))
parted line r s h is = split_after 44 line (eui_text s.dev_eui) (decimal s.join_nonce) r h (omega arith) is (no_comma s.dev_eui)

pub same : {A : Type 0} (a b : A) → Some a ≡ Some b → a ≡ b
same a b e = cc e

-- a JoinNonce that is read isn't refused
pub is_granted : (v n : ℕ) → (0 < n) × (n < 2 ^ 24) → v ≡ n → (0 < v) × (v < 2 ^ 24)
is_granted v n range e = (omega (arith, range.0, e), omega (arith, range.1, e))
