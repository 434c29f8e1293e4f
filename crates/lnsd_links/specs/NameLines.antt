-- The lines of a list of names.
use Rattle.std.specs.Prelude.{◌≡◌, ◌<◌, ◌∷◌, ◌⊎◌, ◌^◌, ◌==◌, ℕ, Bool, true, List, []}
use Rattle.std.specs.Prelude.{Option, None, Some, codes}
use denote.Ref.{Bor}
use Rattle.std.specs.Fmt.{decimal}
use Rattle.std.specs.List.{slice_split}
use Rattle.std.specs.Str.{bytes_eq}
use Rattle.lw_types.specs.Hex.{eui_text}
use Rattle.lw_types.specs.Words.{line_of}
use Rattle.gateway_wire.specs.declared.recipient.Recipient.{Recipient}
use Rattle.gateway_wire.specs.declared.recipient.Recipient.TheVariants.{Gateway, Application}

-- a text of n newlines has n + 1 lines, some of which may be empty
unfoldable pub lines_of : List ℕ → List (List ℕ)
lines_of text = slice_split (λ c. c == 10) text

-- the lines of the rest of a text, if there is a rest
abbrev pub lines_in : Option (Bor (List ℕ)) → List (List ℕ)
lines_in None = []
lines_in (Some rest) = lines_of rest.now

-- the words of the line that lists a name
abbrev pub listing_words : Recipient → List (List ℕ)
listing_words (Gateway gateway) = codes "gateway" ∷ eui_text gateway ∷ []
listing_words (Application application) = codes "application" ∷ decimal application ∷ []

-- the name is in range
abbrev pub IsName : Recipient → Type 0
IsName (Gateway gateway) = gateway.0 < 2 ^ 64
IsName (Application application) = application < 16

-- a line lists this name
abbrev pub Lists : List ℕ → Recipient → Type 0
Lists line name = IsName name × (line ≡ line_of (listing_words name))

-- a line lists nothing: it is empty, or begins with `#`
abbrev pub is_remark : List ℕ → Bool
is_remark [] = true
is_remark (c ∷ rest) = c == 35

-- a line that a list may have
abbrev pub IsListLine : List ℕ → Type 0
IsListLine line = (is_remark line ≡ true) ⊎ ((name : Recipient) × Lists line name)

-- the line lists this name, whose range isn't looked at
abbrev pub is_line_of : Recipient → List ℕ → Bool
is_line_of name line = bytes_eq line (line_of (listing_words name))
