-- What the functions that read a request return.
use Rattle.std.specs.Prelude.{◌≡◌, ℕ, ◌<◌, ◌^◌, ◌⊎◌, Bool, List, [], ◌∷◌, Result, Ok, Err}
use Rattle.std.specs.Fmt.{decimal}
use Rattle.lw_types.specs.Hex.{IsBytes, eui_text, field_text}
use Rattle.lw_types.specs.declared.identifiers.Eui.{Eui}
use Rattle.lw_types.specs.declared.refusal.Refusal.{Refusal}
use Rattle.lw_types.specs.declared.refusal.Refusal.TheVariants.{BadMessage, OutOfMemory}
use Rattle.devices.specs.declared.Tag.{Tag}
use Rattle.gateway_wire.specs.Request.{confirmed_text}

-- A reader finds a wanted value. It refuses with BadMessage only if there is none, and with
-- OutOfMemory only if there may be one.
abbrev pub Finds : {X : Type 0} → (X → Type 0) → Result X Refusal → Type 0
Finds IsWanted (Ok found) = IsWanted found
Finds {X} IsWanted (Err e) =
    ((e ≡ BadMessage) × ¬ ((x : X) × IsWanted x)) ⊎ ((e ≡ OutOfMemory) × ¬ ¬ ((x : X) × IsWanted x))

-- the bytes of the last word
abbrev pub AreLast : List (List ℕ) → List ℕ → Type 0
AreLast words bytes = IsBytes bytes × (words ≡ field_text bytes ∷ [])

-- an item's fields before its payload
abbrev pub AreItemFields : Eui → Tag → ℕ → Type 0
AreItemFields dev_eui tag port = (dev_eui.0 < 2 ^ 64) × (tag.0 < 2 ^ 32) × (port < 256)

abbrev pub item_words : Eui → Tag → ℕ → Bool → List (List ℕ) → List (List ℕ)
item_words dev_eui tag port confirmed rest =
    eui_text dev_eui ∷ decimal tag.0 ∷ decimal port ∷ confirmed_text confirmed ∷ rest
