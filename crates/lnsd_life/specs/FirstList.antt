-- The list of names with which a life begins: only these names may greet.
use Rattle.std.specs.Prelude.{◌≡◌, ℕ, Option, None, Some, Result, Ok, Err, IsSomeAnd}
use denote.Ref.{Bor}
use Rattle.lnsd_operator.specs.declared.fault.NameListFault.{NameListFault}
use Rattle.lnsd_links.specs.NamesRead.{AreReadFrom}
use Rattle.lnsd_links.specs.declared.name_list.NameList.{NameList}

-- If there is a source, this is the list that it gave, which has fewer names than there are places.
-- Without a source there is no list.
abbrev pub IsFirstList : {S : Type 0} → (S → Result NameList NameListFault → Type 0)
    → Option (Bor S) → ℕ → Option NameList → Type 0
IsFirstList gives None places names = names ≡ None
IsFirstList gives (Some source) places names =
    IsSomeAnd names (λ list. AreReadFrom (gives source.now) places (Ok list))

-- why a life has no list: its source gave this fault, or the fault is `Places` and the source gave
-- at least as many names as there are places
abbrev pub IsListFault : {S : Type 0} → (S → Result NameList NameListFault → Type 0)
    → Option (Bor S) → ℕ → NameListFault → Type 0
IsListFault gives None places fault = ⊥
IsListFault gives (Some source) places fault = AreReadFrom (gives source.now) places (Err fault)
