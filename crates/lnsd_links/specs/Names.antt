-- Lists of the names that may greet.
use Rattle.std.specs.Prelude.{◌≡◌, ◌+◌, ◌++◌, ◌∷◌, ◌⊎◌, ◌||◌, ⊤, ℕ, Bool, true, false, List}
use Rattle.std.specs.Prelude.{count_by, length, slice_index_or}
use Rattle.std.specs.List.{AllByRecursion, list_any}
use Rattle.lw_types.specs.declared.identifiers.Eui.{Eui}
use Rattle.gateway_wire.specs.declared.recipient.Recipient.{Recipient}
use Rattle.gateway_wire.specs.declared.recipient.Recipient.TheVariants.{Gateway, Application}
use Rattle.lnsd_operator.specs.declared.fault.NameListFault.{NameListFault}
use Rattle.lnsd_operator.specs.declared.fault.NameListFault.TheVariants as faults
pub use Rattle.lnsd_links.specs.NameLines.{lines_of}
use Rattle.lnsd_links.specs.NameLines.{is_line_of, is_remark, IsName, IsListLine, Lists}
use Rattle.lnsd_links.specs.Same.{is_same_eui, is_same_name}
use Rattle.lnsd_links.specs.declared.name_list.NameList.{NameList}

-- a list has this name
abbrev pub has_name : NameList → Recipient → Bool
has_name list (Gateway gateway) = list_any (is_same_eui gateway) list.gateways.items
has_name list (Application application) = slice_index_or list.applications application false

-- a list has this name, and the names that it had
abbrev pub HasAlso : NameList → Recipient → NameList → Type 0
HasAlso old name new = (other : Recipient)
    → has_name new other ≡ (has_name old other || is_same_name name other)

-- the number of names
abbrev pub number_of_names : NameList → ℕ
number_of_names list = length list.gateways.items + count_by (λ b. b) list.applications

-- why a name isn't added: it is a gateway after 64 others, or memory ran out
abbrev pub IsNotAdded : Recipient → NameList → NameListFault → Type 0
IsNotAdded (Gateway gateway) list faults.Gateways =
    (length list.gateways.items ≡ 64) × (has_name list (Gateway gateway) ≡ false)
IsNotAdded name list faults.OutOfMemory = ⊤
IsNotAdded name list fault = ⊥

-- a list has what it had, and what one more line lists
abbrev pub IsOneMore : List ℕ → NameList → NameList → Type 0
IsOneMore line old new =
    ((is_remark line ≡ true) × (new ≡ old))
    ⊎ ((name : Recipient) × (Lists line name × HasAlso old name new))

-- why what a line of this number lists isn't added: it isn't right, or the name isn't added
abbrev pub IsNotOneMore : List ℕ → ℕ → NameList → NameListFault → Type 0
IsNotOneMore line number list (faults.Line wrong) = (wrong ≡ number) × ¬ (IsListLine line)
IsNotOneMore line number list fault =
    (name : Recipient) × (Lists line name × IsNotAdded name list fault)

-- a list of these lines: each is right, and the list has the names that they list
pub record IsNameListOf (lines : List (List ℕ)) (list : NameList) : Type 0 where
  pub right : AllByRecursion IsListLine lines
  pub names : (name : Recipient) → IsName name
      → has_name list name ≡ list_any (is_line_of name) lines

-- this line, and these before it
abbrev pub AreBefore : List (List ℕ) → List ℕ → List (List ℕ) → Type 0
AreBefore before line lines = (after : List (List ℕ)) × (lines ≡ before ++ line ∷ after)

-- Why lines aren't taken as a list. The number is that of the first line that isn't right. Or a
-- line lists a gateway after 64 others. Or memory ran out.
abbrev pub IsNoNameListOf : List (List ℕ) → NameListFault → Type 0
IsNoNameListOf lines (faults.Line number) =
    (before : List (List ℕ)) × ((line : List ℕ) × (AreBefore before line lines
    × (AllByRecursion IsListLine before × ((number ≡ length before + 1) × ¬ (IsListLine line)))))
IsNoNameListOf lines faults.Gateways =
    (before : List (List ℕ)) × ((line : List ℕ) × (AreBefore before line lines
    × ((gateway : Eui) × ((others : NameList) × (Lists line (Gateway gateway)
    × (IsNameListOf before others × ((length others.gateways.items ≡ 64)
    × (has_name others (Gateway gateway) ≡ false))))))))
IsNoNameListOf lines faults.OutOfMemory = ⊤
IsNoNameListOf lines faults.File = ⊥
IsNoNameListOf lines faults.Places = ⊥
