-- What the values of a line say.
use Rattle.std.specs.Prelude.{⊤, ◌≡◌, ◌⊎◌, ◌<◌, ◌≤◌, ◌-◌, ◌^◌, ℕ, Bool, true, false, List, []}
use Rattle.std.specs.Prelude.{Option, Some, None, codes, option_map}
use Rattle.std.specs.Fmt.{decimal}
use Rattle.lw_types.specs.Hex.{eui_text, key_text}
use Rattle.lw_types.specs.Values.{IsKey}
use Rattle.lw_types.specs.declared.identifiers.Eui.{Eui}
use Rattle.device_changes.specs.declared.change.Amendment.{Amendment}
use Rattle.device_changes.specs.declared.change.Importing.{Importing}
use Rattle.lw_types.specs.declared.key.Key.{Key}
use Rattle.device_lists.specs.declared.column.Column.{Column}
use Rattle.device_lists.specs.declared.column.Column.TheVariants as c
use Rattle.device_lists.specs.declared.fault.LineFault.{LineFault}
use Rattle.device_lists.specs.declared.fault.LineFault.TheVariants as fault
use Rattle.device_lists.specs.declared.line_values.LineValues.{LineValues}
use Rattle.device_lists.specs.declared.reading.ListUse.{ListUse}
use Rattle.device_lists.specs.declared.reading.ListUse.TheVariants.{Import, Amend}
use denote.Ref.{Bor}

-- the text under a column, if the list has the column
abbrev pub text_in : Option (Bor (List ℕ)) → Option (List ℕ)
text_in field = option_map (λ f. f.now) field

-- there is no such column, or nothing under it
abbrev pub IsAbsent : Option (List ℕ) → Type 0
IsAbsent field = (field ≡ None) ⊎ (field ≡ Some [])

-- the text is that of a value
abbrev pub IsGiven : {T : Type 0} → (T → Type 0) → (T → List ℕ) → Option (List ℕ) → T → Type 0
IsGiven IsValue text_of field x = IsValue x × (field ≡ Some (text_of x))

-- the same, and a value for when there is no text
abbrev pub IsGivenOr : {T : Type 0} → (T → Type 0) → (T → List ℕ) → T → Option (List ℕ) → T → Type 0
IsGivenOr IsValue text_of default field x =
    (IsAbsent field × (x ≡ default)) ⊎ ((¬ (IsAbsent field)) × IsGiven IsValue text_of field x)

-- the same with no value for when there is no text
abbrev pub MayBeGiven : {T : Type 0} → (T → Type 0) → (T → List ℕ) → Option (List ℕ)
    → Option T → Type 0
MayBeGiven IsValue text_of field None = IsAbsent field
MayBeGiven IsValue text_of field (Some x) = (¬ (IsAbsent field)) × IsGiven IsValue text_of field x

-- ---- kinds of values

abbrev pub IsEui : Eui → Type 0
IsEui eui = eui.0 < 2 ^ 64

abbrev pub IsIn : ℕ → ℕ → ℕ → Type 0
IsIn least most n = (least ≤ n) × (n ≤ most)

-- a DevNonce (TS001-1.0.4 §6.2.5)
abbrev pub IsDevNonce : ℕ → Type 0
IsDevNonce n = n < 2 ^ 16

unfoldable pub yes_or_no : Bool → List ℕ
yes_or_no true = codes "yes"
yes_or_no false = codes "no"

-- ---- lines

-- what isn't used is right, too: the count of uplinks, and whether there is a session
pub record HasRest (f : LineValues) : Type 0 where
  pub heard : (n : Option ℕ) × MayBeGiven (IsIn 0 (2 ^ 63 - 1)) decimal (text_in f.heard) n
  pub session : (s : Option Bool) × MayBeGiven (λ _. ⊤) yes_or_no (text_in f.session) s

-- a line asks for an import
pub record IsImportOf (f : LineValues) (i : Importing) : Type 0 where
  pub dev_eui : IsGiven IsEui eui_text (text_in f.dev_eui) i.provisioning.dev_eui
  pub join_eui : IsGiven IsEui eui_text (text_in f.join_eui) i.provisioning.join_eui
  pub app_key : IsGiven IsKey key_text (text_in f.app_key) i.provisioning.app_key
  pub application : IsGiven (IsIn 0 15) decimal (text_in f.application) i.provisioning.application
  pub rx1_offset : IsGivenOr (IsIn 0 5) decimal 0 (text_in f.offset) i.provisioning.rx1_offset
  pub rx_delay : IsGivenOr (IsIn 1 15) decimal 1 (text_in f.delay) i.provisioning.rx_delay
  pub last_dev_nonce : MayBeGiven IsDevNonce decimal (text_in f.last_dev_nonce) i.last_dev_nonce
  pub last_join_nonce : IsGivenOr (IsIn 0 16777215) decimal 0 (text_in f.last_join_nonce)
      i.last_join_nonce
  pub rest : HasRest f

-- No column leaves the last DevNonce, and an empty value is none: the next one may be any.
abbrev pub IsNonceChange : Option (List ℕ) → Option (Option ℕ) → Type 0
IsNonceChange None change = change ≡ None
IsNonceChange (Some text) None = ⊥
IsNonceChange (Some text) (Some nonce) = MayBeGiven IsDevNonce decimal (Some text) nonce

-- a line asks for an amendment
pub record IsAmendmentOf (f : LineValues) (a : Amendment) : Type 0 where
  pub dev_eui : IsGiven IsEui eui_text (text_in f.dev_eui) a.dev_eui
  pub app_key : MayBeGiven IsKey key_text (text_in f.app_key) a.app_key
  pub application : MayBeGiven (IsIn 0 15) decimal (text_in f.application) a.application
  pub join_eui : MayBeGiven IsEui eui_text (text_in f.join_eui) a.join_eui
  pub rx1_offset : MayBeGiven (IsIn 0 5) decimal (text_in f.offset) a.rx1_offset
  pub rx_delay : MayBeGiven (IsIn 1 15) decimal (text_in f.delay) a.rx_delay
  pub last_dev_nonce : IsNonceChange (text_in f.last_dev_nonce) a.last_dev_nonce
  pub last_join_nonce : MayBeGiven (IsIn 0 16777215) decimal (text_in f.last_join_nonce)
      a.last_join_nonce
  pub rest : HasRest f

-- ---- faults

-- the text under a column, if the list has the column; names aren't kept
abbrev pub text_under : Column → LineValues → Option (List ℕ)
text_under c.DevEui f = text_in f.dev_eui
text_under c.JoinEui f = text_in f.join_eui
text_under c.AppKey f = text_in f.app_key
text_under c.Application f = text_in f.application
text_under c.Offset f = text_in f.offset
text_under c.Delay f = text_in f.delay
text_under c.LastDevNonce f = text_in f.last_dev_nonce
text_under c.LastJoinNonce f = text_in f.last_join_nonce
text_under c.Heard f = text_in f.heard
text_under c.Session f = text_in f.session
text_under c.Name f = None

-- the text is that of some value of the column
abbrev pub HasValue : Column → Option (List ℕ) → Type 0
HasValue c.DevEui field = (x : Eui) × IsGiven IsEui eui_text field x
HasValue c.JoinEui field = (x : Eui) × IsGiven IsEui eui_text field x
HasValue c.AppKey field = (x : Key) × IsGiven IsKey key_text field x
HasValue c.Application field = (n : ℕ) × IsGiven (IsIn 0 15) decimal field n
HasValue c.Offset field = (n : ℕ) × IsGiven (IsIn 0 5) decimal field n
HasValue c.Delay field = (n : ℕ) × IsGiven (IsIn 1 15) decimal field n
HasValue c.LastDevNonce field = (n : ℕ) × IsGiven IsDevNonce decimal field n
HasValue c.LastJoinNonce field = (n : ℕ) × IsGiven (IsIn 0 16777215) decimal field n
HasValue c.Heard field = (n : ℕ) × IsGiven (IsIn 0 (2 ^ 63 - 1)) decimal field n
HasValue c.Session field = (answer : Bool) × IsGiven (λ _. ⊤) yes_or_no field answer
HasValue c.Name field = Unit {0}

-- an import needs values of these columns, an amendment of the DevEUI alone
abbrev pub IsNeeded : ListUse → Column → Type 0
IsNeeded Import column =
    (column ≡ c.DevEui) ⊎ (column ≡ c.JoinEui) ⊎ (column ≡ c.AppKey) ⊎ (column ≡ c.Application)
IsNeeded Amend column = column ≡ c.DevEui

-- the text under a column is no value of it
abbrev pub IsWrongValue : Column → Option (List ℕ) → Type 0 → LineFault → Type 0
IsWrongValue column field Given wrong =
    (wrong ≡ fault.Value column) × (¬ (IsAbsent field)) × ¬ Given

-- the same, or there is no text
abbrev pub IsMissingOrWrong : Column → Option (List ℕ) → Type 0 → LineFault → Type 0
IsMissingOrWrong column field Given wrong =
    ((wrong ≡ fault.Missing column) × IsAbsent field) ⊎ IsWrongValue column field Given wrong

-- what is wrong with the values of a line
abbrev pub IsValuesFault : ListUse → LineValues → LineFault → Type 0
IsValuesFault usage f (fault.Missing column) =
    IsNeeded usage column × IsAbsent (text_under column f)
IsValuesFault usage f (fault.Value column) =
    (¬ (IsAbsent (text_under column f))) × ¬ (HasValue column (text_under column f))
IsValuesFault usage f fault.Count = ⊥
IsValuesFault usage f fault.Text = ⊥
IsValuesFault usage f (fault.UnknownColumn place) = ⊥
IsValuesFault usage f (fault.ColumnTwice column) = ⊥
IsValuesFault usage f (fault.Row row) = ⊥
