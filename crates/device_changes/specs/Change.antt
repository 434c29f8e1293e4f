-- Changes of devices, as an operator asks for them.
use Rattle.std.specs.Prelude.{ℕ, ◌==◌, Bool, Option, List}
use Rattle.std.specs.List.{find, list_any}
use Rattle.device_changes.specs.declared.change.Change.{Change}
use Rattle.device_changes.specs.declared.change.Change.TheVariants.{Import, Amend, Retire}

-- the DevEUI of the device
abbrev pub row_name : Change → ℕ
row_name (Import i) = i.provisioning.dev_eui.0
row_name (Amend a) = a.dev_eui.0
row_name (Retire r) = r.dev_eui.0

-- whether one of the rows is of this DevEUI
abbrev pub is_named : List Change → ℕ → Bool
is_named rows dev_eui = list_any (λ c. row_name c == dev_eui) rows

-- the first row of this DevEUI
abbrev pub row_of : List Change → ℕ → Option Change
row_of rows dev_eui = find (λ c. row_name c == dev_eui) rows
