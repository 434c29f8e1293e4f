-- What the server's own commands print, once they are done.
use Rattle.std.specs.Prelude.{◌≡◌, ◌++◌, ◌∷◌, [], ℕ, Bool, true, false, List, Result, IfOk}
use Rattle.gateway_wire.specs.DeviceList.{last_line, list_text}
use Rattle.sessions.specs.Table.{TableState}
use Rattle.device_lists.specs.Export.{csv_text}
use Rattle.device_lists.specs.declared.export.AppKeys.{AppKeys}
use Rattle.device_lists.specs.declared.export.AppKeys.TheVariants.{Hidden, Shown}
use Rattle.store_edits.specs.declared.editing.EditCounts.{EditCounts}
use Rattle.store_files.specs.Report.{IsRestoredAs}
use Rattle.command_words.specs.declared.mode.Edit.{Edit}
use Rattle.command_words.specs.declared.mode.Edit.TheVariants as edit
use Rattle.command_words.specs.declared.mode.Mode.{Mode}
use Rattle.command_words.specs.declared.mode.Mode.TheVariants as mode
use Rattle.gateway_server.specs.declared.fault.Fault.{Fault}
use Rattle.gateway_server.specs.Lines.{counts_text}

-- whether AppKeys are exported
abbrev pub keys_shown : Bool → AppKeys
keys_shown true = Shown
keys_shown false = Hidden

-- `export` prints the list of a table's devices, with their AppKeys if these are asked for. The
-- other changes print some counts of changes.
abbrev pub PrintsOfEdit : Edit → List ℕ → Type 0
PrintsOfEdit (edit.Export file keys) text =
    (table : TableState) × (text ≡ csv_text (keys_shown keys) table.devices)
PrintsOfEdit other text = (counts : EditCounts) × (text ≡ counts_text counts)

-- lines, of which the last one is whole
abbrev pub EndsWithALine : List ℕ → Type 0
EndsWithALine text = (front : List ℕ) × (text ≡ front ++ 10 ∷ [])

-- `status` and `devices` print whole lines. `list` prints the devices of some table, with a number.
-- `copy` prints the last line of such a list. `restore` prints what is said of some table that was
-- restored with this number of grants. About the text of other commands nothing is said here.
abbrev pub Prints : Mode → List ℕ → Type 0
Prints (mode.Status file wait) text = EndsWithALine text
Prints (mode.Devices file) text = EndsWithALine text
Prints (mode.List file) text =
    (table : TableState) × ((seq : ℕ) × (text ≡ list_text table.devices seq))
Prints (mode.Copy file new) text =
    (devices : ℕ) × ((seq : ℕ) × (text ≡ last_line devices seq))
Prints (mode.Restore file new grants above) text =
    (table : TableState) × IsRestoredAs grants table text
Prints (mode.Edit edit) text = PrintsOfEdit edit text
Prints other text = Unit

-- whether a mode asks for a life of the server
abbrev pub asks_to_serve : Mode → Bool
asks_to_serve (mode.Serve file listen links) = true
asks_to_serve (mode.Run file listen links names) = true
asks_to_serve other = false

-- how a command of the server ends: if it is done, it prints this
abbrev pub EndsPrinting : Mode → Result (List ℕ) Fault → Type 0
EndsPrinting m outcome = IfOk outcome (Prints m)
