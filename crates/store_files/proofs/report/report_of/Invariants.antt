use Rattle.std.proofs.Common.{◌≡◌, ◌++◌, take}
use Rattle.std.specs.String.{string_bytes}
use Rattle.store_files.specs.Report.{above_lines, head_text}
use Rattle.store_files.proofs.report.report_of.Given as goal

abbrev pub invariant-loop-device : goal.invariant-loop-device
invariant-loop-device l = string_bytes l.text ≡ head_text l.recorded l.fn.devices ++ above_lines (take l.device-index l.devices)
