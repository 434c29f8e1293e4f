-- What is printed for an error.
use Rattle.std.specs.Prelude.{ℕ, List, codes}
use Rattle.gate_log.specs.declared.error.RecoverError.{RecoverError}
use Rattle.gate_log.specs.declared.error.RecoverError.TheVariants.{Device, OutOfMemory, Damaged}

abbrev pub error_text : RecoverError → List ℕ
error_text Device = codes "the device failed"
error_text OutOfMemory = codes "out of memory"
error_text Damaged = codes "the area is damaged"
