-- Why a life doesn't begin.
use Rattle.std.specs.Prelude.{◌≡◌, ⊤}
use Rattle.lw_types.specs.declared.refusal.Refusal.TheVariants.{OutOfMemory}
use Rattle.lnsd_operator.specs.declared.fault.ServeFault.{ServeFault}
use Rattle.lnsd_operator.specs.declared.fault.ServeFault.TheVariants.{Listen, Names, Refused}

-- links couldn't come in, or memory ran out
abbrev pub IsOfLinks : ServeFault → Type 0
IsOfLinks Listen = ⊤
IsOfLinks (Refused refusal) = refusal ≡ OutOfMemory
IsOfLinks (Names fault) = ⊥

-- the same, or the list of names wasn't taken
abbrev pub IsOfBeginning : ServeFault → Type 0
IsOfBeginning Listen = ⊤
IsOfBeginning (Refused refusal) = refusal ≡ OutOfMemory
IsOfBeginning (Names fault) = ⊤
