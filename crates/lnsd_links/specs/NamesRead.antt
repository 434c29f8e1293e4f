-- How a list of names is read for a life.
use Rattle.std.specs.Prelude.{◌<◌, ◌≤◌, ◌≡◌, ◌⊎◌, ℕ, Result, Ok, Err}
use Rattle.lnsd_operator.specs.declared.fault.NameListFault.{NameListFault}
use Rattle.lnsd_operator.specs.declared.fault.NameListFault.TheVariants as faults
use Rattle.lnsd_links.specs.Names.{number_of_names}
use Rattle.lnsd_links.specs.declared.name_list.NameList.{NameList}

-- The result is a list that the source gave, with fewer names than there are places; or a fault
-- that the source gave; or `Places`, if the source gave at least as many names as places. `Gives`
-- is what the source may give.
abbrev pub AreReadFrom : (Result NameList NameListFault → Type 0) → ℕ
    → Result NameList NameListFault → Type 0
AreReadFrom Gives places (Ok list) = Gives (Ok list) × (number_of_names list < places)
AreReadFrom Gives places (Err fault) =
    Gives (Err fault)
    ⊎ ((fault ≡ faults.Places)
    × ((list : NameList) × (Gives (Ok list) × (places ≤ number_of_names list))))
