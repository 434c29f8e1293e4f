-- An entry that was read.
use Rattle.store_layout.specs.declared.replaying.Entry.{Entry}
use Rattle.store_layout.specs.declared.replaying.Entry.TheVariants.{Whole as WholeRead}
use Rattle.store_layout.specs.declared.replaying.Entry.TheVariants.{Changed as ChangedRead}
use Rattle.store_layout.specs.Entries.{EntryValue}
use Rattle.store_layout.specs.Entries.EntryValue.{Whole, Changed}

-- what it says
abbrev pub value_of : Entry → EntryValue
value_of (WholeRead slot device) = Whole slot device
value_of (ChangedRead slot change) = Changed slot change.now
