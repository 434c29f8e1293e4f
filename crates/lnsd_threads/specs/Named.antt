-- The recipient that a link's peer is for effects, and what happens to that name.
use Rattle.std.specs.Prelude.{◌≡◌, ⊤, ℕ, Result, Ok, Err}
use Rattle.lnsd_links.specs.NamesRead.{AreReadFrom}
use Rattle.lnsd_links.specs.declared.name_list.NameList.{NameList}
use Rattle.lnsd_links.specs.declared.names.HeldName.{HeldName}
use Rattle.lnsd_operator.specs.declared.fault.NameListFault.{NameListFault}
use Rattle.gateway_wire.specs.declared.recipient.Recipient.{Recipient}
use Rattle.gateway_wire.specs.declared.recipient.Recipient.TheVariants as names
use Rattle.link_messages.specs.declared.message.Peer.{Peer}
use Rattle.lnsd_threads.specs.declared.hosting.Farewell.{Farewell}
use Rattle.lnsd_threads.specs.declared.hosting.Farewell.TheVariants.{Left, Kept, Stays}
use Rattle.link_messages.specs.declared.message.Peer.TheVariants.{Gateway, Application}

abbrev pub peer_name : Peer → Recipient
peer_name (Gateway gateway) = names.Gateway gateway
peer_name (Application application) = names.Application application

-- this very name was left, for the link that had taken it over, unless the life ends or keeps its
-- links
abbrev pub IsFarewell : HeldName → Farewell → Type 0
IsFarewell held (Left left) = left.held ≡ held
IsFarewell held (Kept ending) = ⊤
IsFarewell held (Stays lasting) = ⊤

-- A source gave a list of fewer names than there are places. Otherwise this fault is the source's,
-- or it is `Places`, and the source gave at least as many names as there are places.
abbrev pub HaveBeenRead : (Result NameList NameListFault → Type 0) → ℕ
    → Result (Unit {0}) NameListFault → Type 0
HaveBeenRead Gives places (Ok done) =
    (list : NameList) × AreReadFrom Gives places (Ok list)
HaveBeenRead Gives places (Err fault) = AreReadFrom Gives places (Err fault)
