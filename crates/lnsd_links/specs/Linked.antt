-- Which gateways and applications have links.
use Rattle.std.specs.Prelude.{◌≡◌, ◌≢◌, ◌+◌, ◌&&◌, ◌||◌, ℕ, Bool, Option, Some, None, is_none}
use Rattle.std.specs.Prelude.{is_some, List, length, nat_eq, nat_lt, not, slice_index_or, true}
use Rattle.std.specs.List.{find}
use Rattle.std.specs.Option.{option_map, option_map_or}
use Rattle.lw_types.specs.declared.identifiers.Eui.{Eui}
use Rattle.gateway_wire.specs.declared.recipient.Recipient.{Recipient}
use Rattle.gateway_wire.specs.declared.recipient.Recipient.TheVariants.{Gateway, Application}
use Rattle.lnsd_links.specs.Names.{has_name}
use Rattle.lnsd_links.specs.declared.names.Directory.{Directory}
use Rattle.lnsd_links.specs.declared.names.HeldName.{HeldName}
use Rattle.lnsd_links.specs.declared.names.LinkedGateway.{LinkedGateway}
use Rattle.lnsd_links.specs.declared.names.TheConstants.{MOST_GATEWAYS}

abbrev pub is_link_of : Eui → LinkedGateway → Bool
is_link_of gateway linked = nat_eq linked.gateway.0 gateway.0

abbrev pub is_link_of_other : Eui → LinkedGateway → Bool
is_link_of_other gateway linked = not (is_link_of gateway linked)

abbrev pub gateway_link : Eui → List LinkedGateway → Option ℕ
gateway_link gateway linked = option_map (λ l. l.link) (find (is_link_of gateway) linked)

-- the link of a gateway or an application
abbrev pub link_of : Directory → Recipient → Option ℕ
link_of directory (Gateway gateway) = gateway_link gateway directory.gateways.items
link_of directory (Application application) =
    slice_index_or directory.applications application None

-- applications have rings of their own, from this one on, or none
abbrev pub own_ring : Option ℕ → ℕ → Option ℕ → Option ℕ
own_ring None application link = link
own_ring (Some first) application link = Some (first + application)

-- the ring through which a gateway or an application is sent to
abbrev pub ring_of : Directory → Recipient → Option ℕ
ring_of directory (Gateway gateway) = link_of directory (Gateway gateway)
ring_of directory (Application application) =
    own_ring directory.first_ring application (link_of directory (Application application))

-- at most this number of gateways have links
abbrev pub has_free_link : Directory → Recipient → Bool
has_free_link directory (Gateway gateway) = nat_lt (length directory.gateways.items) MOST_GATEWAYS
has_free_link directory (Application application) = Bool.true

-- this name is one of those that may greet; every name is if there is no list
abbrev pub is_listed : Directory → Recipient → Bool
is_listed directory name = option_map_or (λ list. has_name list name) directory.listed true

-- its name is listed and free, and there is room for it
abbrev pub may_greet : Directory → Recipient → Bool
may_greet directory name =
    is_listed directory name && (is_none (link_of directory name) && has_free_link directory name)

-- it already has a link, or there is room for it
abbrev pub has_link_or_room : Directory → Recipient → Bool
has_link_or_room directory name = is_some (link_of directory name) || has_free_link directory name

-- its name is listed, and it already has a link, or there is room for it
abbrev pub may_take_over : Directory → Recipient → Bool
may_take_over directory name = is_listed directory name && has_link_or_room directory name

-- a name has this link now, and each other name has the link that it had; the applications' rings
-- and the list of names stay as they were
pub record IsLinked (old : Directory) (name : Recipient) (link : ℕ) (new : Directory) : Type 0 where
  pub now : link_of new name ≡ Some link
  pub others : (other : Recipient) → other ≢ name → link_of new other ≡ link_of old other
  pub rings : new.first_ring ≡ old.first_ring
  pub listed : new.listed ≡ old.listed

-- this link has taken over this name
abbrev pub IsHeld : Recipient → ℕ → HeldName → Type 0
IsHeld name link held = (held.name ≡ name) × (held.link ≡ link)

-- a name has no link now, and each other name has the link that it had; the applications' rings
-- and the list of names stay as they were
pub record IsUnlinked (old : Directory) (name : Recipient) (new : Directory) : Type 0 where
  pub now : link_of new name ≡ None
  pub others : (other : Recipient) → other ≢ name → link_of new other ≡ link_of old other
  pub rings : new.first_ring ≡ old.first_ring
  pub listed : new.listed ≡ old.listed
