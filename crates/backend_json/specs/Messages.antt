-- The messages between a network and its join server, as the values that JSON texts are read as.
-- The members come in the byte order of their names, and there are no others.
use Rattle.std.specs.Prelude.{◌≡◌, ◌<◌, ◌≤◌, ◌^◌, ℕ, List, [], ◌∷◌, Some, codes}
use Rattle.serde_json.specs.Data.{Data, Members, number, string, object, member, no_members}
use Rattle.serde_json.specs.Data.{unsigned}
use Rattle.serde_json.specs.Read.{read}
use Rattle.lw_types.specs.Hex.{IsBytes, dev_addr_text, eui_text, hex_text, net_id_text}
use Rattle.lw_types.specs.declared.identifiers.DevAddr.{DevAddr}
use Rattle.lw_types.specs.declared.identifiers.Eui.{Eui}
use Rattle.region_eu868.specs.Region.{cf_list}
use Rattle.join_server.specs.Request.{IsRequest, dev_eui_of, join_eui_of}
use Rattle.join_server.specs.declared.ask.JoinAsk.{JoinAsk}

abbrev pub eui : ℕ → Eui
eui n = record { 0 = n }

-- the channels that an accept has to add; always the same
abbrev pub cf_list_member : Members → Members
cf_list_member rest = member (codes "CFList") (string (hex_text cf_list)) rest

-- the members of a question after the CFList, up to MessageType
abbrev pub device_members : ℕ → DevAddr → Eui → Members → Members
device_members dl_settings dev_addr dev_eui rest =
    member (codes "DLSettings") (string (hex_text (dl_settings ∷ [])))
    (member (codes "DevAddr") (string (dev_addr_text dev_addr))
    (member (codes "DevEUI") (string (eui_text dev_eui))
    (member (codes "MACVersion") (string (codes "1.0.4"))
    (member (codes "MessageType") (string (codes "JoinReq"))
    rest))))

-- the members from RxDelay on
abbrev pub network_members : ℕ → ℕ → ℕ → Members
network_members rx_delay net_id transaction =
    member (codes "RxDelay") (number (unsigned rx_delay))
    (member (codes "SenderID") (string (net_id_text net_id))
    (member (codes "TransactionID") (number (unsigned transaction))
    no_members))

-- a JoinReq: the question of a network
abbrev pub join_req : JoinAsk → Data
join_req ask =
    object
    (cf_list_member
    (device_members ask.dl_settings ask.dev_addr (eui (dev_eui_of ask.request))
    (member (codes "PHYPayload") (string (hex_text ask.request))
    (member (codes "ProtocolVersion") (string (codes "1.0"))
    (member (codes "ReceiverID") (string (eui_text (eui (join_eui_of ask.request))))
    (network_members ask.rx_delay ask.net_id ask.transaction))))))

-- a text is this message if it is read as it
abbrev pub IsJoinReq : List ℕ → JoinAsk → Type 0
IsJoinReq text ask = read text ≡ Some (join_req ask)

-- what holds of a question's values by their types
pub record IsAsk (ask : JoinAsk) : Type 0 where
  pub net_id : ask.net_id < 64
  pub dev_addr : ask.dev_addr.0 < 2 ^ 32
  pub dl_settings : ask.dl_settings < 2 ^ 8
  pub rx_delay : (1 ≤ ask.rx_delay) × (ask.rx_delay ≤ 15)
  pub request : IsRequest ask.request × IsBytes ask.request
  pub transaction : ask.transaction < 2 ^ 32
