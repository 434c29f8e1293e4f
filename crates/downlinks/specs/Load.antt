-- What goes into a downlink (TS001-1.0.4 §4.3.1.6, §5.1).
use Rattle.std.specs.Prelude.{◌+◌, ◌-◌, ◌==◌, ◌||◌, ℕ, Bool, not, nat_le, if◌then◌else◌, List, []}
use Rattle.std.specs.Prelude.{◌∷◌, ◌++◌, length, take, drop, slice_get, slice_index, Option, Some}
use Rattle.std.specs.Prelude.{None, is_some}
use Rattle.mac_commands.specs.Reading.{fitting_len}
use Rattle.region_eu868.specs.Region.{margin_of, max_payloads}
use Rattle.devices.specs.declared.device.Device.{Device}
use Rattle.devices.specs.declared.heard.Hearing.{Hearing}
use Rattle.devices.specs.declared.queue.Item.{Item}
use Rattle.downlinks.specs.declared.load.Demand.{Demand}

-- ---- FOpts

-- LinkCheckAns: its identifier, the margin of the copy that was heard best, and the number of
-- gateways that heard the uplink (§5.1)
abbrev pub link_check_ans : Demand → List ℕ
link_check_ans asked =
    2 ∷ margin_of asked.best.reception.snr asked.best.reception.data_rate ∷ asked.copies ∷ []

-- what the network answers by itself
abbrev pub own_answers : Demand → List ℕ
own_answers asked = if asked.link_check then link_check_ans asked else []

-- how many bytes of the device's MAC commands are sent: the longest beginning, in whole commands,
-- that keeps FOpts within 15 bytes (§4.3.1.6)
abbrev pub going_len : Device → Demand → ℕ
going_len d asked = fitting_len d.mac_queue (15 - length (own_answers asked))

-- FOpts: the network's answers, then MAC commands
abbrev pub f_opts_of : Device → Demand → List ℕ
f_opts_of d asked = own_answers asked ++ take (going_len d asked) d.mac_queue

-- ---- the item

-- the data rate of RX1: the uplink's less the RX1DROffset, at least 0
abbrev pub rx1_data_rate : Device → Hearing → ℕ
rx1_data_rate d best = best.reception.data_rate - d.rx1_offset

-- whether an item fits after FOpts: DevAddr, FCtrl and FCnt are 7 bytes of the MACPayload, and
-- FPort is one
abbrev pub fits : ℕ → List ℕ → Item → Bool
fits data_rate opts item =
    nat_le (7 + length opts + 1 + length item.payload) (slice_index max_payloads data_rate)

-- the item, if it fits
abbrev pub if_fits : ℕ → List ℕ → Option Item → Option Item
if_fits data_rate opts None = None
if_fits data_rate opts (Some item) = if fits data_rate opts item then Some item else None

-- the number of bytes of an item's payload, 0 if there is no item
abbrev pub item_len : Option Item → ℕ
item_len None = 0
item_len (Some item) = length item.payload

-- the item that is sent: the oldest, if it fits
abbrev pub fitting_item : Device → Demand → Option Item
fitting_item d asked =
    if_fits (rx1_data_rate d asked.best) (f_opts_of d asked) (slice_get d.items 0)

-- ---- the queues

-- whether anything waits in a queue
abbrev pub has_any : {A : Type 0} → List A → Bool
has_any queue = not (length queue == 0)

-- the items after one that is sent
abbrev pub items_behind : Option Item → List Item → List Item
items_behind None items = items
items_behind (Some item) items = drop 1 items

-- the device's record without what is sent
abbrev pub without_load : Device → Demand → Device
without_load d asked =
    record d {
      mac_queue = drop (going_len d asked) d.mac_queue;
      items = items_behind (fitting_item d asked) d.items;
    }

-- ---- when

-- whether a downlink is due: the uplink asks for one, MAC commands wait, or an item fits
abbrev pub is_downlink_due : Device → Demand → Bool
is_downlink_due d asked =
    asked.confirmed || (asked.adr_ack_req
    || (asked.link_check || (has_any d.mac_queue || is_some (fitting_item d asked))))
