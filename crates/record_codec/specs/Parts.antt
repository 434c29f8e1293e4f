-- Records and changes whose parts that need memory are elsewhere.
use Rattle.std.specs.Prelude.{◌≤◌, List, Option, Some, None, IfSome, length, option_map}
use Rattle.lw_types.specs.declared.payload.TheConstants.{LONGEST_PAYLOAD}
use Rattle.devices.specs.declared.mac_queue.TheConstants.MacQueue.{MOST as LONGEST_MAC_QUEUE}
use Rattle.devices.specs.declared.queue.Item.{Item}
use Rattle.devices.specs.declared.device.Device.{Device}
use Rattle.record_codec.specs.declared.parts.ItemPart.{ItemPart}
use Rattle.record_codec.specs.declared.queues.ItemParts.{ItemParts}
use Rattle.record_codec.specs.declared.device_record.RecordParts.{RecordParts}
use Rattle.record_codec.specs.declared.parts.GroupParts.{GroupParts}
use Rattle.record_codec.specs.Change.{Groups, ItemChange, Leaves, Added, MayGrow}
use Rattle.record_codec.specs.Reading.{items_in}
use Rattle.record_codec.specs.Version.{longest_mac_queue}
use Rattle.record_codec.specs.declared.version.RecordVersion.{RecordVersion}

-- the item, with a payload of its own
abbrev pub item_of_part : ItemPart → Item
item_of_part i =
    record { tag = i.tag; port = i.port; confirmed = i.confirmed; payload = i.payload.now }

-- the items that stand in the bytes
abbrev pub items_of_parts : ItemParts → List Item
items_of_parts i = items_in i.count i.bytes.now

-- the device, with queues of its own
abbrev pub device_of_parts : RecordParts → Device
device_of_parts r =
    record {
      dev_eui = r.dev_eui;
      join_eui = r.join_eui;
      app_key = r.app_key;
      application = r.application;
      rx1_offset = r.rx1_offset;
      rx_delay = r.rx_delay;
      last_dev_nonce = r.last_dev_nonce;
      activation = r.activation;
      awaited = r.awaited;
      mac_queue = r.mac_queue.now;
      items = items_of_parts r.items;
      heard = r.heard;
    }

-- ---- a change

abbrev pub item_change_of_parts : Option ItemPart → ItemChange
item_change_of_parts None = Leaves
item_change_of_parts (Some i) = Added (item_of_part i)

abbrev pub groups_of_parts : GroupParts → Groups
groups_of_parts g =
    record {
      nonces = g.nonces;
      current = g.current;
      counters = g.counters;
      pending = g.pending;
      awaited = g.awaited;
      mac_queue = option_map (λ bytes. bytes.now) g.mac_queue;
      items = option_map item_change_of_parts g.items;
      grew = g.grew;
    }

abbrev pub IsShortChange : Option ItemPart → Type 0
IsShortChange added = IfSome added (λ i. length i.payload.now ≤ LONGEST_PAYLOAD)

-- what needs memory is as long as allowed
pub record AreShort (g : GroupParts) : Type 0 where
  pub mac_queue : IfSome g.mac_queue (λ bytes. length bytes.now ≤ LONGEST_MAC_QUEUE)
  pub items : IfSome g.items IsShortChange

-- a version has room for the MAC queue, and for bit 7 if it is set
pub record FitVersion (version : RecordVersion) (g : GroupParts) : Type 0 where
  pub mac_queue : IfSome g.mac_queue (λ bytes. length bytes.now ≤ longest_mac_queue version)
  pub grew : MayGrow version g.grew
