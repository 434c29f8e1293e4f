use Rattle.std.proofs.Common.{◌≤◌, length}
use Rattle.devices.specs.declared.TheConstants.{LAST_HEARD}
use Rattle.devices.specs.declared.device.Device.{Device}
use Rattle.devices.specs.declared.mac_queue.TheConstants.MacQueue.{MOST as LONGEST_MAC_QUEUE}
use Rattle.record_codec.specs.DeviceRecord.{spelling, IsHeardIn, IsToldBy}
use Rattle.record_codec.specs.Version.{longest_mac_queue}
use Rattle.record_codec.specs.declared.version.RecordVersion.{RecordVersion}
use Rattle.record_codec.specs.declared.version.RecordVersion.TheVariants.{V1, V2}
use Rattle.record_codec.proofs.Loop.{seven_written}
use Rattle.record_codec.proofs.device_record.put_device.Goals as goal

-- a version that can express a device has room for its queue and its count
has_room : (v : RecordVersion) (d : Device) → IsToldBy v d → length d.mac_queue ≤ LONGEST_MAC_QUEUE → length d.mac_queue ≤ longest_mac_queue v
has_room V1 d told few = told.mac_queue
has_room V2 d told few = few

has_count : (v : RecordVersion) (d : Device) → IsToldBy v d → d.heard ≤ LAST_HEARD → IsHeardIn v d.heard
has_count V1 d told most = told.heard
has_count V2 d told most = most

pub returns-clause-written : goal.returns-clause-written
unfolding spelling
returns-clause-written c =
    let queue = rw c.as_slice.ensures.bytes at c.in_ok-put_counted.ensures.written in
    seven_written _ _ _ _ _ _ _ _ _ _ _ _ _ _ _ c.in_ok-put_head.ensures.written c.in_ok-put_dev_nonce.ensures.written c.in_ok-put_activation.ensures.written c.in_ok-put_awaited.ensures.written queue c.in_ok-put_item_queue.ensures.written c.in_ok-put_heard.ensures.written

pub returns-clause-in_range : goal.returns-clause-in_range
returns-clause-in_range c =
    let queue = c.as_slice.ensures in
    record {
      head = c.in_ok-put_head.ensures.in_range;
      last_dev_nonce = c.in_ok-put_dev_nonce.ensures.in_range;
      activation = c.in_ok-put_activation.ensures.in_range;
      awaited = c.in_ok-put_awaited.ensures.in_range;
      mac_queue = (rw queue.bytes at c.in_ok-put_counted.ensures.in_range, has_room c.args.version c.args.device.now c.requires queue.few, queue.whole);
      items = c.in_ok-put_item_queue.ensures.in_range;
      heard = has_count c.args.version c.args.device.now c.requires c.in_ok-put_heard.ensures.most;
    }
