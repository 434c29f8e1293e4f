-- The record that the network keeps of a device.
use Rattle.std.specs.Prelude.{ℕ, ◌+◌, nat_lt, if◌then◌else◌, None, []}
use Rattle.devices.specs.declared.command.Provisioning.{Provisioning}
use Rattle.devices.specs.declared.device.Device.{Device}
use Rattle.devices.specs.declared.TheConstants.{LAST_HEARD}
use Rattle.devices.specs.Activation.{no_grants}

-- the record of a device that was just provisioned: nothing granted, awaited, queued or heard
abbrev pub new_device : Provisioning → Device
new_device p =
    record {
      dev_eui = p.dev_eui;
      join_eui = p.join_eui;
      app_key = p.app_key;
      application = p.application;
      rx1_offset = p.rx1_offset;
      rx_delay = p.rx_delay;
      last_dev_nonce = None;
      activation = no_grants;
      awaited = None;
      mac_queue = [];
      items = [];
      heard = 0;
    }

-- the count of uplinks after one more; at its highest value it stays
abbrev pub one_more_heard : ℕ → ℕ
one_more_heard heard = if nat_lt heard LAST_HEARD then heard + 1 else heard
