use Rattle.std.proofs.Common.{List, ◌≡◌, inl, subst}
use Rattle.devices.specs.Becoming.{AreItemsAfter, AreProvisionedAlike, MayBecome}
use Rattle.devices.specs.declared.device.Device.{Device}
use Rattle.devices.specs.declared.queue.Item.{Item}
use Rattle.codec_tests.proofs.change_tests.with_change.Goals as goal

-- other numbers, and then other items
stepped : (before numbered : Device) (items : List Item) → AreProvisionedAlike before numbered → numbered.items ≡ before.items → numbered.heard ≡ before.heard → AreItemsAfter numbered.items items
    → MayBecome before (record numbered { items = items })
stepped before numbered items alike same still moved = record {
  provisioned = record {
    dev_eui = alike.dev_eui;
    join_eui = alike.join_eui;
    app_key = alike.app_key;
    application = alike.application;
    rx1_offset = alike.rx1_offset;
    rx_delay = alike.rx_delay;
  };
  items = subst (λ (found : List Item). AreItemsAfter found items) same moved;
  heard = inl still;
}

pub returns : goal.returns
returns c =
    let numbered = c.in_ok-device.ensures in
    let items = c.change_items.new.queue in
    subst (λ (d : Device). MayBecome d (record c.in_ok-device.device { items = items })) c.in-Ok.ensures
    (stepped c.in-Ok.copy c.in_ok-device.device items numbered.0 numbered.1 numbered.2 c.in_ok-change_items.ensures)
