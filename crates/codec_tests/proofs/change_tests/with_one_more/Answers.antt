use Rattle.std.proofs.Common.{ℕ, ◌≡◌, inl, subst}
use Rattle.devices.specs.Becoming.{AreProvisionedAlike, IsHeardAfter, MayBecome}
use Rattle.devices.specs.declared.device.Device.{Device}
use Rattle.codec_tests.proofs.change_tests.with_one_more.Goals as goal

-- other numbers, and then one more uplink
stepped : (before numbered : Device) (heard : ℕ) → AreProvisionedAlike before numbered → numbered.items ≡ before.items → numbered.heard ≡ before.heard → IsHeardAfter numbered.heard heard
    → MayBecome before (record numbered { heard = heard })
stepped before numbered heard alike same still moved = record {
  provisioned = record {
    dev_eui = alike.dev_eui;
    join_eui = alike.join_eui;
    app_key = alike.app_key;
    application = alike.application;
    rx1_offset = alike.rx1_offset;
    rx_delay = alike.rx_delay;
  };
  items = inl same;
  heard = subst (λ (found : ℕ). IsHeardAfter found heard) still moved;
}

pub returns : goal.returns
returns c =
    let numbered = c.in_ok-device.ensures in
    let heard = c.count.new.heard in
    subst (λ (d : Device). MayBecome d (record c.in_ok-device.device { heard = heard })) c.in-Ok.ensures
    (stepped c.in-Ok.copy c.in_ok-device.device heard numbered.0 numbered.1 numbered.2 c.in_ok-count.ensures)
