-- Which record of a device may follow which.
use Rattle.std.specs.Prelude.{◌≡◌, ◌⊎◌, ◌<◌, ◌+◌, ℕ, List, [], ◌∷◌, ◌++◌}
use Rattle.devices.specs.declared.queue.Item.{Item}
use Rattle.devices.specs.declared.device.Device.{Device}
use Rattle.devices.specs.declared.TheConstants.{LAST_HEARD}

-- two records agree in what a device is provisioned with
pub record AreProvisionedAlike (before after : Device) : Type 0 where
  pub dev_eui : after.dev_eui ≡ before.dev_eui
  pub join_eui : after.join_eui ≡ before.join_eui
  pub app_key : after.app_key ≡ before.app_key
  pub application : after.application ≡ before.application
  pub rx1_offset : after.rx1_offset ≡ before.rx1_offset
  pub rx_delay : after.rx_delay ≡ before.rx_delay

-- the items that wait afterwards: the same, or without the first, or with one more at the end
abbrev pub AreItemsAfter : List Item → List Item → Type 0
AreItemsAfter before after =
    (after ≡ before)
    ⊎ (((first : Item) × (before ≡ first ∷ after))
    ⊎ ((item : Item) × (after ≡ before ++ item ∷ [])))

-- the count of uplinks afterwards: the same or, below its highest value, one more
abbrev pub IsHeardAfter : ℕ → ℕ → Type 0
IsHeardAfter before after = (after ≡ before) ⊎ ((before < LAST_HEARD) × (after ≡ before + 1))

-- what the device was provisioned with stays; at most one item comes or leaves, and at most one
-- uplink is counted
pub record MayBecome (before after : Device) : Type 0 where
  pub provisioned : AreProvisionedAlike before after
  pub items : AreItemsAfter before.items after.items
  pub heard : IsHeardAfter before.heard after.heard
