-- The channels that a device was given (RP002-1.0.4, EU863-870).
use Rattle.std.specs.Prelude.{ℕ, Bool, List}
use Rattle.region_eu868.specs.Region.{channels, first_channels, is_among}
use Rattle.devices.specs.declared.channels.Channels.{Channels}
use Rattle.devices.specs.declared.channels.Channels.TheVariants.{Three, Eight}

-- the channels of a session: the first three, or all eight
abbrev pub channels_of : Channels → List ℕ
channels_of Three = first_channels
channels_of Eight = channels

-- whether the device of such a session may send at a frequency
abbrev pub may_use : Channels → ℕ → Bool
may_use given frequency = is_among (channels_of given) frequency
