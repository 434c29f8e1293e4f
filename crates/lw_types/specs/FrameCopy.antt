-- A frame as one gateway heard it.
use Rattle.std.specs.Prelude.{ℕ, List}
use Rattle.lw_types.specs.declared.frame_copy.Reception.{Reception}
use Rattle.lw_types.specs.declared.frame_copy.FrameCopy.{FrameCopy}

-- the copy with these values: the stamp in microseconds, and the PHYPayload's bytes
abbrev pub frame_copy : Reception → ℕ → List ℕ → FrameCopy
frame_copy reception stamp phy_payload =
    record { reception = reception; stamp = stamp; phy_payload = phy_payload }
