-- An uplink as the crate's functions pass it on.
use Rattle.std.specs.Prelude.{◌≡◌, ◌≤◌, ℕ, List, length}
use Rattle.phy_payload.specs.declared.data_frame.DataFrame.{DataFrame}
use Rattle.phy_payload.specs.Frame.{data_mic_input}

-- the frame's MIC is made over these bytes
pub record IsMicInputOf (frame : DataFrame) (mic_input : List ℕ) : Type 0 where
  pub is : mic_input ≡ data_mic_input frame
  pub short : length mic_input ≤ 251
