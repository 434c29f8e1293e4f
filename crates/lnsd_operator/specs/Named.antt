-- What a frame says about its sender, before its MIC is checked.
use Rattle.std.specs.Prelude.{Result, Ok, Err}
use Rattle.lw_types.specs.declared.refusal.Refusal.{Refusal}
use Rattle.phy_payload.specs.declared.phy.Phy.{Phy}
use Rattle.phy_payload.specs.declared.phy.Phy.TheVariants as phy
use Rattle.lnsd_operator.specs.declared.frame_name.FrameName.{FrameName}
use Rattle.lnsd_operator.specs.declared.frame_name.FrameName.TheVariants.{JoinRequest, Data, Other}

-- A Join-Request's DevEUI and DevNonce, a data frame's DevAddr and counter; anything else has no
-- name.
abbrev pub said_name : Result Phy Refusal → FrameName
said_name (Ok (phy.JoinRequest request)) = JoinRequest request.dev_eui request.dev_nonce
said_name (Ok (phy.DataFrame frame)) = Data frame.dev_addr frame.f_cnt
said_name (Ok (phy.JoinAccept accept)) = Other
said_name (Err refusal) = Other
