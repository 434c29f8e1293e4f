-- The answers of a join server, as the values that JSON texts are read as. The members come in the
-- byte order of their names, and there are no others.
use Rattle.std.specs.Prelude.{◌≡◌, ◌<◌, ◌^◌, ℕ, List, [], length, Some, codes, Result, Ok, Err}
use Rattle.std.specs.Prelude.{IfOk}
use Rattle.serde_json.specs.Data.{Data, Members, number, string, object, member, no_members}
use Rattle.serde_json.specs.Data.{unsigned}
use Rattle.serde_json.specs.Read.{read}
use Rattle.lw_types.specs.Hex.{IsBytes, eui_text, hex_text, key_text, net_id_text}
use Rattle.lw_types.specs.Values.{IsKey}
use Rattle.lw_types.specs.declared.key.Key.{Key}
use Rattle.lw_types.specs.declared.identifiers.Eui.{Eui}
use Rattle.backend_json.specs.declared.join_ans.Accepted.{Accepted}
use Rattle.backend_json.specs.declared.join_ans.Cause.{Cause}
use Rattle.backend_json.specs.declared.join_ans.Cause.TheVariants.{UnknownDevEui, WrongJoinEui}
use Rattle.backend_json.specs.declared.join_ans.Cause.TheVariants.{BadMic, DevNonceUsed}
use Rattle.backend_json.specs.declared.join_ans.Cause.TheVariants.{JoinNonceSpent, BadMessage}
use Rattle.backend_json.specs.declared.join_ans.JoinAns.{JoinAns}

-- a key is in an object of its own
abbrev pub aes_key : Key → Data
aes_key key = object (member (codes "AESKey") (string (key_text key)) no_members)

-- the ResultCode and the Description of a refusal
abbrev pub code_of : Cause → List ℕ
code_of UnknownDevEui = codes "UnknownDevEUI"
code_of WrongJoinEui = codes "JoinReqFailed"
code_of BadMic = codes "MICFailed"
code_of DevNonceUsed = codes "JoinReqFailed"
code_of JoinNonceSpent = codes "JoinReqFailed"
code_of BadMessage = codes "Other"

abbrev pub description_of : Cause → List ℕ
description_of UnknownDevEui = codes "unknown device"
description_of WrongJoinEui = codes "wrong join eui"
description_of BadMic = codes "bad mic"
description_of DevNonceUsed = codes "dev nonce used"
description_of JoinNonceSpent = codes "join nonce spent"
description_of BadMessage = codes "bad message"

abbrev pub result_object : List ℕ → List ℕ → Data
result_object code description =
    object (member (codes "Description") (string description)
    (member (codes "ResultCode") (string code) no_members))

abbrev pub result_of : Result Accepted Cause → Data
result_of (Ok accepted) = result_object (codes "Success") []
result_of (Err cause) = result_object (code_of cause) (description_of cause)

-- the members of every answer from ProtocolVersion on
abbrev pub members_behind : ℕ → Data → Eui → ℕ → Members
members_behind receiver result sender transaction =
    member (codes "ProtocolVersion") (string (codes "1.0"))
    (member (codes "ReceiverID") (string (net_id_text receiver))
    (member (codes "Result") result
    (member (codes "SenderID") (string (eui_text sender))
    (member (codes "TransactionID") (number (unsigned transaction))
    no_members))))

-- the members before those: for a granted join also the two keys and the accept
abbrev pub members_before : Result Accepted Cause → Members → Members
members_before (Ok accepted) rest =
    member (codes "AppSKey") (aes_key accepted.app_skey)
    (member (codes "MessageType") (string (codes "JoinAns"))
    (member (codes "NwkSKey") (aes_key accepted.nwk_skey)
    (member (codes "PHYPayload") (string (hex_text accepted.accept))
    rest)))
members_before (Err cause) rest = member (codes "MessageType") (string (codes "JoinAns")) rest

-- a JoinAns
abbrev pub join_ans : JoinAns → Data
join_ans ans =
    object (members_before ans.result
    (members_behind ans.receiver (result_of ans.result) ans.sender ans.transaction))

-- a text is this answer if it is read as it
abbrev pub IsJoinAns : List ℕ → JoinAns → Type 0
IsJoinAns text ans = read text ≡ Some (join_ans ans)

-- what holds of an answer's values by their types
abbrev pub IsSealed : List ℕ → Type 0
IsSealed accept = IsBytes accept × (length accept ≡ 33)

pub record AreKeys (accepted : Accepted) : Type 0 where
  pub app_skey : IsKey accepted.app_skey
  pub nwk_skey : IsKey accepted.nwk_skey
  pub accept : IsSealed accepted.accept

pub record IsAns (ans : JoinAns) : Type 0 where
  pub receiver : ans.receiver < 64
  pub sender : ans.sender.0 < 2 ^ 64
  pub result : IfOk ans.result AreKeys
  pub transaction : ans.transaction < 2 ^ 32
