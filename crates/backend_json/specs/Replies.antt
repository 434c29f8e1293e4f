-- What a join server replies to a text.
use Rattle.std.specs.Prelude.{◌≡◌, ◌==◌, ◌⊎◌, if◌then◌else◌, List, ℕ, Option, Some, None, Result}
use Rattle.std.specs.Prelude.{Ok, Err}
use Rattle.lw_types.specs.declared.refusal.Refusal.{Refusal}
use Rattle.lw_types.specs.declared.refusal.Refusal.TheVariants as refusals
use Rattle.join_server.specs.Request.{dev_eui_of, join_eui_of}
use Rattle.join_server.specs.Join.{answer_to}
use Rattle.join_server.specs.declared.state.JoinState.{JoinState}
use Rattle.join_server.specs.declared.ask.JoinAsk.{JoinAsk}
use Rattle.join_server.specs.declared.grant.JoinGrant.{JoinGrant}
use Rattle.backend_json.specs.declared.join_ans.Accepted.{Accepted}
use Rattle.backend_json.specs.declared.join_ans.Cause.{Cause}
use Rattle.backend_json.specs.declared.join_ans.Cause.TheVariants.{UnknownDevEui, WrongJoinEui}
use Rattle.backend_json.specs.declared.join_ans.Cause.TheVariants.{BadMic, DevNonceUsed}
use Rattle.backend_json.specs.declared.join_ans.Cause.TheVariants.{JoinNonceSpent, BadMessage}
use Rattle.backend_json.specs.declared.join_ans.JoinAns.{JoinAns}
use Rattle.backend_json.specs.Messages.{IsAsk, IsJoinReq, eui}

-- the cause of a refusal of the join server; it refuses for no other reason
abbrev pub cause_of : Refusal → Cause
cause_of refusals.WrongJoinEui = WrongJoinEui
cause_of refusals.BadMic = BadMic
cause_of refusals.DevNonceUsed = DevNonceUsed
cause_of refusals.JoinNonceSpent = JoinNonceSpent
cause_of e = BadMessage

abbrev pub accepted_of : JoinGrant → Accepted
accepted_of grant =
    record { app_skey = grant.app_skey; nwk_skey = grant.nwk_skey; accept = grant.accept }

-- the answer to a question, from the join server that was asked
abbrev pub ans_to : JoinAsk → Result Accepted Cause → JoinAns
ans_to ask result =
    record {
      receiver = ask.net_id;
      sender = eui (join_eui_of ask.request);
      result = result;
      transaction = ask.transaction;
    }

-- the join server's reply: its answer and, after a grant, the device's new state
abbrev pub server_reply : JoinAsk → Result (JoinState × JoinGrant) Refusal
    → JoinAns × Option JoinState
server_reply ask (Ok granted) = (ans_to ask (Ok (accepted_of granted.1)), Some granted.0)
server_reply ask (Err refusal) = (ans_to ask (Err (cause_of refusal)), None)

-- the reply to a question, and the device's state if it has changed
abbrev pub reply : JoinState → JoinAsk → JoinAns × Option JoinState
reply s ask =
    if dev_eui_of ask.request == s.dev_eui.0
    then server_reply ask (answer_to s ask)
    else (ans_to ask (Err UnknownDevEui), None)

-- the reply to a text that is no question
abbrev pub bad_message_reply : JoinState → JoinAns × Option JoinState
bad_message_reply s =
    (record { receiver = 0; sender = s.join_eui; result = Err BadMessage; transaction = 0 }, None)

-- each text has its reply
abbrev pub IsReply : JoinState → List ℕ → JoinAns × Option JoinState → Type 0
IsReply s text found =
    ((ask : JoinAsk) × IsAsk ask × IsJoinReq text ask × (found ≡ reply s ask))
    ⊎ (((ask : JoinAsk) → IsAsk ask → ¬ (IsJoinReq text ask)) × (found ≡ bad_message_reply s))
