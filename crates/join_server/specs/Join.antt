-- What a join server grants, and what it refuses (TS001-1.0.4 §6.2).
use Rattle.std.specs.Prelude.{◌==◌, ◌+◌, ◌^◌, ℕ, Bool, true, not, nat_eq, nat_lt, if◌then◌else◌}
use Rattle.std.specs.Prelude.{List, ◌∷◌, ◌++◌, Option, Some, Result, Ok, Err, unwrap_or, replicate}
use Rattle.std.specs.Option.{option_map_or}
use Rattle.std.specs.Result.{result_and}
use Rattle.std.specs.Int.{w32, to_le_bytes}
use Rattle.std.specs.Cmp.Lexicographic.{pointwise}
use Rattle.lw_types.specs.declared.refusal.Refusal.{Refusal}
use Rattle.lw_types.specs.declared.refusal.Refusal.TheVariants.{WrongJoinEui, BadMic, DevNonceUsed}
use Rattle.lw_types.specs.declared.refusal.Refusal.TheVariants.{JoinNonceSpent}
use Rattle.frame_crypt.specs.Joins.{join_mic, sealed_accept, session_key, three_le_bytes}
use Rattle.region_eu868.specs.Region.{cf_list}
use Rattle.join_server.specs.Request.{join_eui_of, dev_nonce_of, mic_input, request_mic}
use Rattle.join_server.specs.declared.state.JoinState.{JoinState}
use Rattle.join_server.specs.declared.ask.JoinAsk.{JoinAsk}
use Rattle.join_server.specs.declared.grant.JoinGrant.{JoinGrant}

-- the first DevNonce of a device may be any; each later one is above the last
abbrev pub is_later : Option ℕ → ℕ → Bool
is_later last dev_nonce = option_map_or (λ (l : ℕ). nat_lt l dev_nonce) last true

-- the JoinNonce that is granted next: first 1, then one above the last
abbrev pub next_join_nonce : Option ℕ → ℕ
next_join_nonce last = unwrap_or last 0 + 1

-- whether a join is granted; if not, the first reason against it
abbrev pub admission : JoinState → List ℕ → Result (Unit {0}) Refusal
admission s request =
    if not (join_eui_of request == s.join_eui.0) then Err WrongJoinEui
    else (if not (pointwise nat_eq (request_mic request)
    (join_mic s.app_key.0 (mic_input request))) then Err BadMic
    else (if not (is_later s.dev_nonce (dev_nonce_of request)) then Err DevNonceUsed
    else (if not (nat_lt (next_join_nonce s.join_nonce) (2 ^ 24)) then Err JoinNonceSpent
    else Ok tt)))

-- a Join-Accept before it is sealed: MHDR, JoinNonce (3), NetID (3), DevAddr (4), DLSettings and
-- RXDelay, low bytes first, the CFList (16), and four bytes for the MIC (§6.2.6)
abbrev pub accept_fields : ℕ → JoinAsk → List ℕ
accept_fields join_nonce ask =
    0x20 ∷ (three_le_bytes join_nonce
    ++ (three_le_bytes ask.net_id
    ++ (to_le_bytes w32 ask.dev_addr.0
    ++ (ask.dl_settings ∷ ask.rx_delay ∷ (cf_list ++ replicate 4 0)))))

-- what a device is granted: the keys for the next JoinNonce and this DevNonce (§6.2.6), and the
-- sealed accept
abbrev pub grant_of : JoinState → JoinAsk → JoinGrant
grant_of s ask =
    let join_nonce = next_join_nonce s.join_nonce in
    record {
      join_nonce = join_nonce;
      nwk_skey =
          record { 0 = session_key s.app_key.0 1 join_nonce ask.net_id (dev_nonce_of ask.request) };
      app_skey =
          record { 0 = session_key s.app_key.0 2 join_nonce ask.net_id (dev_nonce_of ask.request) };
      accept = sealed_accept s.app_key.0 (accept_fields join_nonce ask);
    }

-- the device's state after a granted join: both nonces are used, and nothing else has changed
abbrev pub state_after_join : JoinState → JoinAsk → JoinState
state_after_join s ask =
    record s {
      dev_nonce = Some (dev_nonce_of ask.request);
      join_nonce = Some (next_join_nonce s.join_nonce);
    }

-- the answer to a Join-Request
abbrev pub answer_to : JoinState → JoinAsk → Result (JoinState × JoinGrant) Refusal
answer_to s ask = result_and (admission s ask.request) (Ok (state_after_join s ask, grant_of s ask))
