-- No two messages have the same value.
use Rattle.std.proofs.Common.{rules, ◌≡◌, ℕ, List, [], ◌∷◌, ◌<◌, ◌^◌, ◌==◌, if◌then◌else◌, codes, length, refl, sym, ap, ◌∙◌}
use Rattle.std.specs.Prelude.{get_or, slice_index, Result, Ok, Err, IfOk}
use Rattle.serde_json.specs.Data.{Data, Members}
use Rattle.lw_types.specs.Hex.{IsBytes, dev_addr_text, eui_text, hex_text, key_text, net_id_text}
use Rattle.lw_types.specs.declared.identifiers.DevAddr.{DevAddr}
use Rattle.lw_types.specs.declared.identifiers.Eui.{Eui}
use Rattle.lw_types.specs.declared.key.Key.{Key}
use Rattle.join_server.specs.declared.ask.JoinAsk.{JoinAsk}
use Rattle.backend_json.specs.declared.join_ans.Accepted.{Accepted}
use Rattle.backend_json.specs.declared.join_ans.Cause.{Cause}
use Rattle.backend_json.specs.declared.join_ans.Cause.TheVariants.{UnknownDevEui, WrongJoinEui, BadMic, DevNonceUsed, JoinNonceSpent, BadMessage}
use Rattle.backend_json.specs.declared.join_ans.JoinAns.{JoinAns}
use Rattle.backend_json.specs.Messages.{IsAsk, join_req}
use Rattle.backend_json.specs.Answers.{AreKeys, IsAns, aes_key, members_behind, description_of, join_ans, members_before, result_of}
use Rattle.backend_json.proofs.Equal.{inside, behind, at_front, key_at_front, same_text, same_number}

-- the laws about the texts of values
pub record TextLaws : Type 0 where
  pub hex : (a b : List ℕ) → IsBytes a → IsBytes b → hex_text a ≡ hex_text b → a ≡ b
  pub euis : (a b : Eui) → a.0 < 2 ^ 64 → b.0 < 2 ^ 64 → eui_text a ≡ eui_text b → a ≡ b
  pub addresses : (a b : DevAddr) → a.0 < 2 ^ 32 → b.0 < 2 ^ 32 → dev_addr_text a ≡ dev_addr_text b → a ≡ b
  pub networks : (a b : ℕ) → a < 64 → b < 64 → net_id_text a ≡ net_id_text b → a ≡ b
  pub keys : (a b : Key) → IsBytes a.0 → IsBytes b.0 → key_text a ≡ key_text b → a ≡ b

one_byte : (x : ℕ) → x < 2 ^ 8 → IsBytes (x ∷ [])
one_byte x few = search rules

ask_of : ℕ → DevAddr → ℕ → ℕ → List ℕ → ℕ → JoinAsk
ask_of net_id dev_addr dl_settings rx_delay request transaction =
    record {
      net_id = net_id;
      dev_addr = dev_addr;
      dl_settings = dl_settings;
      rx_delay = rx_delay;
      request = request;
      transaction = transaction;
    }

pub same_question : TextLaws → (a b : JoinAsk) → IsAsk a → IsAsk b → join_req a ≡ join_req b → a ≡ b
unfolding ask_of
same_question laws a b ia ib e =
    let r0 = behind refl (inside e) in
    let r1 = behind refl r0 in
    let r2 = behind refl r1 in
    let r3 = behind refl r2 in
    let r4 = behind refl r3 in
    let r5 = behind refl r4 in
    let r6 = behind refl r5 in
    let r7 = behind refl r6 in
    let r8 = behind refl r7 in
    let r9 = behind refl r8 in
    let r10 = behind refl r9 in
    let settings = laws.hex (a.dl_settings ∷ []) (b.dl_settings ∷ []) (one_byte a.dl_settings ia.dl_settings) (one_byte b.dl_settings ib.dl_settings) (same_text (at_front refl r0)) in
    let dl_settings : a.dl_settings ≡ b.dl_settings = ap (λ (l : List ℕ). get_or l 0 0) settings in
    let dev_addr = laws.addresses a.dev_addr b.dev_addr ia.dev_addr ib.dev_addr (same_text (at_front refl r1)) in
    let request = laws.hex a.request b.request ia.request.1 ib.request.1 (same_text (at_front refl r5)) in
    let rx_delay : a.rx_delay ≡ b.rx_delay = same_number (at_front refl r8) in
    let net_id = laws.networks a.net_id b.net_id ia.net_id ib.net_id (same_text (at_front refl r9)) in
    let transaction : a.transaction ≡ b.transaction = same_number (at_front refl r10) in
    ap (λ (x : ℕ). ask_of x a.dev_addr a.dl_settings a.rx_delay a.request a.transaction) net_id
    ∙ ap (λ (x : DevAddr). ask_of b.net_id x a.dl_settings a.rx_delay a.request a.transaction) dev_addr
    ∙ ap (λ (x : ℕ). ask_of b.net_id b.dev_addr x a.rx_delay a.request a.transaction) dl_settings
    ∙ ap (λ (x : ℕ). ask_of b.net_id b.dev_addr b.dl_settings x a.request a.transaction) rx_delay
    ∙ ap (λ (x : List ℕ). ask_of b.net_id b.dev_addr b.dl_settings b.rx_delay x a.transaction) request
    ∙ ap (λ (x : ℕ). ask_of b.net_id b.dev_addr b.dl_settings b.rx_delay b.request x) transaction

-- each description belongs to one cause
described : List ℕ → Cause
described s =
    if slice_index s 0 == 117 then UnknownDevEui
    else if slice_index s 0 == 119 then WrongJoinEui
    else if slice_index s 0 == 100 then DevNonceUsed
    else if slice_index s 0 == 106 then JoinNonceSpent
    else if length s == 7 then BadMic
    else BadMessage

described-of : (cause : Cause) → described (description_of cause) ≡ cause
unfolding described
described-of UnknownDevEui = refl
described-of WrongJoinEui = refl
described-of BadMic = refl
described-of DevNonceUsed = refl
described-of JoinNonceSpent = refl
described-of BadMessage = refl

-- the ends of two answers whose outcomes are one value
pub record SameEnds (a b : JoinAns) : Type 0 where
  pub receiver : a.receiver ≡ b.receiver
  pub sender : a.sender ≡ b.sender
  pub transaction : a.transaction ≡ b.transaction

same_ends : TextLaws → (a b : JoinAns) → IsAns a → IsAns b → (x y : Data)
    → members_behind a.receiver x a.sender a.transaction ≡ members_behind b.receiver y b.sender b.transaction → SameEnds a b × (x ≡ y)
same_ends laws a b ia ib x y e =
    let r1 = behind refl e in
    let r2 = behind refl r1 in
    let r3 = behind refl r2 in
    let r4 = behind refl r3 in (
      record {
        receiver = laws.networks a.receiver b.receiver ia.receiver ib.receiver (same_text (at_front refl r1));
        sender = laws.euis a.sender b.sender ia.sender ib.sender (same_text (at_front refl r3));
        transaction = same_number (at_front refl r4);
      },
      at_front refl r2,
    )

ans_of : ℕ → Eui → Result Accepted Cause → ℕ → JoinAns
ans_of receiver sender result transaction = record { receiver = receiver; sender = sender; result = result; transaction = transaction }

with_same : (a b : JoinAns) → SameEnds a b → a.result ≡ b.result → a ≡ b
unfolding ans_of
with_same a b ends result =
    ap (λ (x : ℕ). ans_of x a.sender a.result a.transaction) ends.receiver
    ∙ ap (λ (x : Eui). ans_of b.receiver x a.result a.transaction) ends.sender
    ∙ ap (λ (x : Result Accepted Cause). ans_of b.receiver b.sender x a.transaction) result
    ∙ ap (λ (x : ℕ). ans_of b.receiver b.sender b.result x) ends.transaction

same_key : TextLaws → (a b : Key) → IsBytes a.0 → IsBytes b.0 → aes_key a ≡ aes_key b → a ≡ b
same_key laws a b ia ib e = laws.keys a b ia ib (same_text (at_front refl (inside e)))

accepted_of : Key → Key → List ℕ → Accepted
accepted_of app_skey nwk_skey accept = record { app_skey = app_skey; nwk_skey = nwk_skey; accept = accept }

same_accepted : TextLaws → (x y : Accepted) → AreKeys x → AreKeys y → (m n : Members) → members_before (Ok x) m ≡ members_before (Ok y) n → (x ≡ y) × (m ≡ n)
unfolding accepted_of
same_accepted laws x y ix iy m n e =
    let r1 = behind refl e in
    let r2 = behind refl r1 in
    let r3 = behind refl r2 in (
      ap (λ (k : Key). accepted_of k x.nwk_skey x.accept) (same_key laws x.app_skey y.app_skey ix.app_skey.0 iy.app_skey.0 (at_front refl e))
          ∙ ap (λ (k : Key). accepted_of y.app_skey k x.accept) (same_key laws x.nwk_skey y.nwk_skey ix.nwk_skey.0 iy.nwk_skey.0 (at_front refl r2))
          ∙ ap (λ (l : List ℕ). accepted_of y.app_skey y.nwk_skey l) (laws.hex x.accept y.accept ix.accept.0 iy.accept.0 (same_text (at_front refl r3))),
      behind refl r3,
    )

-- the first members of a grant and of a refusal have other names
two_names : codes "AppSKey" ≡ codes "MessageType" → ⊥
two_names e = search rules

-- the members of an answer with this result
members_of_ans : JoinAns → Result Accepted Cause → Members
members_of_ans a result = members_before result (members_behind a.receiver (result_of result) a.sender a.transaction)

by_results : TextLaws → (a b : JoinAns) → IsAns a → IsAns b → (x y : Result Accepted Cause) → a.result ≡ x → b.result ≡ y
    → IfOk x AreKeys → IfOk y AreKeys → members_of_ans a x ≡ members_of_ans b y → a ≡ b
unfolding members_of_ans
by_results laws a b ia ib (Ok x) (Ok y) ax by ix iy e =
    let parts = same_accepted laws x y ix iy _ _ e in
    let ends = same_ends laws a b ia ib _ _ parts.1 in
    with_same a b ends.0 (ax ∙ ap Ok parts.0 ∙ sym by)
by_results laws a b ia ib (Err x) (Err y) ax by ix iy e =
    let ends = same_ends laws a b ia ib (result_of (Err x)) (result_of (Err y)) (behind refl e) in
    let description = same_text (at_front refl (inside ends.1)) in
    let cause : x ≡ y = sym (described-of x) ∙ ap described description ∙ described-of y in
    with_same a b ends.0 (ax ∙ ap Err cause ∙ sym by)
by_results laws a b ia ib (Ok x) (Err y) ax by ix iy e = elim (two_names (key_at_front e)) [ ]
by_results laws a b ia ib (Err x) (Ok y) ax by ix iy e = elim (two_names (sym (key_at_front e))) [ ]

pub same_answer : TextLaws → (a b : JoinAns) → IsAns a → IsAns b → join_ans a ≡ join_ans b → a ≡ b
unfolding members_of_ans
same_answer laws a b ia ib e = by_results laws a b ia ib a.result b.result refl refl ia.result ib.result (inside e)
