-- What the texts of a question and of its answer imply about the join server's answer.
use Rattle.std.proofs.Common.{◌≡◌, ◌<◌, arith, ◌∙◌, ◌⊎◌, inl, inr, ℕ, Bool, true, false, not, MatchBool, cond, List, Option, Some, None, Result, Ok, Err, sym, ap, subst, refl}
use Rattle.std.specs.Option.{unwrap_or}
use Rattle.std.specs.Result.{MatchResult, result_and}
use Rattle.lw_types.specs.Answer.{Answers, AnswersWithMemory}
use Rattle.std.proofs.lemmas.Bool.{eq-eqb}
use Rattle.lw_types.specs.declared.refusal.Refusal.{Refusal}
use Rattle.lw_types.specs.declared.refusal.Refusal.TheVariants.{OutOfMemory, WrongJoinEui, BadMic, DevNonceUsed, JoinNonceSpent}
use Rattle.join_server.specs.Request.{dev_eui_of}
use Rattle.join_server.specs.Join.{admission, answer_to, grant_of, state_after_join, next_join_nonce}
use Rattle.join_server.specs.declared.ask.JoinAsk.{JoinAsk}
use Rattle.join_server.specs.declared.grant.JoinGrant.{JoinGrant}
use Rattle.join_server.specs.declared.state.JoinState.{JoinState}
use Rattle.backend_json.specs.declared.join_ans.Accepted.{Accepted}
use Rattle.backend_json.specs.declared.join_ans.Cause.{Cause}
use Rattle.backend_json.specs.declared.join_ans.Cause.TheVariants.{UnknownDevEui}
use Rattle.backend_json.specs.declared.join_ans.JoinAns.{JoinAns}
use Rattle.backend_json.specs.Answers.{IsAns, IsJoinAns}
use Rattle.backend_json.specs.Messages.{IsAsk, IsJoinReq}
use Rattle.backend_json.specs.Replies.{IsReply, accepted_of, ans_to, cause_of, reply, server_reply}
use Rattle.devices.specs.declared.device.Device.{Device}
use Rattle.devices.specs.declared.heard.Hearing.{Hearing}
use Rattle.uplinks.specs.Chain.{◌>>=◌}
use Rattle.devices.specs.DeviceStep.{DeviceStep}
use Rattle.devices.specs.declared.command.Command.TheVariants.{Heard as HeardCommand}
use Rattle.devices.specs.declared.heard.Heard.{Heard}
use Rattle.sessions.specs.Decision.{AnswersTo, is_frugal}
use Rattle.sessions.specs.Join.{grant_step, is_told_by_text, join_state, join_step, cause_refusal}
use Rattle.sessions.specs.Served.{is_request, received_in}
use Rattle.sessions.specs.declared.served.Served.TheVariants.{Request}
use Rattle.sessions.proofs.Joins.{no_ok, ok_is}

-- ---- from texts to the reply

-- no text is of two questions, and no text is of two answers
abbrev OneQuestion : Type 0
OneQuestion = (text : List ℕ) (a b : JoinAsk) → IsAsk a → IsAsk b → IsJoinReq text a → IsJoinReq text b → a ≡ b

abbrev OneAnswer : Type 0
OneAnswer = (text : List ℕ) (a b : JoinAns) → IsAns a → IsAns b → IsJoinAns text a → IsJoinAns text b → a ≡ b

-- a reply to the text of a question is the reply to the question
pub reply_to_text : OneQuestion → (s : JoinState) (ask : JoinAsk) (text : List ℕ) (found : JoinAns × Option JoinState) → IsAsk ask → IsJoinReq text ask
    → IsReply s text found → found ≡ reply s ask
reply_to_text one s ask text found ranges is (inl (other, other_ranges, other_is, reply_is)) =
    reply_is ∙ ap (reply s) (one text other ask other_ranges ranges other_is is)
reply_to_text one s ask text found ranges is (inr (none, reply_is)) = absurd (none ask ranges is)

-- ---- from the reply to the answer

-- a refusal of this answer is the refusal of its cause
abbrev IsCaused : {A : Type 0} → Result A Refusal → Type 0
IsCaused r = (e : Refusal) → r ≡ Err e → cause_refusal (cause_of e) ≡ e

caused_ok : {A : Type 0} (x : A) → IsCaused (Ok x)
caused_ok x e is = no_ok e x _ (sym is)

caused_err : {A : Type 0} (x : Refusal) → cause_refusal (cause_of x) ≡ x → IsCaused {A = A} (Err x)
caused_err {A} x server_reply e is = subst (λ y. cause_refusal (cause_of y) ≡ y) (same x e is) server_reply
  where
    same : (x e : Refusal) → ◌≡◌ {A = Result A Refusal} (Err x) (Err e) → x ≡ e
    same x e is = cc

caused_if : {A : Type 0} (b : Bool) (r s : Result A Refusal) → IsCaused r → IsCaused s → IsCaused (cond b r s)
caused_if true r s one two = one
caused_if false r s one two = two

answered_caused : (s : JoinState) (ask : JoinAsk) → IsCaused (answer_to s ask)
answered_caused s ask = and_then (admission s ask.request) admitted
  where
    admitted : IsCaused {A = Unit {0}} (admission s ask.request)
    admitted =
        caused_if _ _ _ (caused_err WrongJoinEui refl)
        (caused_if _ _ _ (caused_err BadMic refl)
        (caused_if _ _ _ (caused_err DevNonceUsed refl)
        (caused_if _ _ _ (caused_err JoinNonceSpent refl) (caused_ok {A = Unit {0}} tt))))

    and_then : (r : Result (Unit {0}) Refusal) → IsCaused {A = Unit {0}} r
        → IsCaused {A = JoinState × JoinGrant} (result_and r (Ok (state_after_join s ask, grant_of s ask)))
    and_then (Ok x) is = caused_ok {A = JoinState × JoinGrant} (state_after_join s ask, grant_of s ask)
    and_then (Err e) is = caused_err e (is e refl)

-- each refusal of this answer is given by a text
abbrev AreTold : {A : Type 0} → Result A Refusal → Type 0
AreTold r = (e : Refusal) → r ≡ Err e → is_told_by_text e ≡ true

told_ok : {A : Type 0} (x : A) → AreTold (Ok x)
told_ok x e is = no_ok e x _ (sym is)

told_err : {A : Type 0} (x : Refusal) → is_told_by_text x ≡ true → AreTold {A = A} (Err x)
told_err {A} x told e is = subst (λ y. is_told_by_text y ≡ true) (same x e is) told
  where
    same : (x e : Refusal) → ◌≡◌ {A = Result A Refusal} (Err x) (Err e) → x ≡ e
    same x e is = cc

told_if : {A : Type 0} (b : Bool) (r s : Result A Refusal) → AreTold r → AreTold s → AreTold (cond b r s)
told_if true r s one two = one
told_if false r s one two = two

answered_told : (s : JoinState) (ask : JoinAsk) → AreTold (answer_to s ask)
answered_told s ask = and_then (admission s ask.request) admitted
  where
    admitted : AreTold {A = Unit {0}} (admission s ask.request)
    admitted =
        told_if _ _ _ (told_err WrongJoinEui refl)
        (told_if _ _ _ (told_err BadMic refl)
        (told_if _ _ _ (told_err DevNonceUsed refl)
        (told_if _ _ _ (told_err JoinNonceSpent refl) (told_ok {A = Unit {0}} tt))))

    and_then : (r : Result (Unit {0}) Refusal) → AreTold {A = Unit {0}} r
        → AreTold {A = JoinState × JoinGrant} (result_and r (Ok (state_after_join s ask, grant_of s ask)))
    and_then (Ok x) is = told_ok {A = JoinState × JoinGrant} (state_after_join s ask, grant_of s ask)
    and_then (Err e) is = told_err e (is e refl)

-- so is a refusal of the table that comes from the join server
pub step-told : {A : Type 0} (d : Device) (hearings : List Hearing) (ask : JoinAsk) (f : DeviceStep → A)
    → AreTold (join_step d hearings ask >>= λ o. Ok (f o))
step-told {A} d hearings ask f = joined (answer_to (join_state d) ask) (answered_told (join_state d) ask)
  where
    joined : (r : Result (JoinState × JoinGrant) Refusal) → AreTold r
        → AreTold {A = A} ((r >>= λ granted. Ok (grant_step d hearings granted)) >>= λ o. Ok (f o))
    joined (Ok granted) told = told_ok (f (grant_step d hearings granted))
    joined (Err e) told = told_err e (told e refl)

-- what is granted is the state and the grant of the definition
pub answered_is : (s : JoinState) (ask : JoinAsk) (granted : JoinState × JoinGrant) → answer_to s ask ≡ Ok granted → (state_after_join s ask, grant_of s ask) ≡ granted
answered_is s ask granted is = and_then (admission s ask.request) is
  where
    and_then : (r : Result (Unit {0}) Refusal) → result_and r (Ok (state_after_join s ask, grant_of s ask)) ≡ Ok granted
        → (state_after_join s ask, grant_of s ask) ≡ granted
    and_then (Ok x) is = ok_is (state_after_join s ask, grant_of s ask) granted is
    and_then (Err e) is = no_ok e granted _ is

same_accepted : (a b : Accepted) → ◌≡◌ {A = Result Accepted Cause} (Ok a) (Ok b) → a ≡ b
same_accepted a b is = cc

same_cause : (a b : Cause) → ◌≡◌ {A = Result Accepted Cause} (Err a) (Err b) → a ≡ b
same_cause a b is = cc

no_accepted : (cause : Cause) (accepted : Accepted) (P : Type 0) → ◌≡◌ {A = Result Accepted Cause} (Err cause) (Ok accepted) → P
no_accepted cause accepted P is = absurd (apart cause accepted is)
  where
    apart : (cause : Cause) (accepted : Accepted) → ◌≡◌ {A = Result Accepted Cause} (Err cause) (Ok accepted) → ⊥
    apart cause accepted is = cc

module _ (s : JoinState) (ask : JoinAsk) (ans : JoinAns) (after : Option JoinState) (own : dev_eui_of ask.request ≡ s.dev_eui.0)
    (is : (ans, after) ≡ reply s ask) where
  is_told : (ans, after) ≡ server_reply ask (answer_to s ask)
  is_told = is ∙ ap (λ b. cond b (server_reply ask (answer_to s ask)) (ans_to ask (Err UnknownDevEui), None)) (eq-eqb (dev_eui_of ask.request) s.dev_eui.0 own)

  -- if the answer grants a session
  pub granted_is : (accepted : Accepted) → ans.result ≡ Ok accepted
      → (granted : JoinState × JoinGrant) × (answer_to s ask ≡ Ok granted) × (accepted ≡ accepted_of granted.1) × (after ≡ Some granted.0)
      × (granted.0.join_nonce ≡ Some granted.1.join_nonce)
  granted_is accepted ok = by_answer (answer_to s ask) refl is_told
    where
      by_answer : (r : Result (JoinState × JoinGrant) Refusal) → answer_to s ask ≡ r → (ans, after) ≡ server_reply ask r
          → (granted : JoinState × JoinGrant) × (answer_to s ask ≡ Ok granted) × (accepted ≡ accepted_of granted.1) × (after ≡ Some granted.0)
          × (granted.0.join_nonce ≡ Some granted.1.join_nonce)
      by_answer (Ok granted) answer told_is =
          let result : ◌≡◌ {A = Result Accepted Cause} (Ok accepted) (Ok (accepted_of granted.1)) =
          sym ok ∙ ap (λ (x : JoinAns × Option JoinState). x.0.result) told_is in (
            granted,
            answer,
            same_accepted accepted (accepted_of granted.1) result,
            ap (λ (x : JoinAns × Option JoinState). x.1) told_is,
            subst (λ (g : JoinState × JoinGrant). g.0.join_nonce ≡ Some g.1.join_nonce) (answered_is s ask granted answer) refl,
          )
      by_answer (Err e) answer told_is =
          no_accepted (cause_of e) accepted _ (sym (ap (λ (x : JoinAns × Option JoinState). x.0.result) told_is) ∙ ok)

  -- if it doesn't
  pub refused_is : (cause : Cause) → ans.result ≡ Err cause → answer_to s ask ≡ Err (cause_refusal cause)
  refused_is cause err = by_answer (answer_to s ask) refl is_told
    where
      by_answer : (r : Result (JoinState × JoinGrant) Refusal) → answer_to s ask ≡ r → (ans, after) ≡ server_reply ask r → answer_to s ask ≡ Err (cause_refusal cause)
      by_answer (Ok granted) answer told_is =
          no_accepted cause (accepted_of granted.1) _ (sym err ∙ ap (λ (x : JoinAns × Option JoinState). x.0.result) told_is)
      by_answer (Err e) answer told_is =
          let result = sym err ∙ ap (λ (x : JoinAns × Option JoinState). x.0.result) told_is in
          answer ∙ ap Err (sym (answered_caused s ask e answer) ∙ ap cause_refusal (sym (same_cause cause (cause_of e) result)))

-- a grant is its JoinNonce and what was accepted
pub same_grant : (a b : JoinGrant) → a.join_nonce ≡ b.join_nonce → accepted_of a ≡ accepted_of b → a ≡ b
same_grant a b nonce accepted =
    λ i. record { join_nonce = nonce i; nwk_skey = (accepted i).nwk_skey; app_skey = (accepted i).app_skey; accept = (accepted i).accept }

-- the JoinNonce that is granted is above the last one
pub above-last : (d : Device) (ask : JoinAsk) (granted : JoinState × JoinGrant) → answer_to (join_state d) ask ≡ Ok granted
    → unwrap_or d.activation.granted 0 < granted.1.join_nonce
above-last d ask granted is =
    let nonce : next_join_nonce d.activation.granted ≡ granted.1.join_nonce = ap (λ (g : JoinState × JoinGrant). g.1.join_nonce) (answered_is (join_state d) ask granted is) in
    omega arith

-- the result of the answer
pub joined-ok : (d : Device) (hearings : List Hearing) (ask : JoinAsk) (granted : JoinState × JoinGrant) → answer_to (join_state d) ask ≡ Ok granted
    → join_step d hearings ask ≡ Ok (grant_step d hearings granted)
joined-ok d hearings ask granted is = ap (λ r. r >>= λ granted. Ok (grant_step d hearings granted)) is

pub joined-err : (d : Device) (hearings : List Hearing) (ask : JoinAsk) (e : Refusal) → answer_to (join_state d) ask ≡ Err e → join_step d hearings ask ≡ Err e
joined-err d hearings ask e is = ap (λ r. r >>= λ granted. Ok (grant_step d hearings granted)) is

-- an answer that may run out of memory, from what is wanted
pub memory-ok : {A B : Type 0} (wanted : Result A Refusal) (Is : A → B → Type 0) (x : A) (result : Result B Refusal) → wanted ≡ Ok x
    → MatchResult result (Is x) (λ e. e ≡ OutOfMemory) → AnswersWithMemory wanted Is result
memory-ok {A} {B} wanted Is x (Ok found) is made = subst (λ (w : Result A Refusal). AnswersWithMemory w Is (Ok found)) (sym is) made
memory-ok {A} {B} wanted Is x (Err e) is none = inl none

pub memory-err : {A B : Type 0} (wanted : Result A Refusal) (other : Result B Refusal) (e : Refusal) → (other ≡ Err e → wanted ≡ Err e)
    → (e ≡ OutOfMemory) ⊎ (other ≡ Err e) → (e ≡ OutOfMemory) ⊎ (wanted ≡ Err e)
memory-err {A} {B} wanted other e then (inl none) = inl none
memory-err {A} {B} wanted other e then (inr is) = inr (then is)

-- for a Join-Request whose refusals are all given by texts, OutOfMemory may come in place of a
-- refusal
pub answers-by-text : {A B : Type 0} (h : Heard) (request : List ℕ) (wanted : Result A Refusal) (Is : A → B → Type 0) (result : Result B Refusal)
    → received_in h ≡ Ok (Request request) → AreTold wanted → AnswersWithMemory wanted Is result → AnswersTo (HeardCommand h) wanted Is result
answers-by-text {A} {B} h request (Ok x) Is result asks told answer = value (is_frugal (HeardCommand h) (Ok x)) result answer
  where
    value : (frugal : Bool) (result : Result B Refusal) → AnswersWithMemory (Ok x) Is result
        → MatchBool frugal (Answers (Ok x) Is result) (AnswersWithMemory (Ok x) Is result)
    value true (Ok found) is = is
    value true (Err e) (inl none) = none
    value true (Err e) (inr other) = no_ok e x _ (sym other)
    value false result is = is
answers-by-text {A} {B} h request (Err e) Is result asks told answer =
    let asked : is_frugal {A = A} (HeardCommand h) (Err e) ≡ false =
    ap (λ r. cond (is_request r) (not (is_told_by_text e)) true) asks ∙ ap not (told e refl) in
    subst (λ b. MatchBool b (Answers (Err e) Is result) (AnswersWithMemory (Err e) Is result)) (sym asked) answer

-- a value that was returned, when memory might have run out, is the wanted one
pub memory-value : {A : Type 0} (wanted : Result A Refusal) (found : A) → AnswersWithMemory wanted (λ (x y : A). y ≡ x) (Ok found) → wanted ≡ Ok found
memory-value {A} (Ok x) found is = ap Ok (sym is)
memory-value {A} (Err e) found none = absurd none

pub memory-found : {A B : Type 0} (wanted : Result A Refusal) (Is : A → B → Type 0) (found : B) → AnswersWithMemory wanted Is (Ok found)
    → (x : A) × (wanted ≡ Ok x) × Is x found
memory-found {A} {B} (Ok x) Is found is = (x, refl, is)
memory-found {A} {B} (Err e) Is found none = absurd none

-- an exact answer is also one that may run out of memory
pub exact-found : {A B : Type 0} (wanted : Result A Refusal) (Is : A → B → Type 0) (found : B) → Answers wanted Is (Ok found)
    → (x : A) × (wanted ≡ Ok x) × Is x found
exact-found {A} {B} (Ok x) Is found is = (x, refl, is)
exact-found {A} {B} (Err e) Is found refused = no_ok e found _ (sym refused)

pub exact-err : {A B : Type 0} (wanted : Result A Refusal) (Is : A → B → Type 0) (e : Refusal) → Answers wanted Is (Err e)
    → (e ≡ OutOfMemory) ⊎ (wanted ≡ Err e)
exact-err {A} {B} (Ok x) Is e none = inl none
exact-err {A} {B} (Err e') Is e refused = inr (ap (λ (r : Refusal). Err r) (same e' e (sym refused)))
  where
    same : (x y : Refusal) → ◌≡◌ {A = Result B Refusal} (Err x) (Err y) → x ≡ y
    same x y h = cc
