-- How a change of a device's grants changes the marks that they cover.
use Rattle.std.proofs.Common.{◌≡◌, ◌≢◌, ◌<◌, ◌≤◌, ◌+◌, ◌∙◌, ℕ, List, [], ◌∷◌, ◌++◌, Option, Some, None, Result, Ok, Err, arith, ap, refl, subst, sym}
use Rattle.std.specs.Option.{IfSome, unwrap_or}
use Rattle.std.specs.Result.{result_and}
use Rattle.lw_types.specs.declared.refusal.Refusal.{Refusal}
use Rattle.join_server.specs.Join.{admission, answer_to, grant_of, state_after_join, next_join_nonce}
use Rattle.join_server.specs.declared.ask.JoinAsk.{JoinAsk}
use Rattle.join_server.specs.declared.grant.JoinGrant.{JoinGrant}
use Rattle.join_server.specs.declared.state.JoinState.{JoinState}
use Rattle.devices.specs.Activation.{AreInOrder, Grants, with_last_up, with_current, current_nonce, no_grants, with_down_used, with_grant}
use Rattle.devices.specs.declared.activation.CurrentSession.{CurrentSession}
use Rattle.devices.specs.declared.activation.Session.{Session}
use Rattle.devices.specs.declared.mark.Mark.{Mark}
use Rattle.devices.specs.declared.mark.Mark.TheVariants.{Forwarded, Granted, Sent}
use Rattle.devices.specs.declared.mark.SessionName.{SessionName}
use Rattle.sessions.specs.Marks.{GrantsCover, IsPast}
use Rattle.sessions.proofs.Joins.{no_ok, ok_is}
use Rattle.sessions.proofs.Moves.{Moves, moves_nowhere, moves_then, moves_unmarked}

-- from the first grants to the second, these marks are used up, and the grants stay in order
pub record Passes (before after : Grants) (marks : List Mark) : Type 0 where
  pub moves : Moves GrantsCover before after marks
  pub in_order : AreInOrder before → AreInOrder after

pub order_none : AreInOrder no_grants
order_none = record { current = omega arith; pending = tt; later = tt }

-- ---- rules

-- the grants are the same
pub passes_nothing : (before after : Grants) → before ≡ after → Passes before after []
passes_nothing before after same =
    record {
      moves = subst (λ (g : Grants). Moves GrantsCover before g []) same (moves_nowhere GrantsCover before);
      in_order = λ order. subst (λ (g : Grants). AreInOrder g) same order;
    }

-- the marks were not used up
pub passes_unmarked : (before after : Grants) (marks : List Mark) → Passes before after marks → Passes before after []
passes_unmarked before after marks passes =
    record { moves = moves_unmarked GrantsCover before after marks passes.moves; in_order = passes.in_order }

-- one change and then another
pub passes_then : (before between after : Grants) (first second : List Mark) → Passes before between first → Passes between after second
    → Passes before after (first ++ second)
passes_then before between after first second one two =
    record {
      moves = moves_then GrantsCover before between after first second one.moves two.moves;
      in_order = λ order. two.in_order (one.in_order order);
    }

module _ (g : Grants) (s : Session) (later : unwrap_or g.granted 0 < s.join_nonce) where
  past_granted : (join_nonce : ℕ) (Past : CurrentSession → Type 0) → IsPast g join_nonce Past → IsPast (with_grant g s) join_nonce Past
  past_granted join_nonce Past was =
      let apart : s.join_nonce ≢ join_nonce = λ same. absurd (omega (arith, was.granted, later, same)) in
      let still : join_nonce ≤ s.join_nonce = omega (arith, was.granted, later) in
      record { granted = still; begun = apart; past = was.past }

  keeps_granted : (m : Mark) → GrantsCover g m → GrantsCover (with_grant g s) m
  keeps_granted (Forwarded name counter) was = past_granted name.join_nonce _ was
  keeps_granted (Granted name) was = omega (arith, was, later)
  keeps_granted (Sent name counter) was = past_granted name.join_nonce _ was

  order_granted : AreInOrder g → AreInOrder (with_grant g s)
  order_granted order =
      record { current = omega (arith, order.current, later); pending = omega arith; later = omega (arith, order.current, later) }

  -- a session is granted with a JoinNonce above the last one
  pub passes_grant : (name : SessionName) → name.join_nonce ≡ s.join_nonce → Passes g (with_grant g s) (Granted name ∷ [])
  passes_grant name same =
      let fresh : name.join_nonce ≤ unwrap_or g.granted 0 → ⊥ = λ was. absurd (omega (arith, was, later, same)) in
      let covered : name.join_nonce ≤ s.join_nonce = omega (arith, same) in
      let moves : Moves GrantsCover g (with_grant g s) (Granted name ∷ []) =
      record { keeps = keeps_granted; fresh = (fresh, tt); covered = (covered, tt); distinct = (tt, tt) } in
      record { moves = moves; in_order = order_granted }

-- ---- the session that waited begins

module _ (g : Grants) (s : Session) (up : ℕ) (waits : g.pending ≡ Some s) (order : AreInOrder g) where
  -- the pending session had used up no mark
  untouched : (join_nonce : ℕ) (Past : CurrentSession → Type 0) → IsPast g join_nonce Past → s.join_nonce ≢ join_nonce
  untouched join_nonce Past was = subst (λ (p : Option Session). IfSome p (λ w. w.join_nonce ≢ join_nonce)) waits was.begun

  past_begun : (join_nonce : ℕ) (Past : CurrentSession → Type 0) → IsPast g join_nonce Past → IsPast (with_current g s up) join_nonce Past
  past_begun join_nonce Past was =
      record { granted = was.granted; begun = tt; past = λ same. absurd (untouched join_nonce Past was same) }

  keeps_begun : (m : Mark) → GrantsCover g m → GrantsCover (with_current g s up) m
  keeps_begun (Forwarded name counter) was = past_begun name.join_nonce _ was
  keeps_begun (Granted name) was = was
  keeps_begun (Sent name counter) was = past_begun name.join_nonce _ was

  within_begun : s.join_nonce ≤ unwrap_or g.granted 0
  within_begun = subst (λ (p : Option Session). IfSome p (λ w. w.join_nonce ≤ unwrap_or g.granted 0)) waits order.pending

  -- its first uplink is handed on
  pub passes_begun : (name : SessionName) → name.join_nonce ≡ s.join_nonce → Passes g (with_current g s up) (Forwarded name up ∷ [])
  passes_begun name same =
      let fresh : GrantsCover g (Forwarded name up) → ⊥ = λ was. untouched name.join_nonce _ was (sym same) in
      let within = within_begun in
      let covered : GrantsCover (with_current g s up) (Forwarded name up) =
      record { granted = (let known : name.join_nonce ≤ unwrap_or g.granted 0 = omega arith in known); begun = tt; past = λ _. omega arith } in
      let moves : Moves GrantsCover g (with_current g s up) (Forwarded name up ∷ []) =
      record { keeps = keeps_begun; fresh = (fresh, tt); covered = (covered, tt); distinct = (tt, tt) } in
      record { moves = moves; in_order = λ _. record { current = within; pending = tt; later = tt } }

-- ---- the session in use goes on

module _ (g : Grants) (c : CurrentSession) (is : g.current ≡ Some c) (order : AreInOrder g) where
  -- what is past of the current session
  past_of : (join_nonce : ℕ) (Past : CurrentSession → Type 0) → IsPast g join_nonce Past → c.session.join_nonce ≡ join_nonce → Past c
  past_of join_nonce Past was = subst (λ (o : Option CurrentSession). IfSome o (λ c. c.session.join_nonce ≡ join_nonce → Past c)) is was.past

  used_nonce : current_nonce g.current ≡ c.session.join_nonce
  used_nonce = ap current_nonce is

  -- the pending session is another one
  waits_apart : IfSome g.pending (λ s. s.join_nonce ≢ c.session.join_nonce)
  waits_apart = apart g.pending order.later
    where
      apart : (p : Option Session) → IfSome p (λ s. current_nonce g.current < s.join_nonce) → IfSome p (λ s. s.join_nonce ≢ c.session.join_nonce)
      apart None later = tt
      apart (Some s) later = λ same. let used = used_nonce in absurd (omega (arith, later, same))

  order_on : (next : CurrentSession) → next.session.join_nonce ≡ c.session.join_nonce → AreInOrder (record g { current = Some next })
  order_on next same =
      record {
        current = (let used = used_nonce in let was = order.current in omega arith);
        pending = order.pending;
        later = subst (λ n. IfSome g.pending (λ s. n < s.join_nonce)) (used_nonce ∙ sym same) order.later;
      }

  -- what is past of a session stays past
  past_on : (next : CurrentSession) → next.session.join_nonce ≡ c.session.join_nonce → (join_nonce : ℕ) (Past : CurrentSession → Type 0) → (Past c → Past next)
      → IsPast g join_nonce Past → IsPast (record g { current = Some next }) join_nonce Past
  past_on next same join_nonce Past on was =
      record { granted = was.granted; begun = was.begun; past = λ this. on (past_of join_nonce Past was (sym same ∙ this)) }

  -- and what it has used up now is past
  past_now : (next : CurrentSession) → (name : SessionName) → name.join_nonce ≡ c.session.join_nonce → (Past : CurrentSession → Type 0) → Past next
      → IsPast (record g { current = Some next }) name.join_nonce Past
  past_now next name same Past now =
      let used = used_nonce in
      let was = order.current in
      record {
        granted = (let known : name.join_nonce ≤ unwrap_or g.granted 0 = omega arith in known);
        begun = subst (λ n. IfSome g.pending (λ s. s.join_nonce ≢ n)) (sym same) waits_apart;
        past = λ _. now;
      }

  module _ (up : ℕ) (later : c.last_up < up) where
    keeps_advanced : (m : Mark) → GrantsCover g m → GrantsCover (with_last_up g c up) m
    keeps_advanced (Forwarded name counter) was =
        past_on (record c { last_up = up }) refl name.join_nonce (λ c. counter ≤ c.last_up) (λ past. omega (arith, past, later)) was
    keeps_advanced (Granted name) was = was
    keeps_advanced (Sent name counter) was =
        past_on (record c { last_up = up }) refl name.join_nonce (λ c. counter < c.next_down) (λ past. past) was

    -- an uplink under a later counter is handed on
    pub passes_advanced : (name : SessionName) → name.join_nonce ≡ c.session.join_nonce → Passes g (with_last_up g c up) (Forwarded name up ∷ [])
    passes_advanced name same =
        let fresh : GrantsCover g (Forwarded name up) → ⊥ =
        λ was. let past = past_of name.join_nonce (λ c. up ≤ c.last_up) was (sym same) in absurd (omega (arith, past, later)) in
        let covered : GrantsCover (with_last_up g c up) (Forwarded name up) =
        past_now (record c { last_up = up }) name same (λ c. up ≤ c.last_up) (omega arith) in
        let moves : Moves GrantsCover g (with_last_up g c up) (Forwarded name up ∷ []) =
        record { keeps = keeps_advanced; fresh = (fresh, tt); covered = (covered, tt); distinct = (tt, tt) } in
        record { moves = moves; in_order = λ _. order_on (record c { last_up = up }) refl }

  keeps_down : (m : Mark) → GrantsCover g m → GrantsCover (with_down_used g c) m
  keeps_down (Forwarded name counter) was =
      past_on (record c { next_down = c.next_down + 1 }) refl name.join_nonce (λ c. counter ≤ c.last_up) (λ past. past) was
  keeps_down (Granted name) was = was
  keeps_down (Sent name counter) was =
      past_on (record c { next_down = c.next_down + 1 }) refl name.join_nonce (λ c. counter < c.next_down) (λ past. omega (arith, past)) was

  -- a downlink is sent
  pub passes_down : (name : SessionName) → name.join_nonce ≡ c.session.join_nonce → Passes g (with_down_used g c) (Sent name c.next_down ∷ [])
  passes_down name same =
      let fresh : GrantsCover g (Sent name c.next_down) → ⊥ =
      λ was. let past = past_of name.join_nonce (λ d. c.next_down < d.next_down) was (sym same) in absurd (omega (arith, past)) in
      let covered : GrantsCover (with_down_used g c) (Sent name c.next_down) =
      past_now (record c { next_down = c.next_down + 1 }) name same (λ d. c.next_down < d.next_down) (omega arith) in
      let moves : Moves GrantsCover g (with_down_used g c) (Sent name c.next_down ∷ []) =
      record { keeps = keeps_down; fresh = (fresh, tt); covered = (covered, tt); distinct = (tt, tt) } in
      record { moves = moves; in_order = λ _. order_on (record c { next_down = c.next_down + 1 }) refl }

-- ---- what a join server grants

and_ok : {A : Type 0} (a : Result (Unit {0}) Refusal) (x y : A) → ◌≡◌ {A = Result A Refusal} (result_and a (Ok x)) (Ok y) → x ≡ y
and_ok (Ok u) x y h = ok_is x y h
and_ok (Err e) x y h = no_ok e y _ h

-- its JoinNonce is the one above the last
pub answered-next : (s : JoinState) (ask : JoinAsk) (granted : JoinState × JoinGrant) → answer_to s ask ≡ Ok granted
    → next_join_nonce s.join_nonce ≡ granted.1.join_nonce
answered-next s ask granted is =
    ap (λ (g : JoinState × JoinGrant). g.1.join_nonce) (and_ok (admission s ask.request) (state_after_join s ask, grant_of s ask) granted is)
