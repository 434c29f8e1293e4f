-- What is known of a join that was carried out on a device's record.
use Rattle.std.proofs.Common.{◌≡◌, ◌==◌, ℕ, Bool, true, false, cond, List, Result, Ok, Err, refl}
use Rattle.std.proofs.lemmas.Bool.{eqb-true}
use Rattle.lw_types.specs.declared.refusal.Refusal.{Refusal}
use Rattle.lw_types.specs.declared.refusal.Refusal.TheVariants.{UnknownDevEui}
use Rattle.join_server.specs.Request.{dev_eui_of}
use Rattle.join_server.specs.Join.{answer_to}
use Rattle.join_server.specs.declared.grant.JoinGrant.{JoinGrant}
use Rattle.join_server.specs.declared.state.JoinState.{JoinState}
use Rattle.devices.specs.declared.device.Device.{Device}
use Rattle.devices.specs.declared.heard.Hearing.{Hearing}
use Rattle.uplinks.specs.Chain.{◌>>=◌}
use Rattle.devices.specs.DeviceStep.{DeviceStep}
use Rattle.sessions.specs.Join.{grant_step, join_ask, join_at, join_state}

pub ok_is : {A : Type 0} (x y : A) → ◌≡◌ {A = Result A Refusal} (Ok x) (Ok y) → x ≡ y
ok_is x y h = cc

pub no_ok : {A : Type 0} (e : Refusal) (x : A) (P : Type 0) → ◌≡◌ {A = Result A Refusal} (Err e) (Ok x) → P
no_ok e x P h = absurd (apart e x h)
  where
    apart : {A : Type 0} (e : Refusal) (x : A) → ◌≡◌ {A = Result A Refusal} (Err e) (Ok x) → ⊥
    apart e x h = cc

-- if two calls one after another succeed, the first did
pub both_ok : {A B : Type 0} (r : Result A Refusal) (f : A → Result B Refusal) (y : B) → (r >>= f) ≡ Ok y → (x : A) × (r ≡ Ok x) × (f x ≡ Ok y)
both_ok {A} {B} (Ok x) f y h = (x, refl, h)
both_ok {A} {B} (Err e) f y h = no_ok e y _ h

-- and so did one that a test lets through
pub where_true : {A : Type 0} (b : Bool) (r : Result A Refusal) (e : Refusal) (x : A) → cond b r (Err e) ≡ Ok x → (b ≡ true) × (r ≡ Ok x)
where_true {A} true r e x h = (refl, h)
where_true {A} false r e x h = no_ok e x _ h

pub where_false : {A : Type 0} (b : Bool) (r : Result A Refusal) (e : Refusal) (x : A) → cond b (Err e) r ≡ Ok x → r ≡ Ok x
where_false {A} true r e x h = no_ok e x _ h
where_false {A} false r e x h = h

-- a join that was carried out: the device asked, and the join server granted it a session
pub record IsGranted (net_id slot : ℕ) (d : Device) (hearings : List Hearing) (request : List ℕ) (o : DeviceStep) : Type 0 where
  pub granted : JoinState × JoinGrant
  pub asks : dev_eui_of request ≡ d.dev_eui.0
  pub answer : answer_to (join_state d) (join_ask net_id slot d request 0) ≡ Ok granted
  pub is : grant_step d hearings granted ≡ o

pub join-ok : (net_id slot : ℕ) (d : Device) (hearings : List Hearing) (request : List ℕ) (o : DeviceStep) → join_at net_id slot d hearings request ≡ Ok o
    → IsGranted net_id slot d hearings request o
join-ok net_id slot d hearings request o h = by_name (dev_eui_of request == d.dev_eui.0) refl h
  where
    answer : Result (JoinState × JoinGrant) Refusal
    answer = answer_to (join_state d) (join_ask net_id slot d request 0)

    by_name : (b : Bool) → dev_eui_of request == d.dev_eui.0 ≡ b
        → cond b (answer >>= λ granted. Ok (grant_step d hearings granted)) (Err UnknownDevEui) ≡ Ok o
        → IsGranted net_id slot d hearings request o
    by_name true same h =
        let found = both_ok answer (λ granted. Ok (grant_step d hearings granted)) o h in
        record { granted = found.0; asks = eqb-true (dev_eui_of request) d.dev_eui.0 same; answer = found.1; is = ok_is (grant_step d hearings found.0) o found.2 }
    by_name false other h = no_ok UnknownDevEui o _ h
