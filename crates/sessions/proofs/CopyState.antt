-- A copy of a table that has its first devices.
use Rattle.std.proofs.Common.{◌≡◌, ◌≤◌, ◌<◌, ◌-◌, ◌+◌, ◌∙◌, ℕ, List, [], ◌∷◌, ◌++◌, Option, Some, None, cond, nat_eq, take, length, get_or, sym, ap, refl, arith}
use Rattle.std.proofs.lemmas.List.{take_more, length-take-le}
use Rattle.sessions.proofs.Slots.{place-pushed, place-take}
use Rattle.devices.specs.declared.device.Device.{Device}
use Rattle.sessions.specs.Table.{slot_of}

-- the first n devices are copied and indexed, and there is room for the others
pub record Copied (n most : ℕ) (from to : List Device) (capacity : ℕ) (index : ℕ → Option ℕ) (free : ℕ) : Type 0 where
  pub devices : to ≡ take n from
  pub finds : (e : ℕ) → index e ≡ slot_of e (take n from)
  pub whole : most ≤ capacity
  pub room : most - n ≤ free

abbrev name : Device → ℕ
name d = d.dev_eui.0

pub copied-none : (most : ℕ) (from : List Device) (capacity : ℕ) (index : ℕ → Option ℕ) (free : ℕ)
    → ((e : ℕ) → index e ≡ None) → most ≤ capacity → most ≤ free → Copied 0 most from [] capacity index free
copied-none most from capacity index free none whole room = record { devices = refl; finds = none; whole = whole; room = omega arith }

-- one more device
pub copied-more : (n most : ℕ) (from to to' : List Device) (x y : Device) (capacity capacity' : ℕ) (index index' : ℕ → Option ℕ) (free free' : ℕ)
    → n < length from → x ≡ get_or from n x → slot_of x.dev_eui.0 from ≡ Some n
    → Copied n most from to capacity index free → to' ≡ to ++ y ∷ [] → y ≡ x → capacity ≤ capacity'
    → ((e : ℕ) → index' e ≡ cond (nat_eq x.dev_eui.0 e) (Some n) (index e)) → free ≤ free' + 1
    → Copied (n + 1) most from to' capacity' index' free'
copied-more n most from to to' x y capacity capacity' index index' free free' within item own before added same grown updates used =
    let front : take (n + 1) from ≡ take n from ++ x ∷ [] = take_more from n x within ∙ ap (λ d. take n from ++ d ∷ []) (sym item) in
    let long : length (take n from) ≡ n = length-take-le n from (omega arith) in
    let last : n ≡ 0 + length (take n from) = omega arith in
    record {
      devices = added ∙ (ap (λ ds. ds ++ y ∷ []) before.devices ∙ (ap (λ d. take n from ++ d ∷ []) same ∙ sym front));
      finds = λ e.
          updates e
          ∙ (ap (cond (nat_eq x.dev_eui.0 e) (Some n)) (before.finds e)
          ∙ (ap (λ k. cond (nat_eq x.dev_eui.0 e) (Some k) (slot_of e (take n from))) last
          ∙ (sym (place-pushed name e 0 x (take n from) (place-take name x.dev_eui.0 0 n from (own ∙ ap Some (omega arith))))
          ∙ ap (slot_of e) (sym front))));
      whole = omega (arith, before.whole);
      room = omega (arith, before.room);
    }
