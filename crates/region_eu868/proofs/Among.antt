-- A frequency that passes the test `is_among` is one of the list.
use Rattle.std.proofs.Common.{◌≡◌, ◌↔◌, ℕ, Bool, List, IsTrue, Contains, nat_eq, subst, sym}
use Rattle.std.proofs.lemmas.Bool.{eqb-true}
use Rattle.std.proofs.lemmas.Cmp.{nat_eq_equiv}
use Rattle.std.proofs.lemmas.Map.Views.{Contains-from_any, list_any-from_Contains}
use Rattle.region_eu868.specs.Region.{is_among}

among : (frequencies : List ℕ) (f : ℕ) → IsTrue (is_among frequencies f) ↔ Contains frequencies f
among frequencies f = (Contains-from_any {eq = nat_eq} eqb-true f frequencies, list_any-from_Contains {eq = nat_eq} nat_eq_equiv f frequencies)

pub tested_among : (b : Bool) (frequencies : List ℕ) (f : ℕ) → b ≡ is_among frequencies f → IsTrue b ↔ Contains frequencies f
tested_among b frequencies f is = subst (λ (b : Bool). IsTrue b ↔ Contains frequencies f) (sym is) (among frequencies f)
