-- Lemmas about refusals, for the proofs of calls that return them.
use Rattle.std.proofs.Common.{◌≡◌, Result, Err, ap}
use Rattle.lw_types.specs.declared.refusal.Refusal.{Refusal}

-- a refusal is the same in the results of two calls, for any types of their values
pub same_Err : {A B : Type 0} (x e : Refusal) → ◌≡◌ {A = Result A Refusal} (Err x) (Err e)
    → ◌≡◌ {A = Result B Refusal} (Err x) (Err e)
same_Err {A} {B} x e h = ap (λ (y : Refusal). Err y) (same x e h)
  where
    same : (x e : Refusal) → ◌≡◌ {A = Result A Refusal} (Err x) (Err e) → x ≡ e
    same x e h = cc
