-- What is said of a refusal that an answer passes on.
use Rattle.std.proofs.Common.{◌≡◌, ◌⊎◌, ◌≢◌, inl, inr, Result, Ok, Err, IfErr, subst, sym}
use Rattle.std.specs.Result.{IsErrAnd}
use Rattle.lw_types.specs.declared.refusal.Refusal.{Refusal}

-- what holds of the refusal holds of the answer that it becomes
pub refused_with : {T : Type 0} (P : Refusal → Type 0) (r : Result T Refusal) (e : Refusal) → IsErrAnd r (λ y. y ≡ e) → P e → IfErr r P
refused_with P (Ok x) e is p = absurd is
refused_with P (Err y) e is p = subst P (sym is) p

-- and that answer is one
pub refused_surely : {T : Type 0} (P : Refusal → Type 0) (r : Result T Refusal) (e : Refusal) → IsErrAnd r (λ y. y ≡ e) → P e → IsErrAnd r P
refused_surely P (Ok x) e is p = absurd is
refused_surely P (Err y) e is p = subst P (sym is) p

-- a refusal that is one of two isn't another
pub none_else : (e first second : Refusal) → (e ≡ first) ⊎ (e ≡ second) → e ≢ first → e ≢ second → ⊥
none_else e first second (inl is) not_first not_second = not_first is
none_else e first second (inr is) not_first not_second = not_second is
