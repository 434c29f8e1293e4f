-- Values that are given, or not, in terms of other types of values.
use Rattle.std.proofs.Common.{ℕ, List, Option, Some, None, Result, Ok, Err, inl, inr}
use Rattle.std.specs.Prelude.{IsErrAnd, MatchResult}
use Rattle.device_lists.specs.Values.{IsGivenOr, IsMissingOrWrong, MayBeGiven}
use Rattle.device_lists.specs.declared.column.Column.{Column}
use Rattle.device_lists.specs.declared.fault.LineFault.{LineFault}

-- a call was refused, and so is the caller
pub on_err : {T E : Type 0} (R : E → Type 0) (r : Result T E) (P : T → Type 0) (Q : Type 0) → IsErrAnd r R → Q → MatchResult r P (λ _. Q)
on_err R (Ok x) P Q h q = absurd h
on_err R (Err e) P Q h q = q

module _ {D N : Type 0} {IsD : D → Type 0} {IsN : N → Type 0} {text_d : D → List ℕ} {text_n : N → List ℕ} {field : Option (List ℕ)} where
  -- no value of one type, so none of the other
  pub none_of : ((x : Option D) → ¬ (MayBeGiven IsD text_d field x)) → (make : N → D)
      → ((n : N) → MayBeGiven IsN text_n field (Some n) → MayBeGiven IsD text_d field (Some (make n)))
      → (x : Option N) → ¬ (MayBeGiven IsN text_n field x)
  none_of refuses make same None given = refuses None given
  none_of refuses make same (Some n) given = refuses (Some (make n)) (same n given)

  -- a value of one type, so one of the other
  pub value_of : (number : D → N) → ((d : D) → MayBeGiven IsD text_d field (Some d) → MayBeGiven IsN text_n field (Some (number d)))
      → (x : Option D) → MayBeGiven IsD text_d field x → (n : Option N) × MayBeGiven IsN text_n field n
  value_of number same None given = (None, given)
  value_of number same (Some d) given = (Some (number d), same d given)

-- no value at all, so none or a default neither
pub no_default : {T : Type 0} {IsValue : T → Type 0} {text_of : T → List ℕ} {field : Option (List ℕ)} → ((x : Option T) → ¬ (MayBeGiven IsValue text_of field x))
    → (default x : T) → ¬ (IsGivenOr IsValue text_of default field x)
no_default refuses default x (inl absent) = refuses None absent.0
no_default refuses default x (inr given) = refuses (Some x) given

-- what is no value of one type is none of another
pub not_of_number : {column : Column} {field : Option (List ℕ)} {A B : Type 0} {wrong : LineFault} → IsMissingOrWrong column field A wrong
    → (B → A) → IsMissingOrWrong column field B wrong
not_of_number (inl missing) of = inl missing
not_of_number (inr wrong) of = inr (wrong.0, wrong.1, λ b. wrong.2 (of b))
