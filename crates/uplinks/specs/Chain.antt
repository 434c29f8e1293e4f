-- Calls one after another, until one is refused.
use Rattle.std.specs.Prelude.{Result, Ok, Err}
use Rattle.lw_types.specs.declared.refusal.Refusal.{Refusal}

infixl 10 ◌>>=◌
abbrev pub ◌>>=◌ : {A B : Type 0} → Result A Refusal → (A → Result B Refusal) → Result B Refusal
(Ok x) >>= f = f x
(Err e) >>= f = Err e
