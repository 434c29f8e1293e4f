-- What a call returns if a definition says what it should do.
use Rattle.std.specs.Prelude.{◌≡◌, ◌⊎◌, Result, Ok, Err}
use Rattle.std.specs.Result.{MatchResult}
use Rattle.lw_types.specs.declared.refusal.Refusal.{Refusal}
use Rattle.lw_types.specs.declared.refusal.Refusal.TheVariants.{OutOfMemory}

-- Exactly what is wanted, unless memory runs out. If a value is wanted: that value, or OutOfMemory.
-- If a refusal is wanted: that refusal, whether or not memory is available.
abbrev pub Answers : {A B : Type 0} → Result A Refusal → (A → B → Type 0) → Result B Refusal
    → Type 0
Answers wanted Is result =
    MatchResult wanted (λ value. MatchResult result (Is value) (λ e. e ≡ OutOfMemory))
    (λ refusal. result ≡ Err refusal)

-- A weaker promise, for a call that takes memory before it knows of each refusal. With memory it
-- gives what is wanted. Without memory it may give OutOfMemory in place of a value or of a refusal.
abbrev pub AnswersWithMemory : {A B : Type 0} → Result A Refusal → (A → B → Type 0)
    → Result B Refusal → Type 0
AnswersWithMemory wanted Is (Ok found) = MatchResult wanted (λ value. Is value found) (λ refusal. ⊥)
AnswersWithMemory wanted Is (Err e) = (e ≡ OutOfMemory) ⊎ (wanted ≡ Err e)
