-- What a command prints, and with which status it ends.
use Rattle.std.specs.Prelude.{◌≡◌, ◌≤◌, ◌⊎◌, ℕ, List, Option, Result, Ok, Err, MatchResult}
use Rattle.std.specs.Prelude.{string_bytes}
use Rattle.std.specs.Io.KnownBytes.{Appends}
use Rattle.command_words.specs.Asked.{AskFor}
use Rattle.command_words.specs.declared.mode.Mode.{Mode}
use Rattle.command_words.specs.declared.mode.Mode.TheVariants as mode
use Rattle.command_words.specs.declared.mode.Usage.{Usage}
use Rattle.command_words.specs.declared.mode.Usage.TheVariants as usage
use Rattle.gateway_server.specs.declared.fault.Fault.{Fault}
use Rattle.gateway_server.specs.Causes.{IsListen}

-- it prints where it listens, or events, while it runs
abbrev pub PrintsEarly : Mode → Type 0
PrintsEarly (mode.Run file listen links names) = Unit
PrintsEarly (mode.Watch file) = Unit
PrintsEarly other = ⊥

-- it prints something, early or when it is done
abbrev pub PrintsSomething : Mode → Type 0
PrintsSomething (mode.Format file net_id slots) = ⊥
PrintsSomething (mode.Stop file) = ⊥
PrintsSomething (mode.Reload file) = ⊥
PrintsSomething other = Unit

-- it serves links that come and go, and may fail after it has printed where it listens
abbrev pub AsksToRun : Mode → Type 0
AsksToRun (mode.Run file listen links names) = Unit
AsksToRun other = ⊥

-- the result of a command that returns such a value: the text to print, or the fault
abbrev pub outcome_with : {A : Type 0} → (A → List ℕ) → Result A Fault → Result (List ℕ) Fault
outcome_with text_of (Ok value) = Ok (text_of value)
outcome_with text_of (Err fault) = Err fault

-- How commands that were to do this ended: it was done, and its text is on standard output after
-- what was there, or part of the text couldn't be written; or it failed.
abbrev pub WasObeyed : {O E : Type 0} → (Mode → Result (List ℕ) Fault → Type 0) → Mode
    → (O → Option (List ℕ)) → O → O → Result (Result (Unit {0}) E) Fault → Type 0
WasObeyed ends m contents old new result = MatchResult result
    (λ told. (text : List ℕ) × (ends m (Ok text)
    × MatchResult told (λ _. PrintsEarly m ⊎ Appends (contents old) (contents new) text)
    (λ _. PrintsSomething m)))
    (λ fault. ends m (Err fault) × (AsksToRun m ⊎ (new ≡ old)))

-- these words ask for something that has this property
abbrev pub IsAskedFor : List (List ℕ) → (Mode → Type 0) → Type 0
IsAskedFor words holds = (m : Mode) × (AskFor words m × holds m)

-- this was done, and its text was printed
pub record IsDone {O : Type 0} (ends : Mode → Result (List ℕ) Fault → Type 0)
    (contents : O → Option (List ℕ)) (old new : O) (m : Mode) : Type 0 where
  pub text : List ℕ
  pub ended : ends m (Ok text)
  pub told : PrintsEarly m ⊎ Appends (contents old) (contents new) text

-- this failed, and printed nothing, or it was done and its text couldn't be printed
pub record FellShort {O : Type 0} (ends : Mode → Result (List ℕ) Fault → Type 0) (old new : O)
    (m : Mode) : Type 0 where
  pub outcome : Result (List ℕ) Fault
  pub ended : ends m outcome
  pub cause : MatchResult outcome (λ _. PrintsSomething m)
      (λ fault. (AsksToRun m → IsListen fault → ⊥) × (AsksToRun m ⊎ (new ≡ old)))

-- this is to serve links that come and go, and the address can't be listened on
abbrev pub CannotListen : (Mode → Result (List ℕ) Fault → Type 0) → Mode → Type 0
CannotListen ends m =
    AsksToRun m × ((fault : Fault) × (IsListen fault × ends m (Err fault)))

-- the status of what was asked for: 0 if it was done and printed, 3 if it can't listen, or 1
abbrev pub HasStatus : {O : Type 0} → (Mode → Result (List ℕ) Fault → Type 0)
    → (O → Option (List ℕ)) → O → O → Mode → ℕ → Type 0
HasStatus ends contents old new m status =
    ((status ≡ 0) × IsDone ends contents old new m)
    ⊎ (((status ≡ 1) × FellShort ends old new m) ⊎ ((status ≡ 3) × CannotListen ends m))

-- The status of words that ask for no action: 2 for wrong ones; for help 0 if its text is on
-- standard output after what was there, and otherwise 1; 1 if memory was out.
abbrev pub HasUsageStatus : {O : Type 0} → Usage → (O → Option (List ℕ)) → O → O → ℕ → Type 0
HasUsageStatus (usage.Words text) contents old new status = (status ≡ 2) × (new ≡ old)
HasUsageStatus (usage.Help text) contents old new status = (status ≤ 1)
    × (status ≡ 0 → Appends (contents old) (contents new) (string_bytes text))
HasUsageStatus usage.Memory contents old new status = (status ≡ 1) × (new ≡ old)
