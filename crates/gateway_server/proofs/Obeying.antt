-- From how a command ended, and what of it was printed, to what its contract says.
use Rattle.std.proofs.Common.{◌≡◌, ◌≤◌, ◌⊎◌, ◌↔◌, ℕ, List, [], Option, None, Some, Result}
use Rattle.std.proofs.Common.{Ok, Err}
use Rattle.std.proofs.Common.{MatchResult, IfOk, IfErr, IsOk, OnErr, OnOk, inl, inr, refl}
use Rattle.std.proofs.Common.{subst, sym}
use Rattle.std.proofs.Common.{append-nil, arith}
use Rattle.std.proofs.lemmas.Bool.{false≢true}
use Rattle.std.specs.Prelude.{string_bytes}
use Rattle.std.specs.Io.KnownBytes.{Appends}
use Rattle.command_words.specs.Asked.{AskFor, AreWrong, AskForHelp, IsUsageOf}
use Rattle.command_words.specs.declared.mode.Mode.{Mode}
use Rattle.command_words.specs.declared.mode.Usage.{Usage}
use Rattle.command_words.specs.declared.mode.Usage.TheVariants as usage
use Rattle.gateway_server.specs.declared.fault.Fault.{Fault}
use Rattle.gateway_server.specs.Causes.{IsListen}
use Rattle.gateway_server.specs.Told.{AsksToRun, CannotListen, FellShort, HasStatus, HasUsageStatus}
use Rattle.gateway_server.specs.Told.{IsAskedFor, IsDone, PrintsSomething, PrintsEarly, WasObeyed}
use Rattle.gateway_server.specs.Told.{outcome_with}

-- nothing is printed
appends_nothing : (known : Option (List ℕ)) → Appends known known []
appends_nothing None = tt
appends_nothing (Some xs) = sym (append-nil xs)

-- its text was printed
pub of_text : {O E S : Type 0} (ends : Mode → Result (List ℕ) Fault → Type 0) (m asked : Mode)
    (contents : O → Option (List ℕ)) (old new : O) (text_of : S → List ℕ) (text : Result S Fault)
    (result : Result (Result (Unit {0}) E) Fault) → m ≡ asked → PrintsSomething asked
    → ends asked (outcome_with text_of text)
    → IfOk text (λ t. MatchResult result
    (λ told. OnOk told (Appends (contents old) (contents new) (text_of t))) (λ _. ⊥))
    → IfErr text (λ fault. (result ≡ Err fault) × (new ≡ old))
    → WasObeyed ends m contents old new result
of_text ends m asked contents old new text_of (Ok t) (Ok (Ok u)) is says ended ok err =
    (text_of t, (subst (λ a. ends a (Ok (text_of t))) (sym is) ended, inr ok))
of_text ends m asked contents old new text_of (Ok t) (Ok (Err x)) is says ended ok err = (
  text_of t,
  (
    subst (λ a. ends a (Ok (text_of t))) (sym is) ended,
    subst PrintsSomething (sym is) says,
  ),
)
of_text ends m asked contents old new text_of (Ok t) (Err x) is says ended ok err = absurd ok
of_text ends m asked contents old new text_of (Err fault) result is says ended ok err =
    subst (λ r. WasObeyed ends m contents old new r) (sym err.0)
    (subst (λ a. ends a (Err fault)) (sym is) ended, inr err.1)

-- nothing is to be printed
pub of_nothing : {O E S : Type 0} (ends : Mode → Result (List ℕ) Fault → Type 0) (m asked : Mode)
    (contents : O → Option (List ℕ)) (out : O) (ended : Result S Fault)
    (result : Result (Result (Unit {0}) E) Fault) → m ≡ asked
    → ends asked (outcome_with (λ _. []) ended) → (IsOk ended → result ≡ Ok (Ok tt))
    → IfErr ended (λ fault. result ≡ Err fault) → WasObeyed ends m contents out out result
of_nothing ends m asked contents out (Ok x) result is e ok err =
    subst (λ r. WasObeyed ends m contents out out r) (sym (ok refl))
    ([], (subst (λ a. ends a (Ok [])) (sym is) e, inr (appends_nothing (contents out))))
of_nothing ends m asked contents out (Err fault) result is e ok err =
    subst (λ r. WasObeyed ends m contents out out r) (sym err)
    (subst (λ a. ends a (Err fault)) (sym is) e, inr refl)

-- its text was printed elsewhere
pub of_life : {O E S : Type 0} (ends : Mode → Result (List ℕ) Fault → Type 0) (m asked : Mode)
    (contents : O → Option (List ℕ)) (out : O) (ended : Result S Fault)
    (result : Result (Result (Unit {0}) E) Fault) → m ≡ asked → PrintsSomething asked
    → ends m (outcome_with (λ _. []) ended) → (IsOk ended → IsOk result)
    → IfErr ended (λ fault. result ≡ Err fault) → WasObeyed ends m contents out out result
of_life ends m asked contents out (Ok x) (Ok (Ok u)) is says e ok err =
    ([], (e, inr (appends_nothing (contents out))))
of_life ends m asked contents out (Ok x) (Ok (Err y)) is says e ok err =
    ([], (e, subst PrintsSomething (sym is) says))
of_life ends m asked contents out (Ok x) (Err f) is says e ok err = absurd (false≢true (ok refl))
of_life ends m asked contents out (Err fault) result is says e ok err =
    subst (λ r. WasObeyed ends m contents out out r) (sym err)
    (e, inr refl)

-- it was printed before
pub of_early : {O E S : Type 0} (ends : Mode → Result (List ℕ) Fault → Type 0) (m asked : Mode)
    (contents : O → Option (List ℕ)) (old new : O) (ended : Result S Fault)
    (result : Result (Result (Unit {0}) E) Fault) → m ≡ asked → PrintsEarly asked
    → PrintsSomething asked → ends m (outcome_with (λ _. []) ended)
    → (IsOk ended → IsOk result)
    → IfErr ended (λ fault. (result ≡ Err fault) × (AsksToRun asked ⊎ (new ≡ old)))
    → WasObeyed ends m contents old new result
of_early ends m asked contents old new (Ok x) (Ok (Ok u)) is early says e ok err =
    ([], (e, inl (subst PrintsEarly (sym is) early)))
of_early ends m asked contents old new (Ok x) (Ok (Err y)) is early says e ok err =
    ([], (e, subst PrintsSomething (sym is) says))
of_early ends m asked contents old new (Ok x) (Err f) is early says e ok err =
    absurd (false≢true (ok refl))
of_early ends m asked contents old new (Err fault) result is early says e ok err =
    subst (λ r. WasObeyed ends m contents old new r) (sym err.0)
    (e, subst (λ a. AsksToRun a ⊎ (new ≡ old)) (sym is) err.1)

-- a fault is passed on, after any output
pub told_on : {S T : Type 0} (Q R : Type 0) (ended : Result S Fault) (result : Result T Fault) → Q
    → IfErr ended (λ fault. result ≡ Err fault)
    → IfErr ended (λ fault. (result ≡ Err fault) × (Q ⊎ R))
told_on Q R (Ok x) result asked err = tt
told_on Q R (Err fault) result asked err = (err, inl asked)

-- a fault is its own answer, and nothing was printed
pub itself : {S : Type 0} (Q R : Type 0) (ended : Result S Fault) → OnErr ended R
    → IfErr ended (λ fault. (ended ≡ Err fault) × (Q ⊎ R))
itself Q R (Ok x) quiet = tt
itself Q R (Err fault) quiet = (refl, inr quiet)

-- it was done
pub of_done : {O E : Type 0} (ends : Mode → Result (List ℕ) Fault → Type 0) (m : Mode)
    (contents : O → Option (List ℕ)) (old new : O) (told : Result (Unit {0}) E) (status : ℕ)
    → WasObeyed ends m contents old new (Ok told) → status ≤ 1 → ((status ≡ 0) ↔ IsOk told)
    → HasStatus ends contents old new m status
of_done ends m contents old new (Ok u) status was range ok =
    inl (ok.1 refl, record { text = was.0; ended = was.1.0; told = was.1.1 })
of_done ends m contents old new (Err x) status was range ok =
    let some : status ≡ 0 → ⊥ = λ z. false≢true (ok.0 z) in
    inr (inl (
      omega (arith, range, some),
      record { outcome = Ok was.0; ended = was.1.0; cause = was.1.1 },
    ))

-- it failed
pub of_fault : {O : Type 0} (ends : Mode → Result (List ℕ) Fault → Type 0) (m : Mode)
    (contents : O → Option (List ℕ)) (old new : O) (fault : Fault) (status : ℕ)
    → ends m (Err fault) × (AsksToRun m ⊎ (new ≡ old)) → (status ≡ 1) ⊎ (status ≡ 3)
    → (status ≡ 1 → AsksToRun m → IsListen fault → ⊥)
    → (status ≡ 3 → AsksToRun m × IsListen fault) → HasStatus ends contents old new m status
of_fault ends m contents old new fault status was (inl is) one three =
    inr (inl (is, record { outcome = Err fault; ended = was.0; cause = (one is, was.1) }))
of_fault ends m contents old new fault status was (inr is) one three =
    inr (inr (is, ((three is).0, (fault, ((three is).1, was.0)))))

-- what a command's status means
pub record CommandTells {C O : Type 0} (words : List (List ℕ))
    (ends : Mode → Result (List ℕ) Fault → Type 0) (contents : O → Option (List ℕ))
    (before after : C) (old new : O) (status : ℕ) : Type 0 where
  pub range : status ≤ 3
  pub done : status ≡ 0
      → (AskForHelp words × ((after ≡ before)
      × ((text : List ℕ) × Appends (contents old) (contents new) text)))
      ⊎ IsAskedFor words (IsDone ends contents old new)
  pub failed : status ≡ 1
      → ((after ≡ before) × (AskForHelp words ⊎ (new ≡ old)))
      ⊎ IsAskedFor words (FellShort ends old new)
  pub wrong : status ≡ 2 → AreWrong words
  pub quiet : status ≡ 2 → (after ≡ before) × (new ≡ old)
  pub address : status ≡ 3 → IsAskedFor words (CannotListen ends)

pub of_mode : {C O : Type 0} (words : List (List ℕ)) (ends : Mode → Result (List ℕ) Fault → Type 0)
    (contents : O → Option (List ℕ)) (before after : C) (old new : O) (m : Mode) (status : ℕ)
    → AskFor words m → HasStatus ends contents old new m status
    → CommandTells words ends contents before after old new status
of_mode words ends contents before after old new m status asked (inl has) = record {
  range = omega (arith, has.0);
  done = λ z. inr (m, (asked, has.1));
  failed = λ z. absurd (omega (arith, has.0));
  wrong = λ z. absurd (omega (arith, has.0));
  quiet = λ z. absurd (omega (arith, has.0));
  address = λ z. absurd (omega (arith, has.0));
}
of_mode words ends contents before after old new m status asked (inr (inl has)) = record {
  range = omega (arith, has.0);
  done = λ z. absurd (omega (arith, has.0));
  failed = λ z. inr (m, (asked, has.1));
  wrong = λ z. absurd (omega (arith, has.0));
  quiet = λ z. absurd (omega (arith, has.0));
  address = λ z. absurd (omega (arith, has.0));
}
of_mode words ends contents before after old new m status asked (inr (inr has)) = record {
  range = omega (arith, has.0);
  done = λ z. absurd (omega (arith, has.0));
  failed = λ z. absurd (omega (arith, has.0));
  wrong = λ z. absurd (omega (arith, has.0));
  quiet = λ z. absurd (omega (arith, has.0));
  address = λ z. (m, (asked, has.1));
}

pub of_usage : {C O : Type 0} (words : List (List ℕ)) (ends : Mode → Result (List ℕ) Fault → Type 0)
    (contents : O → Option (List ℕ)) (commands : C) (old new : O) (u : Usage) (status : ℕ)
    → IsUsageOf words u → HasUsageStatus u contents old new status
    → CommandTells words ends contents commands commands old new status
of_usage words ends contents commands old new (usage.Words text) status is has = record {
  range = omega (arith, has.0);
  done = λ z. absurd (omega (arith, has.0));
  failed = λ z. absurd (omega (arith, has.0));
  wrong = λ z. is;
  quiet = λ z. (refl, has.1);
  address = λ z. absurd (omega (arith, has.0));
}
of_usage words ends contents commands old new (usage.Help text) status is has = record {
  range = omega (arith, has.0);
  done = λ z. inl (is, (refl, (string_bytes text, has.1 z)));
  failed = λ z. inl (refl, inl is);
  wrong = λ z. absurd (omega (arith, has.0));
  quiet = λ z. absurd (omega (arith, has.0));
  address = λ z. absurd (omega (arith, has.0));
}
of_usage words ends contents commands old new usage.Memory status is has = record {
  range = omega (arith, has.0);
  done = λ z. absurd (omega (arith, has.0));
  failed = λ z. inl (refl, inr has.1);
  wrong = λ z. absurd (omega (arith, has.0));
  quiet = λ z. absurd (omega (arith, has.0));
  address = λ z. absurd (omega (arith, has.0));
}
