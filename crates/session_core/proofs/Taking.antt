-- What a take gives of the history.
use Rattle.std.proofs.Common.{◌≡◌, ◌≤◌, ◌<◌, ◌+◌, ◌∙◌, ℕ, zero, suc, List, [], ◌∷◌, ◌++◌, Ok, drop, length, take, ap, arith, refl, subst, sym}
use Rattle.std.proofs.lemmas.List.{take-append-drop}
use mathlib.Core.List.{IsPrefix}
use Rattle.sessions.specs.declared.decision.Decision.{Decision}
use Rattle.session_core.specs.History.{HasAllDecisions}
use Rattle.session_core.specs.State.{DecisionsState, IsLawful}
use Rattle.session_core.specs.Taking.{DrawsNext, TakerState}

-- the first elements of a list are no more than was asked for; if they are fewer, they are all
take-few : {X : Type 0} (n : ℕ) (xs : List X) → length (take n xs) ≤ n
take-few zero xs = omega arith
take-few (suc n) [] = omega arith
take-few (suc n) (x ∷ xs) = let rest = take-few n xs in omega (arith, rest)

take-fewer : {X : Type 0} (n : ℕ) (xs : List X) → length (take n xs) < n → length (take n xs) ≡ length xs
take-fewer zero xs less = absurd (omega (arith, less))
take-fewer (suc n) [] less = refl
take-fewer (suc n) (x ∷ xs) less = let rest = take-fewer n xs (omega (arith, less)) in ap suc rest

pub takes-next : (s : DecisionsState) (history : List Decision) (most : ℕ) (batch : List Decision) (old new : TakerState) → IsLawful s → HasAllDecisions s history
    → s.taken ≡ old.taken → batch ≡ take most s.log → IsPrefix old.seen history → new.taken ≡ old.taken + length batch → new.seen ≡ history
    → DrawsNext old most (Ok batch) new
takes-next s history most batch old new lawful whole same is before counted seen =
    let log : s.log ≡ drop old.taken new.seen = whole.rest ∙ (ap (λ n. drop n history) same ∙ ap (drop old.taken) (sym seen)) in
    let long : length batch ≡ length (take most s.log) = ap length is in
    let few = take-few most s.log in
    let front : IsPrefix batch (drop old.taken new.seen) = (drop most s.log, ap (λ l. l ++ drop most s.log) is ∙ (take-append-drop most s.log ∙ log)) in (
      counted,
      (
        omega (arith, long, few),
        (
          front,
          (
            subst (IsPrefix old.seen) (sym seen) before,
            λ less.
                let all = take-fewer most s.log (omega (arith, less, long)) in
                let count = lawful.count in
                let made = whole.made in
                let end : length new.seen ≡ length history = ap length seen in
                omega (arith, counted, long, all, count, made, same, end),
          ),
        ),
      ),
    )
