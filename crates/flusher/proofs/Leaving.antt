-- Effects that were added, and those that are left.
use Rattle.std.proofs.Common.{◌≡◌, ◌∙◌, List, [], ◌∷◌, ◌++◌, sym, ap, refl, append_assoc}
use Rattle.devices.specs.declared.effect.Effect.{Effect}
use Rattle.sessions.specs.Decision.{effects_in}
use Rattle.sessions.specs.declared.decision.Decision.{Decision}
use Rattle.flusher.specs.declared.released.Released.{Released}
use Rattle.flusher.specs.Released.{effect_of, effects_of_all}

effects_push : (out : List Released) (r : Released) (rest : List Effect) → effects_of_all (out ++ r ∷ []) ++ rest ≡ effects_of_all out ++ (effect_of r ∷ rest)
effects_push [] r rest = refl
effects_push (x ∷ out) r rest = ap (λ es. effect_of x ∷ es) (effects_push out r rest)

-- the next effect is added
pub one_more : (out next : List Released) (r : Released) (left rest all : List Effect) → next ≡ out ++ r ∷ [] → left ≡ effect_of r ∷ rest
    → effects_of_all out ++ left ≡ all → effects_of_all next ++ rest ≡ all
one_more out next r left rest all added front before =
    ap (λ (o : List Released). effects_of_all o ++ rest) added ∙ (effects_push out r rest ∙ (ap (λ es. effects_of_all out ++ es) (sym front) ∙ before))

-- the effects of the next decision are added
pub decision_more : (out next : List Released) (d : Decision) (left rest : List Decision) (all : List Effect) → effects_of_all next ≡ effects_of_all out ++ d.effects
    → left ≡ d ∷ rest → effects_of_all out ++ effects_in left ≡ all → effects_of_all next ++ effects_in rest ≡ all
decision_more out next d left rest all added front before =
    ap (λ es. es ++ effects_in rest) added
    ∙ (append_assoc (effects_of_all out) d.effects (effects_in rest) ∙ (ap (λ (ds : List Decision). effects_of_all out ++ effects_in ds) (sym front) ∙ before))
