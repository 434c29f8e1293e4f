-- What an emit does to a course.
use Rattle.std.proofs.Common.{◌≡◌, ◌∙◌, ◌<◌, ◌⊎◌, ℕ, zero, suc, List, [], ◌∷◌, slice_get, get_or, Option, Some, None, length, map, ap, subst, sym, refl}
use Rattle.flusher.specs.declared.released.Released.{Released}
use Rattle.flusher.specs.Released.{effect_of, effects_of_all}
use Rattle.std.specs.Option.{MatchOption}
use Rattle.std.proofs.lemmas.Option.{slice_get-get_or}
use Rattle.disk.specs.State.{State}
use Rattle.lw_types.specs.declared.refusal.Refusal.TheVariants.{OutOfMemory}
use Rattle.gateway_wire.specs.Emission.{emission}
use Rattle.world.specs.declared.answer.Answer.{Answer}
use Rattle.world.specs.declared.answer.Answer.TheVariants as answers
use Rattle.world.specs.declared.condition.Condition.{Condition}
use Rattle.world.specs.declared.condition.Condition.TheVariants.{Open, Closed, Crashing}
use Rattle.world.specs.Course.{Origin, Course}
use Rattle.world.specs.Answers.{AnswersEmit}
use Rattle.world.specs.Follows.{FollowsCondition}
use Rattle.world.proofs.Shapes.{same-life}

abbrev each : {A B : Type 0} → (A → B) → Option A → Option B
each f None = None
each f (Some x) = Some (f x)

get_map : {A B : Type 0} (f : A → B) (xs : List A) (n : ℕ) → slice_get (map f xs) n ≡ each f (slice_get xs n)
get_map f [] n = refl
get_map f (x ∷ xs) zero = refl
get_map f (x ∷ xs) (suc n) = get_map f xs n

-- what is emitted next
next_left : (origin : Origin) (c : Course) (items : List Released) (n : ℕ) → c.left ≡ effects_of_all items
    → c.emitted ≡ n → slice_get c.left c.emitted ≡ each effect_of (slice_get items n)
next_left origin c items n left emitted =
    ap (λ l. slice_get l c.emitted) left ∙ (ap (slice_get (effects_of_all items)) emitted ∙ get_map effect_of items n)

-- what holds if a look found this
pub found_at : (xs items : List Released) (n : ℕ) (released : Released) → xs ≡ items → n < length xs → released ≡ get_or xs n released
    → slice_get items n ≡ Some released
found_at xs items n released same within is =
    subst (λ xs. slice_get xs n ≡ Some released) same (slice_get-get_or xs n released within ∙ ap Some (sym is))

-- an answer with the effect of this release is right
pub emits : (origin : Origin) (c : Course) (items : List Released) (n : ℕ) (released : Released) (answer : Answer) → c.left ≡ effects_of_all items
    → c.emitted ≡ n → slice_get items n ≡ Some released
    → (answer ≡ answers.Emitted (emission (effect_of released))) ⊎ (answer ≡ answers.Refused OutOfMemory) → AnswersEmit c answer
emits origin c items n released answer left emitted there right =
    let next = next_left origin c items n left emitted ∙ ap (each effect_of) there in
    subst (λ o. MatchOption o (answer ≡ answers.Idle) (λ effect. (answer ≡ answers.Emitted (emission effect)) ⊎ (answer ≡ answers.Refused OutOfMemory)))
    (sym next) right

-- how much was emitted doesn't matter to where the world is
pub same_condition : {D : Type 0} {g : _} (state : D → State) (origin : Origin) (c : Course) (n : ℕ) (condition : Condition D g) → FollowsCondition state origin c condition
    → FollowsCondition state origin (record c { emitted = n }) condition
same_condition state origin c n (Open life) (is, (f, listens)) = (is, (same-life f, record { clock = listens.clock; windows = listens.windows; said = listens.said }))
same_condition state origin c n (Closed disk) f = f
same_condition state origin c n Crashing f = f
