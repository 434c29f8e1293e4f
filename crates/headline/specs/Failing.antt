-- Which steps make no call of the disk fail.
use Rattle.std.specs.Prelude.{List, [], ◌∷◌}
use Rattle.world.specs.declared.step.Step.{Step}
use Rattle.world.specs.declared.step.Step.TheVariants as steps

-- no step arms a failure
abbrev pub ArmsNothing : List Step → Type 0
ArmsNothing [] = Unit {0}
ArmsNothing (steps.Fail ∷ rest) = ⊥
ArmsNothing (step ∷ rest) = ArmsNothing rest
