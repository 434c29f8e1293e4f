-- The old bytes still stand in front.
use Rattle.std.proofs.Common.{◌≡◌, ℕ, ◌≤◌, ◌∙◌, ◌++◌, List, length, take, ap, sym, refl, arith, length-append}
use Rattle.std.proofs.lemmas.List.{take-take, take_at}
use Rattle.record_codec.specs.Writing.{KeepsFront}

-- if bytes still stand in front, so does each beginning of them
pub keeps_more : (old more mid new : List ℕ) → mid ≡ old ++ more → KeepsFront mid new → KeepsFront old new
keeps_more old more mid new is kept =
    let long : length mid ≡ length (old ++ more) = ap length is in
    let within : length old ≤ length mid = omega (arith, length-append old more) in
    sym (take-take (length old) (length mid) new within) ∙ (ap (take (length old)) (kept ∙ is) ∙ take_at old more (length old) refl)
