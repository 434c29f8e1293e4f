-- One more effect is taken.
use Rattle.std.proofs.Common.{◌≡◌, ◌+◌, ◌++◌, ◌∷◌, ℕ, List, [], refl, ap, sym, ◌∙◌, inl, inr, append_assoc, append-nil}
use Rattle.devices.specs.declared.effect.Effect.{Effect}
use Rattle.gateway_wire.specs.Emission.{recipient}
use Rattle.gateway_wire.specs.declared.recipient.Recipient.{Recipient}
use Rattle.gateway_wire.specs.Emission.{effect_frame}
use Rattle.lnsd_links.specs.Sending.{AreTogether}

-- and lost
pub lost_one : (name : Recipient) (effects : List Effect) (effect : Effect) (lost : ℕ) (bytes : List ℕ)
    → AreTogether name effects lost bytes → AreTogether name (effects ++ effect ∷ []) (lost + 1) bytes
lost_one name [] effect lost bytes (none, nothing) = inl (0, (ap (λ (n : ℕ). n + 1) none, (refl, nothing)))
lost_one name (e ∷ es) effect lost bytes (inl (others, (count, more))) =
    inl (others + 1, (ap (λ (n : ℕ). n + 1) count, lost_one name es effect others bytes more))
lost_one name (e ∷ es) effect lost bytes (inr (for_it, (rest, (front, more)))) =
    inr (for_it, (rest, (front, lost_one name es effect lost rest more)))

-- and its frame added
pub added_one : (name : Recipient) (effects : List Effect) (effect : Effect) (lost : ℕ) (bytes : List ℕ)
    → recipient effect ≡ name → AreTogether name effects lost bytes
    → AreTogether name (effects ++ effect ∷ []) lost (bytes ++ effect_frame effect)
added_one name [] effect lost bytes is (none, nothing) =
    let after = λ (b : List ℕ). b ++ effect_frame effect in
    inr (is, ([], (ap after nothing ∙ sym (append-nil (effect_frame effect)), (none, refl))))
added_one name (e ∷ es) effect lost bytes is (inl (others, (count, more))) =
    inl (others, (count, added_one name es effect others bytes is more))
added_one name (e ∷ es) effect lost bytes is (inr (for_it, (rest, (front, more)))) =
    let after = λ (b : List ℕ). b ++ effect_frame effect in
    inr (for_it, (rest ++ effect_frame effect, (ap after front ∙ append_assoc (effect_frame e) rest (effect_frame effect), added_one name es effect lost rest is more)))
