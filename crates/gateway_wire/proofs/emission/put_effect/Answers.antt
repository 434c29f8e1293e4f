use Rattle.std.proofs.Common.{◌⊎◌, inl, inr}
use Rattle.gateway_wire.proofs.emission.put_effect.Goals as goal

-- of two cases
either : {A B C : Type 0} → A ⊎ B → (A → C) → (B → C) → C
either (inl a) f g = f a
either (inr b) f g = g b

pub returns-in-Forward-clause-put : goal.returns-in-Forward-clause-put
returns-in-Forward-clause-put c = rw c.in-Forward.is c.put_uplink.ensures.put

pub returns-in-Forward-clause-fits : goal.returns-in-Forward-clause-fits
returns-in-Forward-clause-fits c = rw c.in-Forward.is (λ ok. c.put_uplink.ensures.short)

pub returns-in-Accept-clause-put : goal.returns-in-Accept-clause-put
returns-in-Accept-clause-put c = either c.in-Accept.is
    (λ accept. rw accept.1 c.put_downlink.ensures.put)
    (λ down. rw down.2 c.put_downlink.ensures.put)
