-- What a crash leaves after a sync.
use Rattle.std.proofs.Common.{◌≡◌, ◌∙◌, List, ℕ, length, slice_index, sym, ap, subst, Result, Ok, Err, OnOk, OnErr}
use Rattle.disk.specs.State.{State, EveryImage, IsSettledAt}

-- only what it might have left before, whether the sync succeeded or not
pub still_every : {T E : Type 0} (before after : State) (r : Result T E) (P : List ℕ → Type 0) → OnOk r (IsSettledAt before.content after)
    → OnErr r (after ≡ before) → EveryImage before P → EveryImage after P
still_every before after (Ok x) P settled same every = λ image permitted.
    every image
    (record {
      same_length = permitted.same_length ∙ ap (length {A = ℕ}) settled.content;
      kept = λ i shut. permitted.kept i (settled.nothing_open i) ∙ ap (λ (l : List ℕ). slice_index l i) settled.content;
    })
still_every before after (Err e) P settled same every = subst (λ (s : State). EveryImage s P) (sym same) every
