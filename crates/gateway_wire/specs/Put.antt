-- What is put after some bytes.
use Rattle.std.specs.Prelude.{◌≡◌, ◌++◌, ℕ, List, Result, Ok, Err}

-- The old bytes stay. If memory was enough, exactly these bytes come after them. If memory ran out,
-- any bytes may come after them.
abbrev pub IsPut : {E : Type 0} → List ℕ → List ℕ → Result (Unit {0}) E → List ℕ → Type 0
IsPut bytes old (Ok done) new = new ≡ old ++ bytes
IsPut bytes old (Err e) new = (part : List ℕ) × (new ≡ old ++ part)
