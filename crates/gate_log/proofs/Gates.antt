-- What a write after a closed gate, or to a gate itself, leaves of an area.
use Rattle.std.proofs.Common.{◌≡◌, ◌≢◌, ◌⊎◌, inl, inr, ◌<◌, ◌≤◌, ℕ, ◌+◌, ◌-◌, List, [], ◌∷◌, ◌++◌, length, get_or, take, drop, refl, sym, ◌∙◌, ap, subst, arith, append_assoc, length-append, take-append-drop}
use Rattle.std.proofs.lemmas.List.{drop_at, drop_more, take_at}
use Rattle.std.proofs.lemmas.Bool.{cases_eq}
use Rattle.disk.specs.State.{IsTorn, bytes_after_write}
use Rattle.gate_log.specs.declared.layout.Area.{Area}
use Rattle.gate_log.specs.declared.layout.TheConstants.{OPEN}
use Rattle.gate_log.specs.Areas.{IsShutArea, IsStaged, bytes_in}
use Rattle.gate_log.proofs.Slices.{bytes_torn, bytes_written, length-bytes_in}

-- a list with a gate after these bytes
module _ (before : List ℕ) (gate : ℕ) (tail xs : List ℕ) (is : xs ≡ before ++ (gate ∷ tail)) where
  with_gate : before ++ (gate ∷ tail) ≡ (before ++ gate ∷ []) ++ tail
  with_gate = sym (append_assoc before (gate ∷ []) tail)

  long : length (before ++ gate ∷ []) ≡ length before + 1
  long = length-append before (gate ∷ [])

  take_gate : take (length before + 1) xs ≡ before ++ gate ∷ []
  take_gate = ap (λ (l : List ℕ). take (length before + 1) l) (is ∙ with_gate) ∙ take_at (before ++ gate ∷ []) tail (length before + 1) long

  drop_gate : drop (length before + 1) xs ≡ tail
  drop_gate = ap (λ (l : List ℕ). drop (length before + 1) l) (is ∙ with_gate) ∙ drop_at (before ++ gate ∷ []) tail (length before + 1) long

  take_before : take (length before) xs ≡ before
  take_before = ap (λ (l : List ℕ). take (length before) l) is ∙ take_at before (gate ∷ tail) (length before) refl

  past : length before < length xs
  past = omega (arith, ap length is, length-append before (gate ∷ tail))

  -- torn after the gate
  torn_behind : (n : ℕ) (ys : List ℕ) → IsTorn (length before + 1) n xs ys → ys ≡ before ++ (gate ∷ drop (length before + 1) ys)
  torn_behind n ys torn =
      sym (take-append-drop (length before + 1) ys)
      ∙ ap (λ (l : List ℕ). l ++ drop (length before + 1) ys) (torn.before ∙ take_gate)
      ∙ append_assoc before (gate ∷ []) (drop (length before + 1) ys)

  -- torn at the gate
  torn_gate : (ys : List ℕ) → IsTorn (length before) 1 xs ys → ys ≡ before ++ (get_or ys (length before) 0 ∷ tail)
  torn_gate ys torn =
      sym (take-append-drop (length before) ys)
      ∙ ap (λ (l : List ℕ). l ++ drop (length before) ys) (torn.before ∙ take_before)
      ∙ ap (λ (l : List ℕ). before ++ l) (drop_more ys (length before) 0 (omega (arith, past, torn.same_length)))
      ∙ ap (λ (l : List ℕ). before ++ (get_or ys (length before) 0 ∷ l)) (torn.after ∙ drop_gate)

  written_behind : (staged : List ℕ) (next : ℕ) (bytes : List ℕ) → bytes ≡ staged ++ next ∷ [] → bytes_after_write xs (length before + 1) bytes ≡ before ++ (gate ∷ (staged ++ (next ∷ drop ((length before + 1) + length bytes) xs)))
  written_behind staged next bytes are =
      let rest = drop ((length before + 1) + length bytes) xs in
      ap (λ (l : List ℕ). l ++ bytes ++ rest) take_gate
      ∙ append_assoc (before ++ gate ∷ []) bytes rest
      ∙ ap (λ (l : List ℕ). (before ++ gate ∷ []) ++ (l ++ rest)) are
      ∙ ap (λ (l : List ℕ). (before ++ gate ∷ []) ++ l) (append_assoc staged (next ∷ []) rest)
      ∙ append_assoc before (gate ∷ []) (staged ++ (next ∷ rest))

  written_gate : (byte : ℕ) → bytes_after_write xs (length before) (byte ∷ []) ≡ before ++ (byte ∷ tail)
  written_gate byte =
      ap (λ (l : List ℕ). l ++ (byte ∷ []) ++ drop (length before + 1) xs) take_before
      ∙ ap (λ (l : List ℕ). before ++ (byte ∷ []) ++ l) drop_gate
      ∙ append_assoc before (byte ∷ []) tail

module _ (area : Area) (before old : List ℕ) (order : area.start ≤ area.end) (within : area.end ≤ length old) where
  -- a write after a closed gate
  pub shut_torn : (at n : ℕ) (new : List ℕ) → IsShutArea area before old → at ≡ area.start + (length before + 1) → IsTorn at n old new → at + n ≤ area.end → IsShutArea area before new
  shut_torn at n new shut place torn fits = record {
    gate = shut.gate;
    free = drop (length before + 1) (bytes_in area new);
    bytes =
        torn_behind before shut.gate shut.free (bytes_in area old) shut.bytes n (bytes_in area new)
        (bytes_torn area (length before + 1) n old new (subst (λ (k : ℕ). IsTorn k n old new) place torn) (omega (arith, place, fits)));
    closed = shut.closed;
  }

  pub shut_written : (at next : ℕ) (staged bytes new : List ℕ) → IsShutArea area before old → at ≡ area.start + (length before + 1) → bytes ≡ staged ++ next ∷ [] → next ≢ OPEN → at + length bytes ≤ area.end → new ≡ bytes_after_write old at bytes → IsStaged area before staged new
  shut_written at next staged bytes new shut place are closed fits is = record {
    gate = shut.gate;
    next_gate = next;
    free = drop ((length before + 1) + length bytes) (bytes_in area old);
    bytes =
        ap (λ (l : List ℕ). bytes_in area l) (is ∙ ap (λ (k : ℕ). bytes_after_write old k bytes) place)
        ∙ bytes_written area (length before + 1) old bytes (omega (arith, place, fits)) within
        ∙ written_behind before shut.gate shut.free (bytes_in area old) shut.bytes staged next bytes are;
    closed = shut.closed;
    next_closed = closed;
  }

  module _ (staged : List ℕ) (is_staged : IsStaged area before staged old) where
    abbrev tail : List ℕ
    tail = staged ++ (is_staged.next_gate ∷ is_staged.free)

    pub room : length before < area.end - area.start
    room = omega (arith, past before is_staged.gate tail (bytes_in area old) is_staged.bytes, length-bytes_in area old order within)

    opened : (new : List ℕ) → bytes_in area new ≡ before ++ (OPEN ∷ tail) → IsShutArea area (before ++ (OPEN ∷ staged)) new
    opened new is = record {
      gate = is_staged.next_gate;
      free = is_staged.free;
      bytes = is ∙ sym (append_assoc before (OPEN ∷ staged) (is_staged.next_gate ∷ is_staged.free));
      closed = is_staged.next_closed;
    }

    -- without the gate's write
    pub staged_shut : IsShutArea area before old
    staged_shut = record { gate = is_staged.gate; free = tail; bytes = is_staged.bytes; closed = is_staged.closed }

    -- a write to that gate
    pub gate_torn : (at : ℕ) (new : List ℕ) → at ≡ area.start + length before → IsTorn at 1 old new → IsShutArea area before new ⊎ IsShutArea area (before ++ (OPEN ∷ staged)) new
    gate_torn at new place torn =
        let near = bytes_torn area (length before) 1 old new (subst (λ (k : ℕ). IsTorn k 1 old new) place torn) (omega (arith, room)) in
        let byte = get_or (bytes_in area new) (length before) 0 in
        let is : bytes_in area new ≡ before ++ (byte ∷ tail) = torn_gate before is_staged.gate tail (bytes_in area old) is_staged.bytes (bytes_in area new) near in
        elim (cases_eq byte OPEN) [
          | inl is_open ↦ inr (opened new (is ∙ ap (λ (k : ℕ). before ++ (k ∷ tail)) is_open))
          | inr is_shut ↦ inl (record { gate = byte; free = tail; bytes = is; closed = is_shut })
        ]

    pub gate_written : (at : ℕ) (new : List ℕ) → at ≡ area.start + length before → new ≡ bytes_after_write old at (OPEN ∷ []) → IsShutArea area (before ++ (OPEN ∷ staged)) new
    gate_written at new place is =
        opened new
        (ap (λ (l : List ℕ). bytes_in area l) (is ∙ ap (λ (k : ℕ). bytes_after_write old k (OPEN ∷ [])) place)
        ∙ bytes_written area (length before) old (OPEN ∷ []) (omega (arith, room)) within
        ∙ written_gate before is_staged.gate tail (bytes_in area old) is_staged.bytes OPEN)
