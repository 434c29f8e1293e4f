-- Lives that go on, by what a cycle or an opening did.
use Rattle.std.proofs.Common.{◌≡◌, ◌⊎◌, ◌∙◌, ◌+◌, ◌++◌, ℕ, List, [], Bool, true, false, MatchBool, length, inl, inr, ap, refl, subst, sym, arith, length-append}
use Rattle.std.proofs.lemmas.List.{length-map}
use Rattle.devices.specs.declared.command.Command.{Command}
use Rattle.disk.specs.State.{EveryImage, IsPermitted, State}
use Rattle.lw_types.specs.declared.refusal.Refusal.{Refusal}
use Rattle.sessions.specs.Decision.{commands_of}
use Rattle.sessions.specs.Table.{TableState, fold_of}
use Rattle.sessions.specs.declared.decision.Decision.{Decision}
use Rattle.store.specs.Faults.{IsFault}
use Rattle.store.specs.Image.{HoldsTable}
use Rattle.store.specs.State.{HoldsOn, StoreState, IsOpened, IsSettled}
use Rattle.flusher.specs.Cycle.{Commits, HoldsWithOrWithout}
use Rattle.flusher.specs.Lived.{AreOnDisk, HaveLed, HoldsFold, HoldsWithTorn}
use Rattle.flusher.specs.Lives.{Lives, no_lives, lives_after}
use Rattle.flusher.specs.Lives.LifeEvent.{Opened, Released, Torn}
use Rattle.flusher.proofs.Holding.{held_along}

pub either_way : {X : Type 0} (b : Bool) → X → MatchBool b (Unit {0}) X
either_way true x = tt
either_way false x = x

-- a store with nothing under way is on its disk
abbrev pub IsOnDisk : Type 0
IsOnDisk = (s : StoreState) → IsSettled s → EveryImage s.log.disk (HoldsTable s.table s.seq)

-- two runs of commands, one after the other
abbrev pub AreComposed : Type 0
AreComposed = (t : TableState) (first second : List Command) → fold_of t (first ++ second) ≡ fold_of (fold_of t first) second

module _ (lives : Lives) (t : TableState) (number : ℕ) (s : StoreState) (led : HaveLed lives t number s) where
  -- by whether a call of the disk has failed
  pub by_failed : {X : Type 0} → (s.failed ≡ true → X) → (lives.torn ≡ [] → IsSettled s → X) → X
  by_failed {X} failed none = by s.failed refl led.settled
    where
      by : (b : Bool) → s.failed ≡ b → MatchBool b (Unit {0}) ((lives.torn ≡ []) × IsSettled s) → X
      by true is _ = failed is
      by false is (nothing, settled) = none nothing settled

  -- a store with nothing under way
  pub rests : IsOnDisk → (s' : StoreState) → s'.table ≡ s.table → s'.seq ≡ s.seq → lives.torn ≡ [] → IsSettled s' → HaveLed lives t number s'
  rests on_disk s' table seq nothing settled = record {
    table = table ∙ led.table;
    seq = seq ∙ led.seq;
    images = λ image p. inl (on_disk s' settled image p);
    settled = either_way s'.failed (nothing, settled);
  }

  -- a call of the disk failed, and every image holds what the store has
  pub fails : (s' : StoreState) → s'.table ≡ s.table → s'.seq ≡ s.seq → s'.failed ≡ true → EveryImage s'.log.disk (HoldsTable s.table s.seq)
      → HaveLed lives t number s'
  fails s' table seq is images = record {
    table = table ∙ led.table;
    seq = seq ∙ led.seq;
    images = λ image p. inl (held_along s' s image (sym table) (sym seq) (images image p));
    settled = subst (λ b. MatchBool b (Unit {0}) ((lives.torn ≡ []) × IsSettled s')) (sym is) tt;
  }

  -- or that with the batch
  pub tears : (s' : StoreState) (batch : List Decision) → s'.table ≡ s.table → s'.seq ≡ s.seq → s'.failed ≡ true → EveryImage s'.log.disk (HoldsWithOrWithout s batch)
      → HaveLed (lives_after t lives (Torn (commands_of batch))) t number s'
  tears s' batch table seq is images = record {
    table = table ∙ led.table;
    seq = seq ∙ led.seq;
    images = λ image p. by image (images image p);
    settled = subst (λ b. MatchBool b (Unit {0}) ((commands_of batch ≡ []) × IsSettled s')) (sym is) tt;
  }
    where
      count : s.seq + length batch ≡ s'.seq + length (commands_of batch)
      count = let same = length-map batch (λ (d : Decision). d.command) in omega (arith, seq, same)

      by : (image : List ℕ) → HoldsWithOrWithout s batch image → HoldsWithTorn s' (commands_of batch) image
      by image (inl h) = inl (held_along s' s image (sym table) (sym seq) h)
      by image (inr h) =
          inr (subst (λ n. HoldsTable (fold_of s'.table (commands_of batch)) n image) count
          (subst (λ u. HoldsTable (fold_of u (commands_of batch)) (s.seq + length batch) image) (sym table) h))

  -- the batch was committed
  pub commits : IsOnDisk → AreComposed → (s' : StoreState) (batch : List Decision) → lives.torn ≡ [] → Commits s s' batch → IsSettled s'
      → HaveLed (lives_after t lives (Released (commands_of batch))) t number s'
  commits on_disk composed s' batch nothing done settled =
      let commands = commands_of batch in
      let same = length-map batch (λ (d : Decision). d.command) in
      let both = length-append lives.durable commands in
      let before = led.seq in
      let after = done.seq in
      record {
        table = done.table ∙ (ap (λ u. fold_of u commands) led.table ∙ sym (composed t lives.durable commands));
        seq = omega (arith, same, both, before, after);
        images = λ image p. inl (on_disk s' settled image p);
        settled = either_way s'.failed (nothing, settled);
      }

  -- what a crash left was opened
  pub opens : IsOnDisk → AreComposed → (s' : StoreState) (left : List ℕ) → IsPermitted s.log.disk left → IsOpened left s'
      → (found : Bool) × HaveLed (lives_after t lives (Opened found)) t number s'
  opens on_disk composed s' left permitted opened = by (led.images left permitted)
    where
      by : HoldsWithTorn s lives.torn left → (found : Bool) × HaveLed (lives_after t lives (Opened found)) t number s'
      by (inl h) =
          let is = opened.only s.table s.seq h in (
            false,
            record {
              table = sym is.0 ∙ led.table;
              seq = sym is.1 ∙ led.seq;
              images = λ image p. inl (on_disk s' opened.settled image p);
              settled = either_way s'.failed (refl, opened.settled);
            },
          )
      by (inr h) =
          let is = opened.only (fold_of s.table lives.torn) (s.seq + length lives.torn) h in
          let both = length-append lives.durable lives.torn in
          let before = led.seq in
          let after = is.1 in (
            true,
            record {
              table = sym is.0 ∙ (ap (λ u. fold_of u lives.torn) led.table ∙ sym (composed t lives.durable lives.torn));
              seq = omega (arith, both, before, after);
              images = λ image p. inl (on_disk s' opened.settled image p);
              settled = either_way s'.failed (refl, opened.settled);
            },
          )

-- a store with nothing under way begins a life
pub begins : IsOnDisk → (s : StoreState) → IsSettled s → HaveLed no_lives s.table s.seq s
begins on_disk s settled = record {
  table = refl;
  seq = omega arith;
  images = λ image p. inl (on_disk s settled image p);
  settled = either_way s.failed (refl, settled);
}

-- ---- the same of a disk alone

-- a disk that holds a table begins a life
pub begins_on : (t : TableState) (number : ℕ) (disk : State) → EveryImage disk (HoldsTable t number) → AreOnDisk no_lives t number disk
begins_on t number disk images image p =
    let same : number + length {A = Command} [] ≡ number = omega arith in
    inl (subst (λ n. HoldsTable t n image) (sym same) (images image p))

-- a store was closed
pub closes : AreComposed → (lives : Lives) (t : TableState) (number : ℕ) (s : StoreState) → HaveLed lives t number s → AreOnDisk lives t number s.log.disk
closes composed lives t number s led image p = by (led.images image p)
  where
    by : HoldsWithTorn s lives.torn image → HoldsFold t number lives.durable image ⊎ HoldsFold t number (lives.durable ++ lives.torn) image
    by (inl h) = inl (subst (λ n. HoldsTable (fold_of t lives.durable) n image) led.seq (subst (λ u. HoldsTable u s.seq image) led.table h))
    by (inr h) =
        let both = length-append lives.durable lives.torn in
        let before = led.seq in
        let count : s.seq + length lives.torn ≡ number + length (lives.durable ++ lives.torn) = omega (arith, both, before) in
        let table : fold_of s.table lives.torn ≡ fold_of t (lives.durable ++ lives.torn) =
        ap (λ u. fold_of u lives.torn) led.table ∙ sym (composed t lives.durable lives.torn) in
        inr (subst (λ n. HoldsTable (fold_of t (lives.durable ++ lives.torn)) n image) count (subst (λ u. HoldsTable u (s.seq + length lives.torn) image) table h))

-- what a crash left holds one of the two
crashes : (lives : Lives) (t : TableState) (number : ℕ) (disk : State) (left : List ℕ) → AreOnDisk lives t number disk → IsPermitted disk left
    → (found : Bool) × (((lives_after t lives (Opened found)).torn ≡ []) × HoldsFold t number (lives_after t lives (Opened found)).durable left)
crashes lives t number disk left are permitted = by (are left permitted)
  where
    by : HoldsFold t number lives.durable left ⊎ HoldsFold t number (lives.durable ++ lives.torn) left
        → (found : Bool) × (((lives_after t lives (Opened found)).torn ≡ []) × HoldsFold t number (lives_after t lives (Opened found)).durable left)
    by (inl h) = (false, (refl, h))
    by (inr h) = (true, (refl, h))

-- and it was opened
pub opens_from : IsOnDisk → (lives : Lives) (t : TableState) (number : ℕ) (disk : State) (s : StoreState) (left : List ℕ) → AreOnDisk lives t number disk
    → IsPermitted disk left → IsOpened left s → (found : Bool) × HaveLed (lives_after t lives (Opened found)) t number s
opens_from on_disk lives t number disk s left are permitted opened =
    let at = crashes lives t number disk left are permitted in
    let found = lives_after t lives (Opened at.0) in
    let is = opened.only (fold_of t found.durable) (number + length found.durable) at.1.1 in (
      at.0,
      record {
        table = sym is.0;
        seq = sym is.1;
        images = λ image p. inl (on_disk s opened.settled image p);
        settled = either_way s.failed (at.1.0, opened.settled);
      },
    )

-- or it wasn't
pub refuses : (lives : Lives) (t : TableState) (number : ℕ) (disk back : State) → AreOnDisk lives t number disk → HoldsOn disk back
    → AreOnDisk lives t number back
refuses lives t number disk back are on image p =
    let was = on image p in
    elim (are was.0 was.1.0) [
      | inl h ↦ inl (was.1.1 (fold_of t lives.durable) (number + length lives.durable) h)
      | inr h ↦ inr (was.1.1 (fold_of t (lives.durable ++ lives.torn)) (number + length (lives.durable ++ lives.torn)) h)
    ]

-- never because no store exists
pub no_fault : (lives : Lives) (t : TableState) (number : ℕ) (disk : State) (left : List ℕ) (e : Refusal) → AreOnDisk lives t number disk
    → IsPermitted disk left → ¬ (IsFault left e)
no_fault lives t number disk left e are permitted fault = elim (are left permitted) [
  | inl h ↦ fault.none (fold_of t lives.durable) (number + length lives.durable) h
  | inr h ↦ fault.none (fold_of t (lives.durable ++ lives.torn)) (number + length (lives.durable ++ lives.torn)) h
]
