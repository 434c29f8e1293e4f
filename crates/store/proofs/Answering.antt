-- What an opening returns, by what was found and what came of that.
use Rattle.std.proofs.Common.{◌≡◌, ◌≢◌, ◌⊎◌, ◌+◌, ◌∙◌, inl, inr, ℕ, true, false, List, Result, Ok, Err, IfOk, IfErr, MatchResult, ◌==◌, ap, subst, sym}
use Rattle.std.specs.Prelude.{IsErrAnd}
use Rattle.lw_types.specs.declared.refusal.Refusal.{Refusal}
use Rattle.lw_types.specs.declared.refusal.Refusal.TheVariants.{DeviceFailed, OutOfMemory}
use Rattle.disk.specs.declared.disk.Disk.{Ghosts}
use Rattle.disk.specs.Outlook.{IsForeseen, Outlook}
use Rattle.disk.specs.Outlook.Outlook.{AllSucceed, FailsAfter}
use Rattle.disk.specs.State.{EveryImage, NothingOpen, State}
use Rattle.gate_log.specs.Areas.{Holds, IsLiveArea, LogContents}
use Rattle.gate_log.specs.Layout.{HasRoomFor}
use Rattle.gate_log.specs.Recover.{OnlyReads}
use Rattle.store.specs.declared.found.Found.{Found}
use Rattle.store.specs.declared.store.Store.{Store}
use Rattle.record_codec.specs.Version.{newest}
use Rattle.lw_types.specs.Refusal.{number_of}
use Rattle.store.specs.Faults.{HasGoodFront, IsFault}
use Rattle.store.specs.Found.{IsFound, IsOpeningOf, is_device_refusal}
use Rattle.store.specs.Image.{HoldsTable}
use Rattle.store.specs.Made.{IsOpenAnswer}
use Rattle.store.specs.State.{IsOld, IsOpened, StillHolds, disk_of, store_state}
use Rattle.store.proofs.Finding.{good_front}
use Rattle.store.proofs.Holding.{length_of, store_of}

-- what a crash leaves if nothing is open
abbrev pub SettledLaw : Type 0
SettledLaw = (s : State) → NothingOpen s → EveryImage s (λ image. image ≡ s.content)

-- a disk with nothing open keeps what it holds
pub keeps_settled : SettledLaw → (bytes : List ℕ) (s : State) → NothingOpen s → s.content ≡ bytes → StillHolds bytes s
keeps_settled law bytes s nothing same t seq holds image permitted = subst (HoldsTable t seq) (sym (law s nothing image permitted ∙ same)) holds

-- what was found is held
abbrev found_held : (content : List ℕ) (found : Found) → IsFound content found → HoldsTable found.table found.seq content
found_held content found is = record { version = found.version; contents = is.contents; holds = is.holds; says = is.says }

module _ {D : Type 0} (disk : Ghosts D) (at synced read : D) (found : Found) (result : Result (Store D disk) (D × Refusal))
    (content : disk.honest → (disk.state synced).content ≡ (disk.state at).content)
    (quiet : disk.failures synced ≡ disk.failures at)
    (foreseen : IsForeseen (disk.outlook at) true (disk.outlook synced))
    (reads : OnlyReads disk.honest disk.state disk.failures disk.outlook synced read false)
    (has : disk.honest → IsFound (disk.state synced).content found)
    (opening : IsOpeningOf disk read found result) where
  whole : disk.honest → (disk.state read).content ≡ (disk.state at).content
  whole honest = ap (λ (s : State). s.content) (reads.same honest) ∙ content honest

  here : disk.honest → IsFound (disk.state read).content found
  here honest = subst (λ l. IsFound l found) (sym (ap (λ (s : State). s.content) (reads.same honest))) (has honest)

  abbrev before : disk.honest → IsFound (disk.state at).content found
  before honest = subst (λ l. IsFound l found) (content honest) (has honest)

  failures : disk.failures read ≡ disk.failures at
  failures = reads.cause ∙ quiet

  all : disk.outlook at ≡ AllSucceed → disk.outlook read ≡ AllSucceed
  all is = (reads.unarmed (subst (λ o. IsForeseen o true (disk.outlook synced)) is foreseen).1).1

  healthy_by : (r : Result (Store D disk) (D × Refusal))
      → IfOk r (λ store. ((store_state disk.state store).failed ≡ false) × (disk.failures (disk_of store) ≡ disk.failures read))
      → IfOk r (λ store. ((store_state disk.state store).failed ≡ false) × (disk.failures (disk_of store) ≡ disk.failures at))
  healthy_by (Ok store) is = (is.0, is.1 ∙ failures)
  healthy_by (Err e) is = tt

  -- a refusal is only for lack of memory, or the device's
  abbrev Refused : Result (Store D disk) (D × Refusal) → Type 0
  Refused r = IfErr r (λ e. ((e.1 ≡ OutOfMemory) × (e.0 ≡ read)) ⊎ ((e.1 ≡ DeviceFailed) × (disk.failures e.0 ≡ disk.failures read + 1)))

  refused_by : (r : Result (Store D disk) (D × Refusal)) (X : Refusal → Type 0) → Refused r → IfErr r (λ e. e.1 ≢ DeviceFailed → e.1 ≢ OutOfMemory → X e.1)
  refused_by (Ok store) X is = tt
  refused_by (Err e) X (inl (memory, same)) = λ device other. absurd (other memory)
  refused_by (Err e) X (inr (failed, more)) = λ device other. absurd (device failed)

  memory_by : (r : Result (Store D disk) (D × Refusal)) (X : Type 0) → X → IfErr r (λ e. e.1 ≡ OutOfMemory → X)
  memory_by (Ok store) X x = tt
  memory_by (Err e) X x = λ memory. x

  unarmed_by : (r : Result (Store D disk) (D × Refusal))
      → MatchResult r (λ store. disk.outlook (disk_of store) ≡ AllSucceed) (λ e. (e.1 ≢ DeviceFailed) × (disk.outlook e.0 ≡ AllSucceed))
      → MatchResult r (λ store. disk.outlook (disk_of store) ≡ AllSucceed) (λ e. e.1 ≢ DeviceFailed)
  unarmed_by (Ok store) is = is
  unarmed_by (Err e) is = is.0

  pub made : ((image : List ℕ) (c : LogContents) → Holds c image → IsLiveArea c.areas c.journal.header image)
      → ((image : List ℕ) (c : LogContents) → Holds c image → HasRoomFor c.areas.live c.journal.header) → IsOpenAnswer disk at (λ error. error.1) result
  made live room = record {
    opened = λ honest. subst (λ l. IfOk result (λ store. IsOpened l (store_state disk.state store))) (whole honest) (opening.opened honest (here honest));
    healthy = healthy_by result opening.healthy;
    refused = λ honest. refused_by result _ opening.refused;
    memory = λ honest.
        let bytes = (disk.state at).content in
        let is = before honest in
        let held = found_held bytes found is in
        memory_by result (HasGoodFront bytes)
        (good_front bytes found.table.net_id found.table.slots (store_of found.table found.seq bytes held) (length_of found.table found.seq bytes held)
        is.contents.areas is.contents.journal.header (record { place = is.says.areas; at = live bytes is.contents is.holds })
        (record { version = found.version; of_version = is.says.of_version; generation = is.says.generation; room = room bytes is.contents is.holds }));
    unarmed = λ is. unarmed_by result (opening.unarmed (all is));
    fails = λ first. let no : true ≡ false = (subst (λ o. IsForeseen o true (disk.outlook synced)) first foreseen).0 in absurd cc;
  }

  -- if the records are of the newest version a store is made
  pub never_refused : disk.honest → ¬ (IsOld (disk.state at).content) → (X : D × Refusal → Type 0) → IfErr result X
  never_refused honest new X = by result opening.older
    where
      by : (r : Result (Store D disk) (D × Refusal)) → IfErr r (λ e. found.version ≢ newest) → IfErr r X
      by (Ok store) older = tt
      by (Err e) older = absurd (new (found.table, (found.seq, (found_held (disk.state at).content found (before honest), older))))

  pub kept : disk.honest → IfErr result (λ e. StillHolds (disk.state at).content (disk.state e.0))
  kept honest = subst (λ l. IfErr result (λ e. StillHolds l (disk.state e.0))) (whole honest) (opening.kept honest (here honest))

-- ---- a disk of which nothing was found

pub unmade : {D : Type 0} (disk : Ghosts D) (at synced read closed : D) (e : Refusal) → (disk.honest → (disk.state synced).content ≡ (disk.state at).content)
    → IsForeseen (disk.outlook at) true (disk.outlook synced)
    → OnlyReads disk.honest disk.state disk.failures disk.outlook synced read (is_device_refusal {T = Found} (Err e))
    → (disk.honest → e ≢ DeviceFailed → e ≢ OutOfMemory → IsFault (disk.state synced).content e)
    → (disk.honest → e ≡ OutOfMemory → HasGoodFront (disk.state synced).content)
    → IsOpenAnswer {E = D × Refusal} disk at (λ error. error.1) (Err (closed, e))
unmade disk at synced read closed e content foreseen reads refused memory = record {
  opened = λ honest. tt;
  healthy = tt;
  refused = λ honest. subst (λ l. e ≢ DeviceFailed → e ≢ OutOfMemory → IsFault l e) (content honest) (refused honest);
  memory = λ honest. subst (λ l. e ≡ OutOfMemory → HasGoodFront l) (content honest) (memory honest);
  unarmed = λ all is.
      let none = (reads.unarmed (subst (λ o. IsForeseen o true (disk.outlook synced)) all foreseen).1).0 in
      let no : true ≡ false = sym (ap (λ x. number_of x == 40) is) ∙ none in
      absurd cc;
  fails = λ first. let no : true ≡ false = (subst (λ o. IsForeseen o true (disk.outlook synced)) first foreseen).0 in absurd cc;
}
