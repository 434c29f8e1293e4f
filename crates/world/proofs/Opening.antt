-- What a crash and an opening do to a course.
use Rattle.std.proofs.Common.{◌≡◌, ◌-◌, ◌≢◌, ◌∙◌, ◌⊎◌, inl, inr, ℕ, Bool, true, false, List, [], length, take, MatchBool, sym, ap, subst, refl, arith}
use Rattle.std.proofs.lemmas.List.{append-nil}
use Rattle.disk.specs.declared.sim.Image.{Image}
use Rattle.disk.specs.State.{State, EveryImage, IsPermitted}
use Rattle.lw_types.specs.declared.refusal.Refusal.{Refusal}
use Rattle.lw_types.specs.declared.refusal.Refusal.TheVariants.{OutOfMemory, DeviceFailed}
use Rattle.lw_types.specs.Refusal.{number_of}
use Rattle.devices.specs.declared.command.Command.{Command}
use Rattle.world.specs.Folding.{RunLaws}
use Rattle.session_core.specs.State.{new_decisions}
use Rattle.store.specs.Image.{HoldsTable}
use Rattle.store.specs.State.{StoreState, IsOpened, IsSettled}
use Rattle.world.specs.declared.condition.Condition.{Condition}
use Rattle.world.specs.declared.condition.Condition.TheVariants.{Open, Closed, Crashing}
use Rattle.world.specs.declared.answer.Answer.{Answer}
use Rattle.world.specs.declared.answer.Answer.TheVariants as answers
use Rattle.world.specs.declared.step.Step.TheVariants as steps
use Rattle.world.specs.Course.{Origin, Course, beginning, decided_commands, after_opening, course_after, table_from, number_from, effects_from}
use Rattle.world.specs.Answers.{Leaves, AnswersCrash}
use Rattle.world.specs.Commits.{at_rest}
use Rattle.world.specs.Sound.{HasDisk}
use Rattle.world.specs.Tells.{IsOpenedFrom}
use Rattle.sessions.specs.Marks.{IsSubsequence}
use Rattle.world.specs.Follows.{FollowsCondition, IsLife, Survives}
use Rattle.world.proofs.Calling.{held}
use Rattle.world.proofs.Flights.{kept_front, kept_once}

-- the content is always permitted
pub content_permitted : (s : State) → IsPermitted s s.content
content_permitted s = record { same_length = refl; kept = λ i h. refl }

-- what an opening that found this number cuts the decided list to
pub cut_to : (origin : Origin) (c : Course) (kept : List Command) (n : ℕ) → Leaves c kept → n ≡ number_from origin kept
    → kept ≡ take (n - origin.number) (decided_commands c)
cut_to origin c kept n leaves is =
    let count : n - origin.number ≡ length kept = omega (arith, is) in
    sym (ap (λ n. take n (decided_commands c)) count ∙ kept_front c kept leaves)

-- the life that begins with what a crash left
pub life_opened : (origin : Origin) (c : Course) (kept : List Command) (n : ℕ) (s : StoreState) → Leaves c kept → n ≡ number_from origin kept → IsSettled s
    → s.failed ≡ false → s.table ≡ table_from origin kept → s.seq ≡ number_from origin kept → EveryImage s.log.disk (HoldsTable s.table s.seq)
    → IsLife origin (after_opening origin c n) s (new_decisions s.table s.seq) at_rest
life_opened origin c kept n s leaves n_is settled healthy table seq holds =
    let front = cut_to origin c kept n leaves n_is in
    let table_is = table ∙ ap (table_from origin) front in
    let seq_is = seq ∙ ap (number_from origin) front in
    let alone = append-nil (take (n - origin.number) (decided_commands c)) in
    let alone_length = ap length alone in
    record {
      table = table_is;
      seq = seq_is;
      base = table_is ∙ ap (table_from origin) (sym alone);
      number = omega (arith, seq_is, alone_length);
      untaken = refl;
      made = refl;
      under_way = record { behind = []; flights_are = refl; fit = tt; last = (refl, (tt, (settled, refl))) };
      healthy = healthy;
      survives = λ image p. (take (n - origin.number) (decided_commands c), refl, held s.table _ s.seq _ image table_is seq_is (holds image p));
    }

-- the life that begins a course, with a store that existed
pub life_begun : (origin : Origin) (s : StoreState) → IsSettled s → s.failed ≡ false → s.table ≡ origin.table → s.seq ≡ origin.number
    → EveryImage s.log.disk (HoldsTable s.table s.seq) → IsLife origin (beginning origin) s (new_decisions s.table s.seq) at_rest
life_begun origin s settled healthy table number holds =
    let seq : s.seq ≡ number_from origin [] = omega (arith, number) in
    record {
      table = table;
      seq = seq;
      base = table;
      number = omega (arith, number);
      untaken = refl;
      made = refl;
      under_way = record { behind = []; flights_are = refl; fit = tt; last = (refl, (tt, (settled, refl))) };
      healthy = healthy;
      survives = λ image p. ([], refl, held s.table origin.table s.seq (number_from origin []) image table seq (holds image p));
    }

-- a store that was opened has what the disk held
pub opened_from : (content : List ℕ) (s : StoreState) → IsOpened content s → EveryImage s.log.disk (HoldsTable s.table s.seq) → IsOpenedFrom content s.log.disk
opened_from content s opened images =
    record {
      same = opened.same;
      keeps = λ t seq holds image p. let only = opened.only t seq holds in held s.table t s.seq seq image (sym only.0) (sym only.1) (images image p);
    }

-- an opening is refused for these two reasons, if others are ruled out
pub two_reasons : (e : Refusal) → (e ≢ DeviceFailed → e ≢ OutOfMemory → ⊥) → (e ≡ OutOfMemory) ⊎ (e ≡ DeviceFailed)
two_reasons OutOfMemory h = inl refl
two_reasons DeviceFailed h = inr refl
two_reasons e h = absurd (h (λ p. let n = ap number_of p in absurd (omega (arith, n))) (λ p. let n = ap number_of p in absurd (omega (arith, n))))

-- the disk that comes out of a world has what a crash may leave
pub disk_survives : {D : Type 0} {g : _} (state : D → State) (origin : Origin) (c : Course) (condition : Condition D g) (disk : D)
    → FollowsCondition state origin c condition → HasDisk condition disk → Survives origin c (state disk)
disk_survives state origin c (Open life) disk f is = subst (λ d. Survives origin c (state d)) (sym is) f.1.0.survives
disk_survives state origin c (Closed d) disk f is = subst (λ d. Survives origin c (state d)) (sym is) f.1
disk_survives state origin c Crashing disk f is = absurd f

-- after a crash the same holds of the disk
pub crashed_survives : (origin : Origin) (c : Course) (before now : State) → Survives origin c before → IsPermitted before now.content
    → EveryImage now (λ image. image ≡ now.content) → Survives origin c now
crashed_survives origin c before now survives permitted kept image p =
    subst (λ bytes. (kept : List Command) × Leaves c kept × HoldsTable (table_from origin kept) (number_from origin kept) bytes) (sym (kept image p))
    (survives now.content permitted)

pub both_ways : (b : Bool) (X : Type 0) → X → MatchBool b X X
both_ways true X x = x
both_ways false X x = x

-- what a crash leaves of the effects
pub record Crashes (origin : Origin) (c next : Course) : Type 0 where
  pub left : next.left ≡ c.left
  pub emitted : next.emitted ≡ length c.left
  pub once : IsSubsequence c.left (effects_from origin c.settled) → IsSubsequence next.left (effects_from origin next.settled)

pub crash_keeps : (laws : RunLaws) (origin : Origin) (c : Course) (image : Image) (answer : Answer) → AnswersCrash origin c answer
    → Crashes origin c (course_after origin c (steps.Crash image) answer)
crash_keeps laws origin c image (answers.Opened devices seq) (kept, leaves, seq_is, count) = record {
  left = refl;
  emitted = refl;
  once = λ once. subst (λ k. IsSubsequence c.left (effects_from origin k)) (cut_to origin c kept seq leaves seq_is) (kept_once laws origin c c.left kept leaves once);
}
crash_keeps laws origin c image (answers.Refused e) right = record { left = refl; emitted = refl; once = λ once. once }
crash_keeps laws origin c image answer right = absurd right
