-- What a checkpoint that begins does to a course.
use Rattle.std.proofs.Common.{◌≡◌, ◌∙◌, ◌⊎◌, ◌≤◌, inl, inr, ℕ, zero, suc, Bool, true, false, if◌then◌else◌, [], sym, ap, subst, refl, arith}
use Rattle.session_core.specs.State.{DecisionsState}
use Rattle.store.specs.Checkpointing.{IsCheckpointOn}
use Rattle.store.specs.Publishing.{calls_left}
use Rattle.store.specs.State.{StoreState, IsSettled}
use Rattle.store.specs.declared.checkpointing.Checkpoint.{Checkpoint}
use Rattle.store.specs.declared.publishing.Publishing.TheVariants.{Begun}
use Rattle.store.specs.declared.under_way.UnderWay.TheVariants as ways
use Rattle.world.specs.declared.answer.Answer.TheVariants as answers
use Rattle.world.specs.declared.commit.LastCommit.TheVariants as commits
use Rattle.world.specs.Answers.{AnswersCheckpoint, Beside, Checkpoints}
use Rattle.world.specs.Commits.{at_rest}
use Rattle.world.specs.Course.{Origin, Course, with_calls_left}
use Rattle.world.specs.Course.Checkpoint.{CallsLeft}
use Rattle.world.specs.Follows.{IsLife}
use Rattle.world.proofs.Calling.{some_calls}

four_or_six : (retires : Bool) (calls : ℕ) → calls ≡ (if retires then 6 else 4) → (calls ≡ 4) ⊎ (calls ≡ 6)
four_or_six true calls is = inr is
four_or_six false calls is = inl is

some_left : (n : ℕ) → 1 ≤ n → CallsLeft n ≡ with_calls_left n
some_left zero some = absurd (omega (arith, some))
some_left (suc n) some = refl

-- it begins if nothing is begun
pub publishes : (origin : Origin) (c : Course) (s : StoreState) (core : DecisionsState) (begun : Checkpoint) (calls : ℕ)
    → calls ≡ calls_left s (Begun begun) → (IsSettled s → IsCheckpointOn s begun) → IsLife origin c s core at_rest
    → AnswersCheckpoint c.flights c.checkpoint (answers.Begun calls)
    × IsLife origin (record c { checkpoint = CallsLeft calls }) s core (record at_rest { last = commits.UnderWay (ways.Checkpoint (Begun begun)) })
publishes origin c s core begun calls count on f =
    let at = f.under_way in
    let none = at.flights_are ∙ at.last.0 in (
      subst (λ fl. AnswersCheckpoint fl c.checkpoint (answers.Begun calls)) (sym none)
          (subst (λ k. Beside k (Checkpoints (answers.Begun calls)) (answers.Begun calls)) (sym at.last.1.1.1)
          (four_or_six s.log.other_open calls count)),
      record {
        table = f.table;
        seq = f.seq;
        base = f.base;
        number = f.number;
        untaken = f.untaken;
        made = f.made;
        under_way = record {
          behind = [];
          flights_are = none;
          fit = tt;
          last = (refl, (tt, (on at.last.1.1.0, ap CallsLeft count ∙ some_left (calls_left s (Begun begun)) (some_calls s (Begun begun)))));
        };
        healthy = f.healthy;
        survives = f.survives;
      },
    )
