use Rattle.std.proofs.Common.{◌≡◌, ◌++◌, ◌∙◌, ◌∷◌, [], List, ap, inr, refl, sym, subst}
use Rattle.std.specs.Prelude.{All}
use Rattle.std.proofs.lemmas.Result.{IfErr-weaker, IfOk-weaker}
use Rattle.devices.specs.declared.mark.Mark.{Mark}
use Rattle.devices.specs.declared.mark.SessionName.{SessionName}
use Rattle.sessions.specs.Marks.{Covers, HasUsedUp, marks_of}
use Rattle.sessions.specs.Restored.{raised_by_all, raised_table, restored_table}
use Rattle.sessions.specs.Table.{TableState}
use Rattle.store.specs.State.{store_state}
use Rattle.store_layout.specs.Superblock.{disk_len}
use Rattle.world.specs.Course.{adopted_store, beginning, course_of}
use Rattle.world.specs.Answers.{AreRight}
use Rattle.headline.specs.Crash.{IsOpenedAfterCrash}
use Rattle.headline.specs.Recovers.{NoMarkTwice, Recovers}
use Rattle.headline.proofs.crash_after_restoring.Goals as goal

-- sessions that count as granted don't change the slots
slots_stay : (sessions : List SessionName) (t : TableState) → (raised_by_all sessions t).slots ≡ t.slots
slots_stay [] t = refl
slots_stay (s ∷ sessions) t = slots_stay sessions (raised_table s t)

-- what covers these marks covers them under their other name
all_covered : (t restored : TableState) (marks : List Mark) → t ≡ restored → All (λ m. Covers restored m) marks → All (λ m. Covers t m) marks
all_covered t restored marks is covered = subst (λ (table : TableState). All (λ (m : Mark). Covers table m) marks) (sym is) covered

pub returns-in-Ok-clause-answers : goal.returns-in-Ok-clause-answers
returns-in-Ok-clause-answers g c =
    let seq = c.args.seq in
    IfOk-weaker c.crash_from_table.result _ _
    (λ found answers marks.
    subst (λ (t : TableState). AreRight (adopted_store t seq marks) (beginning (adopted_store t seq marks)) c.args.steps.now found.0.items)
    (c.in-Ok.ensures.1 ∙ ap (restored_table c.args.since) c.raise_all.ensures) (answers marks))
    c.crash_from_table.ensures.answers

pub returns-in-Ok-clause-calls : goal.returns-in-Ok-clause-calls
returns-in-Ok-clause-calls g c = c.crash_from_table.ensures.calls

pub returns-in-Ok-clause-crash : goal.returns-in-Ok-clause-crash
returns-in-Ok-clause-crash g c =
    let seq = c.args.seq in
    IfOk-weaker c.crash_from_table.result _ _
    (λ found opened marks.
    subst
    (λ (t : TableState). IsOpenedAfterCrash g.D.Disk (adopted_store t seq marks) c.args.steps.now found.0.items c.args.image.now (store_state g.D.Disk.state found.1))
    (c.in-Ok.ensures.1 ∙ ap (restored_table c.args.since) c.raise_all.ensures) (opened marks))
    c.crash_from_table.ensures.crash

pub returns-in-Ok-clause-recovers : goal.returns-in-Ok-clause-recovers
returns-in-Ok-clause-recovers g c =
    let seq = c.args.seq in
    let steps = c.args.steps.now in
    IfOk-weaker c.crash_from_table.result _ _
    (λ found recovers marks.
    subst
    (λ (t : TableState). Recovers (adopted_store t seq marks) (course_of (adopted_store t seq marks) (beginning (adopted_store t seq marks)) steps found.0.items)
    (store_state g.D.Disk.state found.1).table (store_state g.D.Disk.state found.1).seq)
    (c.in-Ok.ensures.1 ∙ ap (restored_table c.args.since) c.raise_all.ensures) (recovers marks))
    c.crash_from_table.ensures.recovers

pub returns-in-Ok-clause-once : goal.returns-in-Ok-clause-once
returns-in-Ok-clause-once g c =
    let seq = c.args.seq in
    let steps = c.args.steps.now in
    IfOk-weaker c.crash_from_table.result _ _
    (λ found once marks within distinct.
    subst (λ (t : TableState). NoMarkTwice (adopted_store t seq marks) (course_of (adopted_store t seq marks) (beginning (adopted_store t seq marks)) steps found.0.items))
    (c.in-Ok.ensures.1 ∙ ap (restored_table c.args.since) c.raise_all.ensures)
    (once marks (all_covered c.restore.new.self (restored_table c.args.since (raised_by_all c.args.recorded.now c.args.older)) marks (c.in-Ok.ensures.1 ∙ ap (restored_table c.args.since) c.raise_all.ensures) (c.a_restored_table_covers.ensures.covered c.args.since (raised_by_all c.args.recorded.now c.args.older) marks
    (c.a_record_raises_a_copy.ensures.within c.args.since c.args.recorded.now c.args.older marks within))) distinct))
    c.crash_from_table.ensures.once

pub returns-in-Ok-clause-covered : goal.returns-in-Ok-clause-covered
returns-in-Ok-clause-covered g c =
    let seq = c.args.seq in
    let steps = c.args.steps.now in
    IfOk-weaker c.crash_from_table.result _ _
    (λ found covered marks within distinct.
    subst
    (λ (t : TableState). HasUsedUp (store_state g.D.Disk.state found.1).table
    (marks ++ marks_of (course_of (adopted_store t seq marks) (beginning (adopted_store t seq marks)) steps found.0.items).left))
    (c.in-Ok.ensures.1 ∙ ap (restored_table c.args.since) c.raise_all.ensures)
    (covered marks (all_covered c.restore.new.self (restored_table c.args.since (raised_by_all c.args.recorded.now c.args.older)) marks (c.in-Ok.ensures.1 ∙ ap (restored_table c.args.since) c.raise_all.ensures) (c.a_restored_table_covers.ensures.covered c.args.since (raised_by_all c.args.recorded.now c.args.older) marks
    (c.a_record_raises_a_copy.ensures.within c.args.since c.args.recorded.now c.args.older marks within))) distinct))
    c.crash_from_table.ensures.covered

pub returns-in-Ok-clause-refused : goal.returns-in-Ok-clause-refused
returns-in-Ok-clause-refused g c =
    let slots : c.restore.new.self.slots ≡ c.args.older.slots =
    ap (λ (t : TableState). t.slots) (c.in-Ok.ensures.1 ∙ ap (restored_table c.args.since) c.raise_all.ensures) ∙ slots_stay c.args.recorded.now c.args.older in
    IfErr-weaker c.crash_from_table.result _ _
    (λ e refused failed memory. let so = refused failed memory in inr (so.0, λ same. so.1 (same ∙ ap disk_len (sym slots))))
    c.crash_from_table.ensures.refused
