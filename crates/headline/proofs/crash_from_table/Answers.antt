use Rattle.std.proofs.Common.{◌≡◌, ◌∙◌, ℕ, List, sym, ap, subst}
use Rattle.std.proofs.lemmas.Result.{IfErr-weaker, IfOk-weaker}
use Rattle.sessions.specs.Table.{TableState}
use Rattle.store.specs.Image.{HoldsTable}
use Rattle.store.specs.State.{IsSettled, StoreState, store_state}
use Rattle.headline.proofs.Foretelling.{foretold_before}
use Rattle.headline.proofs.crash_from_table.Goals as goal

-- a settled store's disk holds its table and number
held : (s : StoreState) (t : TableState) (seq : ℕ) (content : List ℕ) → IsSettled s → s.table ≡ t → s.seq ≡ seq → content ≡ s.log.disk.content → HoldsTable t seq content
held s t seq content settled table number is =
    subst (HoldsTable t seq) (sym is)
    (subst (λ n. HoldsTable t n s.log.disk.content) number
    (subst (λ u. HoldsTable u s.seq s.log.disk.content) table (record { version = _; contents = settled.contents; holds = settled.rest.holds; says = settled.says })))

module _ (g : _) (c : goal.After-crash_after_adoption g) where
  holds : HoldsTable c.args.table c.args.seq (g.D.Disk.state c.close.result).content
  holds =
      held (store_state g.D.Disk.state c.in-Ok.store) c.args.table c.args.seq (g.D.Disk.state c.close.result).content (c.in-Ok.ensures.settled g.met.D.Sim.is_honest)
      c.in-Ok.ensures.made.0 c.in-Ok.ensures.made.1 (ap (λ d. (g.D.Disk.state d).content) c.close.ensures)

pub returns-in-Ok-clause-answers : goal.returns-in-Ok-clause-answers
returns-in-Ok-clause-answers g c =
    IfOk-weaker c.crash_after_adoption.result _ _ (λ found answers marks. answers c.args.table c.args.seq marks (holds g c)) c.crash_after_adoption.ensures.answers

pub returns-in-Ok-clause-calls : goal.returns-in-Ok-clause-calls
returns-in-Ok-clause-calls g c =
    let disk = g.D.Disk in
    IfOk-weaker c.crash_after_adoption.result _ _
    (λ found foretold.
    foretold_before (disk.failures c.args.disk) (disk.failures c.close.result) (disk.outlook c.args.disk) (disk.outlook c.close.result) c.args.steps.now found.0.items
    (ap disk.failures c.close.ensures ∙ c.in-Ok.ensures.healthy.1) (λ all. ap disk.outlook c.close.ensures ∙ c.in-Ok.ensures.unarmed all) foretold)
    c.crash_after_adoption.ensures.calls

pub returns-in-Ok-clause-crash : goal.returns-in-Ok-clause-crash
returns-in-Ok-clause-crash g c =
    IfOk-weaker c.crash_after_adoption.result _ _ (λ found opened marks. opened c.args.table c.args.seq marks (holds g c)) c.crash_after_adoption.ensures.crash

pub returns-in-Ok-clause-unarmed : goal.returns-in-Ok-clause-unarmed
returns-in-Ok-clause-unarmed g c all nothing =
    c.crash_after_adoption.ensures.unarmed (ap g.D.Disk.outlook c.close.ensures ∙ c.in-Ok.ensures.unarmed all) nothing

pub returns-in-Ok-clause-recovers : goal.returns-in-Ok-clause-recovers
returns-in-Ok-clause-recovers g c =
    IfOk-weaker c.crash_after_adoption.result _ _ (λ found recovers marks. recovers c.args.table c.args.seq marks (holds g c)) c.crash_after_adoption.ensures.recovers

pub returns-in-Ok-clause-once : goal.returns-in-Ok-clause-once
returns-in-Ok-clause-once g c =
    IfOk-weaker c.crash_after_adoption.result _ _ (λ found once marks. once c.args.table c.args.seq marks (holds g c)) c.crash_after_adoption.ensures.once

pub returns-in-Ok-clause-covered : goal.returns-in-Ok-clause-covered
returns-in-Ok-clause-covered g c =
    IfOk-weaker c.crash_after_adoption.result _ _ (λ found covered marks. covered c.args.table c.args.seq marks (holds g c)) c.crash_after_adoption.ensures.covered

pub returns-in-Ok-clause-refused : goal.returns-in-Ok-clause-refused
returns-in-Ok-clause-refused g c =
    IfErr-weaker c.crash_after_adoption.result _ _ (λ e fault device memory. absurd ((fault device memory).none c.args.table c.args.seq (holds g c))) c.crash_after_adoption.ensures.refused
