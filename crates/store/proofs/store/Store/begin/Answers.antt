use Rattle.store.specs.Commit.{tip_of}
use Rattle.store.specs.Phases.{IsBegunOn}
use Rattle.store.specs.State.{store_state}
use Rattle.store.proofs.Beginning.{EntryLaws, begun_on, once_begun}
use Rattle.store.proofs.store.Store.begin.Goals as goal

pub returns-clause-begun : goal.returns-clause-begun
returns-clause-begun g c settled =
    let s = store_state g.D.Disk.state c.args.self.now in
    let laws : EntryLaws =
    record { replay = c.decisions_replay.ensures.replay; net_id = c.entries_keep_the_network.ensures.net_id; slots = c.entries_keep_the_network.ensures.slots } in
    let began = c.begun_of.ensures in
    once_begun (tip_of s) c.in_ok-commit.commit c.args.batch c.in_ok-commit.ensures c.requires.roomy c.begun_of.result (IsBegunOn s) began.few began.sequel
    began.entries began.size
    (λ begun may entries few. begun_on laws s begun settled may entries few)
