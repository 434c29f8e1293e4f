use Rattle.std.proofs.Common.{◌≡◌, ◌+◌, List, length, subst}
use Rattle.sessions.specs.Decision.{IsLegalContinuation, with_decisions}
use Rattle.sessions.specs.declared.decision.Decision.{Decision}
use Rattle.store.specs.Commit.{tip_behind}
use Rattle.store.specs.Pairing.{IsBegunBehind}
use Rattle.store.specs.Phases.{gate_written_sequel, gate_written_size}
use Rattle.store.specs.State.{store_state}
use Rattle.store.proofs.Beginning.{EntryLaws, begun_behind, once_begun}
use Rattle.store.proofs.store.Store.begin_next.Goals as goal

pub returns-clause-begun : goal.returns-clause-begun
returns-clause-begun g c =
    let s = store_state g.D.Disk.state c.args.self.now in
    let opened = c.args.under_way.now in
    let tip = tip_behind s (gate_written_sequel opened) (gate_written_size opened) in
    let laws : EntryLaws =
    record { replay = c.decisions_replay.ensures.replay; net_id = c.entries_keep_the_network.ensures.net_id; slots = c.entries_keep_the_network.ensures.slots } in
    let began = c.begun_of.ensures in
    let commit = c.in_ok-commit.commit in
    let seq = opened.commit.last in
    let legal = subst (λ (ds : List Decision). IsLegalContinuation (with_decisions s.table ds) seq c.args.batch
    × ((commit.batch ≡ c.args.batch) × (commit.last ≡ seq + length c.args.batch))) c.as_slice.ensures.decisions c.in_ok-commit.ensures in
    once_begun tip commit c.args.batch legal c.requires.roomy c.begun_of.result (IsBegunBehind s opened) began.few began.sequel
    began.entries began.size
    (λ begun may entries few. begun_behind laws s opened begun may entries few)
