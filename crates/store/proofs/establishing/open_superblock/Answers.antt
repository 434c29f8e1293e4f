use Rattle.std.proofs.Common.{rules, ◌≡◌, ◌-◌, ◌∙◌, [], ◌∷◌, ℕ, List, sym, ap, subst, arith}
use Rattle.disk.specs.State.{NothingOpen, bytes_after_write}
use Rattle.gate_log.specs.declared.layout.Areas.{Areas}
use Rattle.gate_log.specs.declared.layout.TheConstants.{OPEN}
use Rattle.gate_log.specs.Areas.{Holds}
use Rattle.gate_log.specs.Log.{IsAtRest, LogState, log_disk, log_state}
use Rattle.store.specs.Establishing.{opened_contents}
use Rattle.store.proofs.Shut.{opened_rest, torn_front}
use Rattle.store.proofs.establishing.open_superblock.Goals as goal

pub returns-in-Ok-clause-done : goal.returns-in-Ok-clause-done
returns-in-Ok-clause-done g c honest contents rest some =
    let state = g.D.Disk.state in
    let log = log_state state c.args.log in
    let now = state c.open_front.new.disk in
    let ends = ap (λ (a : Areas). a.live.end) c.requires.areas in
    let next : c.args.areas.live.end - c.room.result ≡ log.next = (let room = c.room.ensures.room in omega (arith, room, ends)) in
    let is = c.new.ensures.log ∙ (λ i. record {
      disk = now;
      areas = (sym c.requires.areas) i;
      next = next i;
      generation = c.generation-generation.ensures i;
      other_open = c.is_other_open-other_open.ensures i;
    }) in
    let written = c.in-Ok.ensures.opened honest ∙ ap (λ d. bytes_after_write (state d).content 0 (OPEN ∷ [])) c.close-disk.ensures in
    subst (λ (s : LogState). IsAtRest s (opened_contents contents)) (sym is)
    (opened_rest c.a_journal_stays_where_others_change.ensures contents log now some (c.in-Ok.ensures.settled honest) written rest)

pub returns-in-Err-clause-images : goal.returns-in-Err-clause-images
returns-in-Err-clause-images g c honest contents rest some image permitted =
    let state = g.D.Disk.state in
    let nothing = subst (λ d. NothingOpen (state d)) (sym c.close-disk.ensures) rest.settled in
    let holds = subst (λ d. Holds contents (state d).content) (sym c.close-disk.ensures) rest.holds in
    torn_front c.a_journal_stays_where_others_change.ensures contents (state c.close-disk.result).content image some holds
    (c.in-Err.ensures.images honest nothing image permitted)
