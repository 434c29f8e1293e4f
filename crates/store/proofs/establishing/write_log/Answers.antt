use Rattle.std.proofs.Common.{◌≡◌, ◌∙◌, false, List, ℕ, [], length, sym, ap, subst, arith}
use Rattle.std.specs.Prelude.{IfOk}
use Rattle.disk.specs.State.{EveryImage}
use Rattle.gate_log.specs.declared.layout.Header.{Header}
use Rattle.gate_log.specs.Areas.{LogContents, MayFollowContents, contents_with_checkpoint}
use Rattle.gate_log.specs.Log.{IsAtRest, LogState, log_state}
use Rattle.store.specs.Establishing.{IsBehindShut, IsFirstCheckpoint, IsFirstImage, IsOpenedImage, first_contents}
use Rattle.store_layout.specs.Superblock.{disk_len}
use Rattle.store.proofs.EmptyStore.{empty_at_rest}
use Rattle.store.proofs.Shut.{IfErr-map, behind_shut, first_is, not_yet, shut_contents, to_first}
use Rattle.store.proofs.establishing.write_log.Goals as goal

-- a checkpoint of the second generation may follow a fresh area
follows : (slots : ℕ) (bytes : List ℕ) (header : Header) (records : List ℕ) → IsFirstCheckpoint header records → MayFollowContents (shut_contents slots bytes) header records
follows slots bytes header records first = record { later = (let is = first.generation in omega (arith, is)); in_range = first.in_range; len = first.len }

pub returns-in-Ok-clause-done : goal.returns-in-Ok-clause-done
returns-in-Ok-clause-done g c honest header records is first =
    let state = g.D.Disk.state c.write_shut.new.disk in
    let net_id = c.args.superblock.now.net_id in
    let slots = c.args.superblock.now.slots in
    let long : length state.content ≡ disk_len slots = c.in-Ok.ensures.same_length ∙ c.requires.size in
    let at = c.new-log.ensures.log ∙ (λ i. record { disk = state; areas = c.both_areas.ensures i; next = c.in-Ok.ensures.next i; generation = 1; other_open = false }) in
    let rest = subst (λ (s : LogState). IsAtRest s (shut_contents slots state.content)) (sym at)
    (empty_at_rest c.a_closed_area_is_older.ensures slots state (c.in-Ok.ensures.settled honest) long (c.in-Ok.ensures.area honest) (c.in-Ok.ensures.other_area honest)) in
    subst (λ (x : LogContents). IfOk c.publish_and_open.result (λ log. IsAtRest (log_state g.D.Disk.state log) x))
    (first_is net_id slots state.content header records long (c.in-Ok.ensures.body honest))
    (c.publish_and_open.ensures.done honest (shut_contents slots state.content) header records rest (behind_shut slots state (c.in-Ok.ensures.shut honest)) is
    (follows slots state.content header records first))

pub returns-in-Ok-clause-images : goal.returns-in-Ok-clause-images
returns-in-Ok-clause-images g c honest nothing header records is first =
    let state = g.D.Disk.state c.write_shut.new.disk in
    let net_id = c.args.superblock.now.net_id in
    let slots = c.args.superblock.now.slots in
    let old = (g.D.Disk.state c.args.disk).content in
    let long : length state.content ≡ disk_len slots = c.in-Ok.ensures.same_length ∙ c.requires.size in
    let at = c.new-log.ensures.log ∙ (λ i. record { disk = state; areas = c.both_areas.ensures i; next = c.in-Ok.ensures.next i; generation = 1; other_open = false }) in
    let rest = subst (λ (s : LogState). IsAtRest s (shut_contents slots state.content)) (sym at)
    (empty_at_rest c.a_closed_area_is_older.ensures slots state (c.in-Ok.ensures.settled honest) long (c.in-Ok.ensures.area honest) (c.in-Ok.ensures.other_area honest)) in
    let c' = contents_with_checkpoint (shut_contents slots state.content) header records in
    IfErr-map c.publish_and_open.result
    (λ left every image permitted. to_first c' (first_contents net_id slots header records) old image
    (first_is net_id slots state.content header records long (c.in-Ok.ensures.body honest)) (every image permitted))
    (c.publish_and_open.ensures.images honest (shut_contents slots state.content) header records rest (behind_shut slots state (c.in-Ok.ensures.shut honest)) is
    (follows slots state.content header records first))
