use Rattle.std.proofs.Common.{◌≡◌, ◌+◌, ◌∙◌, [], ◌∷◌, ◌⊎◌, ◌≢◌, List, ℕ, get_or, length, drop, refl, inl, inr, sym, ap, subst, arith}
use Rattle.disk.specs.State.{IsTorn, State, bytes_after_write}
use Rattle.gate_log.specs.declared.layout.TheConstants.{OPEN}
use Rattle.gate_log.specs.Layout.{checkpoint, fresh_header}
use Rattle.store.specs.declared.areas.TheConstants.{RECORD_VERSION}
use Rattle.store.specs.Image.{area_a, area_b}
use Rattle.store_layout.specs.Superblock.{area_len, disk_len}
use Rattle.store.proofs.EmptyStore.{closed_after, format_or_shut, formatted_image, opened_front, opened_range}
use Rattle.store.proofs.formatting.write_empty.Goals as goal

pub returns-clause-area : goal.returns-clause-area
returns-clause-area g c honest =
    let area = area_a c.args.superblock.now.slots in
    let old = (g.D.Disk.state c.write_shut.new.disk).content in
    let new = (g.D.Disk.state c.open_front.new.disk).content in
    c.a_journal_stays_where_others_change.ensures area old new (checkpoint (fresh_header RECORD_VERSION) []) (c.in_ok-next.ensures.area honest)
    (opened_range old new (32 + area_len c.args.superblock.now.slots) (c.in_ok-open_front.ensures.opened honest))

pub returns-clause-front : goal.returns-clause-front
returns-clause-front g c honest =
    let old = (g.D.Disk.state c.write_shut.new.disk).content in
    let new = (g.D.Disk.state c.open_front.new.disk).content in
    opened_front old new (c.in_ok-open_front.ensures.opened honest) ∙ ap (λ (l : List ℕ). OPEN ∷ l) (c.in_ok-next.ensures.body honest)

pub returns-in_err-open_front-clause-images : goal.returns-in_err-open_front-clause-images
returns-in_err-open_front-clause-images g c honest nothing image permitted =
    let s = c.args.superblock.now in
    let old = (g.D.Disk.state c.write_shut.new.disk).content in
    let torn : IsTorn 0 1 old image = c.open_front.ensures.images honest (c.in_ok-next.ensures.settled honest) image permitted in
    let long : length old ≡ disk_len s.slots = c.write_shut.ensures.same_length ∙ c.requires in
    formatted_image c.a_closed_area_is_older.ensures s.net_id s.slots old image c.in_ok-next.ensures.in_range.0 c.in_ok-next.ensures.in_range.1 long c.a_journal_stays_where_others_change.ensures
    (c.in_ok-next.ensures.area honest) (c.in_ok-next.ensures.other_area honest) (c.in_ok-next.ensures.body honest) torn (g.D.Disk.state c.args.disk.now).content

pub returns-clause-images : goal.returns-clause-images
returns-clause-images g c honest nothing image permitted =
    let s = c.args.superblock.now in
    let old = (g.D.Disk.state c.write_shut.new.disk).content in
    let torn : IsTorn 0 1 old image = c.open_front.ensures.images honest (c.in_ok-next.ensures.settled honest) image permitted in
    let long : length old ≡ disk_len s.slots = c.write_shut.ensures.same_length ∙ c.requires in
    formatted_image c.a_closed_area_is_older.ensures s.net_id s.slots old image c.in_ok-next.ensures.in_range.0 c.in_ok-next.ensures.in_range.1 long c.a_journal_stays_where_others_change.ensures
    (c.in_ok-next.ensures.area honest) (c.in_ok-next.ensures.other_area honest) (c.in_ok-next.ensures.body honest) torn (g.D.Disk.state c.args.disk.now).content

pub returns-clause-other_area : goal.returns-clause-other_area
returns-clause-other_area g c honest =
    let slots = c.args.superblock.now.slots in
    let old = (g.D.Disk.state c.write_shut.new.disk).content in
    let new = (g.D.Disk.state c.open_front.new.disk).content in
    let is : new ≡ bytes_after_write old 0 (OPEN ∷ []) = c.in_ok-open_front.ensures.opened honest in
    let torn : IsTorn 0 1 old new = record { same_length = c.in_ok-open_front.ensures.same_length; before = refl; after = ap (λ (l : List ℕ). drop 1 l) is } in
    closed_after 0 1 (area_b slots) old new torn (omega arith) (c.in_ok-next.ensures.other_area honest)

pub returns-clause-settled : goal.returns-clause-settled
returns-clause-settled g c honest = c.in_ok-open_front.ensures.settled honest

pub returns-in_err-next-clause-images : goal.returns-in_err-next-clause-images
returns-in_err-next-clause-images g c honest nothing image permitted =
    format_or_shut c.args.superblock.now.net_id c.args.superblock.now.slots (g.D.Disk.state c.args.disk.now).content image (c.write_shut.ensures.images honest nothing image permitted)
