use Rattle.std.proofs.Common.{List, ℕ, refl, sym, ap, subst}
use Rattle.std.proofs.lemmas.Result.{err_from_is_err_and}
use Rattle.disk.specs.State.{State}
use Rattle.gate_log.specs.Areas.{Holds}
use Rattle.gate_log.specs.Opening.{disk_in_opening}
use Rattle.gate_log.specs.Live.{IsLiveAs}
use Rattle.gate_log.specs.Recovered.{IsRecovered}
use Rattle.store.proofs.Finding.{AreaLaws, KeepLaws, area_fault, found_in, good_front, journal_fault, restored_slots}
use Rattle.store.proofs.Holding.{have_length}
use Rattle.store.specs.Image.{HaveLength, IsLive, Restores, area_a, area_b}
use Rattle.store.proofs.recover.read_store.Goals as goal

pub returns-in_err-recovered-clause-refused : goal.returns-in_err-recovered-clause-refused
returns-in_err-recovered-clause-refused g c honest =
    let p = err_from_is_err_and c.from_residual-in_err-recovered.result c.from_residual-in_err-recovered.ensures.1 in
    rw (p.1, p.2) (λ device memory.
    let f = c.in_ok-front in
    let front = f.front in
    let content = (g.D.Disk.state (disk_in_opening c.args.opening.now)).content in
    let same = ap (λ (x : State). x.content) (f.ensures.reads.same honest) in
    let live = f.ensures.live honest in
    let laws : AreaLaws =
    record { live = c.what_is_held_is_live.ensures.live; room = c.what_is_held_is_live.ensures.room; one = c.one_area_is_live.ensures; none = c.none_live_holds_nothing.ensures; same = c.a_disk_holds_one_contents.ensures } in
    let is_live : IsLive content front.superblock.slots front.live.areas front.live.header = record { place = f.ensures.areas; at = live.is } in
    let refused = c.in_err-recovered.ensures.refused honest (subst (λ (l : List ℕ). IsLiveAs front.live l) (sym same) live) device memory in
    area_fault content front.superblock.net_id front.superblock.slots (f.ensures.store honest) (f.ensures.only honest) f.ensures.long laws
    front.live.areas front.live.header is_live c.in_err-recovered.field-0.0 (f.ensures.usable.version, f.ensures.usable.of_version) refused.0
    (λ held are holds. refused.1 (area_a front.superblock.slots) (area_b front.superblock.slots) f.ensures.areas held are (subst (λ (l : List ℕ). Holds held l) (sym same) holds)))

pub returns-in_err-table-clause-refused : goal.returns-in_err-table-clause-refused
returns-in_err-table-clause-refused g c honest =
    let p = err_from_is_err_and c.from_residual-in_err-table.result c.from_residual-in_err-table.ensures.1 in
    rw (p.1, p.2) (λ device memory.
    let f = c.in_ok-front in
    let front = f.front in
    let content = (g.D.Disk.state (disk_in_opening c.args.opening.now)).content in
    let same = ap (λ (x : State). x.content) (f.ensures.reads.same honest) in
    let live = f.ensures.live honest in
    let laws : AreaLaws =
    record { live = c.what_is_held_is_live.ensures.live; room = c.what_is_held_is_live.ensures.room; one = c.one_area_is_live.ensures; none = c.none_live_holds_nothing.ensures; same = c.a_disk_holds_one_contents.ensures } in
    let is_live : IsLive content front.superblock.slots front.live.areas front.live.header = record { place = f.ensures.areas; at = live.is } in
    let r = c.in_ok-recovered.recovered in
    let recovered = c.in_ok-recovered.ensures.recovered honest (subst (λ (l : List ℕ). IsLiveAs front.live l) (sym same) live) in
    let refused = c.in_err-table.ensures memory in
    journal_fault content front.superblock.net_id front.superblock.slots (f.ensures.store honest) (f.ensures.only honest) f.ensures.long laws
    front.live.areas front.live.header is_live front.version f.ensures.version r c.in_ok-recovered.ensures.header
    (subst (λ (l : List ℕ). IsRecovered front.live.areas l r) same recovered) c.in_err-table.field-0.0 refused.0 refused.1)

pub returns-clause-found : goal.returns-clause-found
returns-clause-found g c honest =
    let f = c.in_ok-front in
    let front = f.front in
    let content = (g.D.Disk.state (disk_in_opening c.args.opening.now)).content in
    let same = ap (λ (x : State). x.content) (f.ensures.reads.same honest) in
    let live = f.ensures.live honest in
    let laws : AreaLaws =
    record { live = c.what_is_held_is_live.ensures.live; room = c.what_is_held_is_live.ensures.room; one = c.one_area_is_live.ensures; none = c.none_live_holds_nothing.ensures; same = c.a_disk_holds_one_contents.ensures } in
    let is_live : IsLive content front.superblock.slots front.live.areas front.live.header = record { place = f.ensures.areas; at = live.is } in
    let r = c.in_ok-recovered.recovered in
    let recovered = c.in_ok-recovered.ensures.recovered honest (subst (λ (l : List ℕ). IsLiveAs front.live l) (sym same) live) in
    let keep : KeepLaws = record { net_id = c.entries_keep_the_network.ensures.net_id; slots = c.entries_keep_the_network.ensures.slots } in
    found_in content front.superblock.net_id front.superblock.slots (f.ensures.store honest) (f.ensures.only honest) f.ensures.long laws
    front.live.areas front.live.header is_live front.version f.ensures.version r c.in_ok-recovered.ensures.header
    (subst (λ (l : List ℕ). IsRecovered front.live.areas l r) same recovered) keep _ f.ensures.usable refl refl live refl refl c.in_ok-table.ensures

pub returns-in_err-recovered-clause-memory : goal.returns-in_err-recovered-clause-memory
returns-in_err-recovered-clause-memory g c honest =
    let p = err_from_is_err_and c.from_residual-in_err-recovered.result c.from_residual-in_err-recovered.ensures.1 in
    rw (p.1, p.2) (λ memory.
    good_front (g.D.Disk.state (disk_in_opening c.args.opening.now)).content c.in_ok-front.front.superblock.net_id c.in_ok-front.front.superblock.slots
    (c.in_ok-front.ensures.store honest) c.in_ok-front.ensures.long c.in_ok-front.front.live.areas c.in_ok-front.front.live.header
    (record { place = c.in_ok-front.ensures.areas; at = (c.in_ok-front.ensures.live honest).is }) c.in_ok-front.ensures.usable)

pub returns-in_err-table-clause-memory : goal.returns-in_err-table-clause-memory
returns-in_err-table-clause-memory g c honest =
    let p = err_from_is_err_and c.from_residual-in_err-table.result c.from_residual-in_err-table.ensures.1 in
    rw (p.1, p.2) (λ memory.
    good_front (g.D.Disk.state (disk_in_opening c.args.opening.now)).content c.in_ok-front.front.superblock.net_id c.in_ok-front.front.superblock.slots
    (c.in_ok-front.ensures.store honest) c.in_ok-front.ensures.long c.in_ok-front.front.live.areas c.in_ok-front.front.live.header
    (record { place = c.in_ok-front.ensures.areas; at = (c.in_ok-front.ensures.live honest).is }) c.in_ok-front.ensures.usable)

pub invariant_of-result-clause-long : goal.invariant_of-result-clause-long
invariant_of-result-clause-long g c =
    let front = c.in_ok-front.front in
    let net = front.superblock.net_id in
    let slots = front.superblock.slots in
    let r = c.in_ok-recovered.recovered in
    let found = c.in_ok-table in
    let keep : KeepLaws = record { net_id = c.entries_keep_the_network.ensures.net_id; slots = c.entries_keep_the_network.ensures.slots } in
    let journal : Restores front.version net slots r.header r.records.items r.batches.items found.table found.seq = (found.ensures found.table found.seq).1 (refl, refl) in
    subst (λ n. HaveLength n front.live.areas)
    (sym (restored_slots keep front.version net slots r.header r.records.items r.batches.items found.table found.seq journal))
    (have_length slots front.live.areas c.in_ok-front.ensures.areas)
