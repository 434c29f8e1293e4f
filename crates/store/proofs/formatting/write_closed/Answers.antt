use Rattle.std.proofs.Common.{◌≡◌, ◌∙◌, [], List, ℕ, length, take, drop, ap, subst, arith}
use Rattle.gate_log.specs.declared.layout.Area.{Area}
use Rattle.gate_log.specs.Areas.{HoldsIn, IsClosedArea}
use Rattle.gate_log.specs.Layout.{checkpoint, fresh_header}
use Rattle.disk.specs.State.{IsTorn}
use Rattle.store.specs.Image.{area_b}
use Rattle.store.specs.declared.areas.TheConstants.{RECORD_VERSION}
use Rattle.store.proofs.EmptyStore.{closed_after, OnOk-map, OnOk-of, front_after, shut_after}
use Rattle.store.proofs.formatting.write_closed.Goals as goal

pub returns-clause-area : goal.returns-clause-area
returns-clause-area g c honest =
    let slots = c.args.superblock.now.slots in
    let old = (g.D.Disk.state c.close_area.new.disk).content in
    let new = (g.D.Disk.state c.format_area.new.disk).content in
    let area = c.first_area.ensures in
    OnOk-map c.format_area.result
    (λ (held : HoldsIn c.first_area.result (checkpoint (fresh_header RECORD_VERSION) []) new). subst (λ (a : Area). HoldsIn a (checkpoint (fresh_header RECORD_VERSION) []) new) area held)
    (c.format_area.ensures.formatted honest)

pub returns-clause-body : goal.returns-clause-body
returns-clause-body g c honest =
    let net_id = c.args.superblock.now.net_id in
    let slots = c.args.superblock.now.slots in
    let bytes = c.to_bytes-bytes.result in
    let first = (g.D.Disk.state c.args.disk.now).content in
    let start = ap (λ (a : Area). a.start) c.second_area.ensures in
    let area = ap (λ (a : Area). a.start) c.first_area.ensures in
    let body = take 31 (drop 1 bytes) in
    let old = (g.D.Disk.state c.close_area.new.disk).content in
    let new = (g.D.Disk.state c.format_area.new.disk).content in
    let torn : IsTorn 32 31 old new = subst (λ at. IsTorn at 31 old new) area (c.format_area.ensures.opens honest).torn in
    let size : length body ≡ 31 = ap (λ (l : List ℕ). length (take 31 (drop 1 l))) c.to_bytes-bytes.ensures.bytes in
    let front = front_after c.second_area.result.start first (g.D.Disk.state c.write_at.new.self).content old new body
    (omega (arith, start)) size (omega (arith, c.requires)) (c.in_ok-write_at.ensures.written honest) (c.close_area.ensures.opens honest).torn torn in
    OnOk-of c.format_area.result (front ∙ ap (λ (l : List ℕ). take 31 (drop 1 l)) c.to_bytes-bytes.ensures.bytes)

pub returns-clause-shut : goal.returns-clause-shut
returns-clause-shut g c honest shut =
    let b = ap (λ (a : Area). a.start) c.second_area.ensures in
    let a = ap (λ (a : Area). a.start) c.first_area.ensures in
    shut_after c.first_area.result.start 31 (g.D.Disk.state c.close_area.new.disk) (g.D.Disk.state c.format_area.new.disk) (omega (arith, a)) (c.format_area.ensures.opens honest)
    (shut_after c.second_area.result.start 1 (g.D.Disk.state c.write_at.new.self) (g.D.Disk.state c.close_area.new.disk) (omega (arith, b)) (c.close_area.ensures.opens honest)
    (shut_after 1 _ (g.D.Disk.state c.args.disk.now) (g.D.Disk.state c.write_at.new.self) (omega arith) (c.write_at.ensures.opens honest) shut))

pub returns-clause-other_area : goal.returns-clause-other_area
returns-clause-other_area g c honest =
    let slots = c.args.superblock.now.slots in
    let old = (g.D.Disk.state c.close_area.new.disk).content in
    let new = (g.D.Disk.state c.format_area.new.disk).content in
    let area = ap (λ (a : Area). a.start) c.first_area.ensures in
    let torn : IsTorn 32 31 old new = subst (λ at. IsTorn at 31 old new) area (c.format_area.ensures.opens honest).torn in
    let closed : IsClosedArea (area_b slots) old = subst (λ (a : Area). IsClosedArea a old) c.second_area.ensures (c.in_ok-close_area.ensures.closed honest) in
    OnOk-of c.format_area.result (closed_after 32 31 (area_b slots) old new torn (omega arith) closed)

pub returns-in_err-write_at-clause-shut : goal.returns-in_err-write_at-clause-shut
returns-in_err-write_at-clause-shut g c honest shut =
    shut_after 1 _ (g.D.Disk.state c.args.disk.now) (g.D.Disk.state c.write_at.new.self) (omega arith) (c.write_at.ensures.opens honest) shut

pub returns-in_err-close_area-clause-shut : goal.returns-in_err-close_area-clause-shut
returns-in_err-close_area-clause-shut g c honest shut =
    let b = ap (λ (a : Area). a.start) c.second_area.ensures in
    shut_after c.second_area.result.start 1 (g.D.Disk.state c.write_at.new.self) (g.D.Disk.state c.close_area.new.disk) (omega (arith, b)) (c.close_area.ensures.opens honest)
    (shut_after 1 _ (g.D.Disk.state c.args.disk.now) (g.D.Disk.state c.write_at.new.self) (omega arith) (c.write_at.ensures.opens honest) shut)
