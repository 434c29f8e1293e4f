use Rattle.std.proofs.Common.{◌≡◌, ◌≢◌, ◌≤◌, ◌+◌, ℕ, List, length, get_or, ap, subst, inl, inr, sym}
use Rattle.std.specs.Prelude.{MatchOption, Option, Some, None}
use Rattle.disk.specs.State.{State}
use Rattle.gate_log.specs.declared.layout.Area.{Area}
use Rattle.gate_log.specs.declared.layout.Header.{Header}
use Rattle.gate_log.specs.declared.layout.TheConstants.{OPEN}
use Rattle.gate_log.specs.declared.layout.Areas.{Areas}
use Rattle.gate_log.specs.declared.live.Live.{Live}
use Rattle.gate_log.specs.Areas.{AreLaidOut, AreOf, HasHeader, IsClosedArea}
use Rattle.gate_log.specs.Recover.{IsHeaderAt}
use Rattle.gate_log.proofs.Holding.{turned}
use Rattle.gate_log.proofs.Recovering.{header_in}
use Rattle.gate_log.proofs.opening.Opening.live.Goals as goal

in_area : (area : Area) (disk : List ℕ) (header : Option Header) → area.start + 31 ≤ area.end → area.end ≤ length disk → MatchOption header (get_or disk area.start 0 ≢ OPEN) (IsHeaderAt disk area.start) → MatchOption header (IsClosedArea area disk) (λ h. HasHeader area h disk)
in_area area disk None order within is = is
in_area area disk (Some h) order within is = header_in area disk order within h is

pub returns-clause-live : goal.returns-clause-live
returns-clause-live g c honest =
    let disk = (g.D.Disk.state c.args.self.now.disk).content in
    let same : (g.D.Disk.state c.read_header.new.disk).content ≡ disk = ap (λ (s : State). s.content) (c.read_header.ensures.reads.same honest) in
    let second = subst (λ (l : List ℕ). MatchOption c.in_ok-header_b.header_b (get_or l c.args.b.start 0 ≢ OPEN) (IsHeaderAt l c.args.b.start)) same (c.in_ok-header_b.ensures.header honest) in
    c.of.ensures.live disk
    (in_area c.args.a disk c.in_ok-header_a.header_a c.requires.layout.live_room c.requires.layout.live_within (c.in_ok-header_a.ensures.header honest))
    (in_area c.args.b disk c.in_ok-header_b.header_b c.requires.layout.other_room c.requires.layout.other_within second)

laid_out : (a b : Area) (size : ℕ) (live : Option Live) → AreLaidOut (record { live = a; other = b }) size → MatchOption live (Unit {0}) (λ l. AreOf a b l.areas) → MatchOption live (Unit {0}) (λ l. AreLaidOut l.areas size)
laid_out a b size None layout are = tt
laid_out a b size (Some l) layout (inl is) = subst (λ (x : Areas). AreLaidOut x size) (sym is) layout
laid_out a b size (Some l) layout (inr is) = subst (λ (x : Areas). AreLaidOut x size) (sym is) (turned (record { live = a; other = b }) size layout)

pub returns-clause-layout : goal.returns-clause-layout
returns-clause-layout g c = laid_out c.args.a c.args.b _ c.of.result c.requires.layout c.of.ensures.areas
