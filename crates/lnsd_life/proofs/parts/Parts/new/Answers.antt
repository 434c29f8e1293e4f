use Rattle.std.proofs.Common.{◌≡◌, ◌+◌, ◌∷◌, ◌++◌, ◌∙◌, [], ap, arith, length, map, sym}
use Rattle.std.proofs.lemmas.List.{length_push, map_push}
use Rattle.lnsd_life.specs.declared.parts.LinkParts.{LinkParts}
use Rattle.lnsd_life.proofs.Making.{rings_with_one_more}
use Rattle.lnsd_life.proofs.Numbered.{one_number_more}
use Rattle.lnsd_life.proofs.parts.Parts.new.Goals as goal

-- one more link, with the two ends of one ring
pub loop-place-preserved : goal.loop-place-preserved
loop-place-preserved g c =
    let (left, (count, (are, numbered))) = c.loop-place.invariant in
    let inlet_of = λ (link : LinkParts g.row.B.Denot). link.spare.inlet in
    let links = c.loop-place.all.items in
    let ends = c.in_ok-outlet.ensures in
    let outlet = c.in_ok-outlet.outlet in
    let inlet = c.in_ok-outlet.inlet in
    let put = c.in_ok-push.ensures.items in
    let pushed = c.in_ok-push-2.ensures.items in
    let inlets : map inlet_of c.push-in-loop-place.new.self.items ≡ map inlet_of links ++ inlet ∷ [] = ap (map inlet_of) pushed ∙ map_push inlet_of links _ in (
      omega (arith, left, c.seat-seat.ensures.left),
      (
        ap length pushed ∙ (length_push links _ ∙ ap (λ n. n + 1) count),
        (
          rings_with_one_more 1024 c.loop-place.outlets.items c.push.new.self.items (map inlet_of links) (map inlet_of c.push-in-loop-place.new.self.items) outlet inlet are (ends.ends, (ends.outlet.0, (ends.inlet.0, ends.outlet.1))) put inlets,
          one_number_more (λ (link : LinkParts g.row.B.Denot). link.spare.place) links _ _ numbered (sym count) pushed,
        ),
      ),
    )
