use Rattle.std.proofs.Common.{◌≡◌, ◌+◌, ◌∷◌, ◌++◌, ◌∙◌, List, [], ap, length, append_assoc, map, refl, sym}
use Rattle.std.proofs.lemmas.List.{length_push, map_push}
use Rattle.lnsd_links.specs.declared.rings.OwnRing.{OwnRing}
use Rattle.outbox.specs.declared.ends.Outlet.{Outlet}
use Rattle.lnsd_life.proofs.Making.{rings_with_one_more}
use Rattle.lnsd_life.proofs.Numbered.{one_number_more}
use Rattle.lnsd_life.proofs.parts.Parts.add_lines.Goals as goal

-- one more ring, after those of the links
pub loop-application-preserved : goal.loop-application-preserved
loop-application-preserved g c =
    let (count, ((added, (stand, are)), (numbered, same))) = c.loop-application.invariant in
    let inlet_of = λ (own : OwnRing). own.inlet in
    let ends = c.in_ok-outlet.ensures in
    let outlet = c.in_ok-outlet.outlet in
    let inlet = c.in_ok-outlet.inlet in
    let all = c.loop-application.all.items in
    let put = c.in_ok-push.ensures.items in
    let pushed = c.in_ok-push-2.ensures.items in
    let inlets : map inlet_of c.push-in-loop-application.new.self.items ≡ map inlet_of all ++ inlet ∷ [] = ap (map inlet_of) pushed ∙ map_push inlet_of all _ in (
      ap length pushed ∙ (length_push all _ ∙ ap (λ n. n + 1) count),
      (
        (
          added ++ outlet ∷ [],
          (
            put ∙ (ap (λ (outlets : List Outlet). outlets ++ outlet ∷ []) stand ∙ append_assoc c.args.self.now.outlets.items added (outlet ∷ [])),
            rings_with_one_more 1024 added (added ++ outlet ∷ []) (map inlet_of all) (map inlet_of c.push-in-loop-application.new.self.items) outlet inlet are (ends.ends, (ends.outlet.0, (ends.inlet.0, ends.outlet.1))) refl inlets,
          ),
        ),
        (one_number_more (λ (own : OwnRing). own.application) all _ _ numbered (sym count) pushed, same),
      ),
    )
