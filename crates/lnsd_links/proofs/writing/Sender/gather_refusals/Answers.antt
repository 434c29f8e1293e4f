use Rattle.std.proofs.Common.{◌∙◌, ap, arith, inl, length, refl, sym}
use Rattle.std.proofs.lemmas.List.{length_push}
use Rattle.rtrb.specs.Ring.{received}
use Rattle.lnsd_links.proofs.Answered.{added_or_same, answered_one}
use Rattle.lnsd_links.proofs.writing.Sender.gather_refusals.Goals.{then-not-self, else-not-self}
use Rattle.lnsd_links.proofs.writing.Sender.gather_refusals.Goals as goal

-- one more refusal, answered or not
pub loop-preserved : goal.loop-preserved
loop-preserved g c =
    let (have, (many, (inlet, (broken, (keeps, name))))) = c.loop.invariant in
    let longer = ap length c.in-Ok.ensures.ok.0 ∙ length_push (received c.loop.self.refusals) c.in-Ok.refusal in
    elim c.if-not-self.branch [
      | then-not-self w ↦ rw w.self-is (answered_one _ _ _ _ _ c.in-Ok.refusal _ _ _ have c.in-Ok.ensures.ok.0 (added_or_same (sym broken ∙ w.if-not-self.true) w.add_refusal.result w.add_refusal.ensures), (omega (arith, longer, many), (inlet, (broken, (keeps, name)))))
      | else-not-self w ↦ rw w.self-is (answered_one _ _ _ _ _ c.in-Ok.refusal _ _ _ have c.in-Ok.ensures.ok.0 (inl refl), (omega (arith, longer, many), (inlet, (broken, (keeps, name)))))
    ]
