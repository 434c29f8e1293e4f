use Rattle.std.proofs.Common.{◌≡◌, ℕ, List, Option, Some, Vec, Global, subst, sym}
use Rattle.std.specs.Prelude.{slice_get}
use Rattle.std.proofs.lemmas.Option.{none-some}
use Rattle.lnsd_links.specs.declared.rings.OwnRing.{OwnRing}
use Rattle.lnsd_links.specs.declared.rings.WaitingLines.{WaitingLines}
use Rattle.lnsd_life.proofs.Numbered.{numbered_alike}
use Rattle.lnsd_life.proofs.serving.Equipment.new.Goals.{then-policy+in_ok-rings+in_ok-waiting_lines, else-policy}
use Rattle.lnsd_life.proofs.serving.Equipment.new.Goals as goal

abbrev AreNumbered : List WaitingLines → Type 0
AreNumbered all = (n : ℕ) (waiting : WaitingLines) → slice_get all n ≡ Some waiting → waiting.application ≡ n

pub returns-clause-lines : goal.returns-clause-lines
returns-clause-lines g c =
    elim c.if-policy.branch [
      | then-policy+in_ok-rings+in_ok-waiting_lines w ↦
          subst (λ (first : Option ℕ × Vec WaitingLines Global). AreNumbered first.1.items) (sym w.first_ring-is)
          (numbered_alike (λ (waiting : WaitingLines). waiting.application) (λ (own : OwnRing). own.application) w.in_ok-waiting_lines.field-0.items w.in_ok-rings.rings.items w.in_ok-waiting_lines.ensures.lines w.in_ok-rings.ensures.applications)
      | else-policy w ↦
          subst (λ (first : Option ℕ × Vec WaitingLines Global). AreNumbered first.1.items) (sym w.first_ring-is)
          (λ n waiting got. absurd (none-some waiting (subst (λ (l : List WaitingLines). slice_get l n ≡ Some waiting) w.new-else-policy.ensures.items got)))
    ]
