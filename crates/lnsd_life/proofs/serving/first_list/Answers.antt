use Rattle.std.proofs.Common.{ℕ, Err, Option, refl, subst, sym}
use denote.Ref.{Bor}
use Rattle.lnsd_links.specs.NamesRead.{AreReadFrom}
use Rattle.lnsd_life.specs.FirstList.{IsListFault}
use Rattle.lnsd_life.proofs.serving.first_list.Goals as goal

pub returns-in-Err : goal.returns-in-Err
returns-in-Err g c =
    let read = subst (λ (n : ℕ). AreReadFrom (g.S.NameSource.gives c.in-Some.source.now) n (Err c.in-Err.fault)) c.get.ensures.value c.in-Err.ensures.read in
    (c.in-Err.fault, (refl, subst (λ (s : Option (Bor _)). IsListFault g.S.NameSource.gives s c.args.places c.in-Err.fault) (sym c.in-Some.is) read))
