use Rattle.std.proofs.Common.{◌≡◌, ℕ, Result, Ok, Err, IsErrAnd, arith, length, subst, sym}
use Rattle.lnsd_links.specs.NamesRead.{AreReadFrom}
use Rattle.lnsd_links.specs.declared.name_list.NameList.{NameList}
use Rattle.lnsd_operator.specs.declared.fault.NameListFault.{NameListFault}
use Rattle.lnsd_threads.specs.Named.{HaveBeenRead}
use Rattle.lnsd_threads.proofs.server.LiveServer.reload.Goals as goal

-- the list was taken for this number of places
pub returns : goal.returns
returns g c =
    let read = subst (AreReadFrom (g.S.NameSource.gives c.args.source.now) c.len.result) c.in_ok-list.was c.read_names.ensures.read in
    (c.in_ok-list.list, (read.0, omega (arith, read.1, c.len.ensures)))

-- a fault that is passed on
passed_on : (Gives : Result NameList NameListFault → Type 0) (places len : ℕ) (result : Result (Unit {0}) NameListFault) (e : NameListFault)
    → len ≡ places → IsErrAnd result (λ answered. answered ≡ e) → AreReadFrom Gives len (Err e) → HaveBeenRead Gives places result
passed_on Gives places len (Ok done) e same is read = absurd is
passed_on Gives places len (Err answered) e same is read =
    subst (λ (n : ℕ). AreReadFrom Gives n (Err answered)) same
    (subst (λ (fault : NameListFault). AreReadFrom Gives len (Err fault)) (sym is) read)

pub returns-in_err-list : goal.returns-in_err-list
returns-in_err-list g c =
    passed_on (g.S.NameSource.gives c.args.source.now) (length c.args.self.now.links.items) c.len.result c.from_residual.result c.in_err-list.field-0.0
    (omega (arith, c.len.ensures)) c.from_residual.ensures.1
    (subst (AreReadFrom (g.S.NameSource.gives c.args.source.now) c.len.result) c.in_err-list.was c.read_names.ensures.read)
