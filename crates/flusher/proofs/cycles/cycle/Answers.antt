use denote.Param.Members.{Called}
use Rattle.std.proofs.Common.{List, Vec, Global, subst}
use Rattle.devices.specs.declared.effect.Effect.{Effect}
use Rattle.flusher.specs.Chain.{IsChain}
use Rattle.flusher.specs.Released.{effects_of_all}
use Rattle.flusher.specs.declared.released.Released.{Released}
use Rattle.flusher.proofs.Single.{done, held_back, keeps_seq, keeps_table, leads_once, leaves, made, refused}
use Rattle.flusher.proofs.cycles.cycle.Goals as goal

pub returns-clause-cycle : goal.returns-clause-cycle
returns-clause-cycle g c =
    let effects : Vec Released Global → List Effect = λ released. effects_of_all released.items in
    let step : g.row.C.Denot → Vec Released Global → g.row.C.Denot → Type 0 = λ before released after. Called g.C.FnMut before (released, tt) tt after in
    let gives = g.F.Feed.gives in
    let disk = g.D.Disk in
    let store = c.args.store.now in
    let new = c.chain.new.store in
    let feed = c.args.feed.now in
    let feed' = c.chain.new.feed in
    let out = c.args.out.now in
    let out' = c.chain.new.out in
    let r = c.chain.result in
    let is = subst (λ n. IsChain disk gives effects step n store new feed feed' out out' r) c.one.ensures c.chain.ensures.chain in
    record {
      done = done disk gives effects step store new feed feed' out out' r is;
      held_back = held_back disk gives effects step store new feed feed' out out' r is;
      table = keeps_table disk gives effects step store new feed feed' out out' r is;
      seq = keeps_seq disk gives effects step store new feed feed' out out' r is;
      refused = refused disk gives effects step store new feed feed' out out' r is;
      calls = is.calls;
      made = made disk gives effects step store new feed feed' out out' r is;
      settled = is.settled;
      images = leaves disk gives effects step store new feed feed' out out' c.a_settled_store_is_on_its_disk.ensures r is;
    }

pub returns-clause-lives : goal.returns-clause-lives
returns-clause-lives g c honest t number lives led =
    let effects : Vec Released Global → List Effect = λ released. effects_of_all released.items in
    let step : g.row.C.Denot → Vec Released Global → g.row.C.Denot → Type 0 = λ before released after. Called g.C.FnMut before (released, tt) tt after in
    let store = c.args.store.now in
    let new = c.chain.new.store in
    let is =
    subst (λ n. IsChain g.D.Disk g.F.Feed.gives effects step n store new c.args.feed.now c.chain.new.feed c.args.out.now c.chain.new.out c.chain.result) c.one.ensures
    c.chain.ensures.chain in
    leads_once g.D.Disk g.F.Feed.gives effects step store new c.args.feed.now c.chain.new.feed c.args.out.now c.chain.new.out c.a_settled_store_is_on_its_disk.ensures
    c.composing.ensures.table honest t number lives led c.chain.result is c.chain.ensures.closed
