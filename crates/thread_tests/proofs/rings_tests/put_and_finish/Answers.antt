use Rattle.std.proofs.Common.{Option, Some, None, IfSome}
use Rattle.outbox.specs.Ring.{Ends, SameOutlet}
use Rattle.outbox.specs.declared.ends.Ended.{Ended}
use Rattle.outbox.specs.declared.ends.Outlet.{Outlet}
use Rattle.thread_tests.proofs.rings_tests.put_and_finish.Goals as goal

behind : (first last : Outlet) → SameOutlet first last → (r : Option Ended) → IfSome r (λ ended. Ends last ended)
    → IfSome r (λ ended. (x : Outlet) × SameOutlet first x × Ends x ended)
behind first last same (Some ended) ends = (last, same, ends)
behind first last same None none = tt

pub returns : goal.returns
returns c = behind c.args.outlet c.in_ok-put_all.field-0 c.in_ok-put_all.ensures c.finish.result c.finish.ensures
