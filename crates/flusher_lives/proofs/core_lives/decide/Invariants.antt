-- The closure can be called again. All that was committed so far is a beginning of what the core
-- decided. As many chains were made as were counted.
use denote.Param.Always.{always_mut}
use denote.Param.Members.{Called}
use Rattle.std.proofs.Common.{◌≡◌, ◌≤◌, Vec, Global, ℕ, List, Ok, length, map}
use Rattle.session_core.specs.Core.{new_core}
use Rattle.store.specs.State.{store_state}
use Rattle.flusher_lives.specs.Coming.{GivesAfterComing}
use Rattle.flusher_lives.specs.Deciding.{StaysInStep}
use Rattle.flusher.specs.Released.{effects_of_all}
use Rattle.flusher.specs.Serving.{MakeChains}
use Rattle.flusher_lives.specs.declared.core_feed.CoreFeed.{CoreFeed}
use Rattle.flusher.specs.declared.released.Released.{Released}
use Rattle.flusher_lives.proofs.core_lives.decide.Given as goal

abbrev pub invariant-loop : goal.invariant-loop
invariant-loop g l =
    always_mut g.C.FnMut l.out
    × ((first : CoreFeed)
    × (StaysInStep g.D.Disk.honest (λ (released : Vec Released Global). effects_of_all released.items) (λ before released after. Called g.C.FnMut before (released, tt) tt after) (store_state g.D.Disk.state l.fn.store) (store_state g.D.Disk.state l.store)
    first l.feed l.fn.out l.out
    × ((first.core ≡ new_core l.fn.store.table l.fn.store.seq) × ((first.coming.items ≡ l.fn.coming.items)
    × ((counts : List ℕ) × ((length counts ≡ l.counter) × ((l.counter ≤ l.fn.chains)
    × MakeChains g.D.Disk GivesAfterComing (λ (released : Vec Released Global). effects_of_all released.items) (λ before released after. Called g.C.FnMut before (released, tt) tt after) l.fn.most l.fn.store l.store first l.feed l.fn.out l.out (map (λ count. Ok count) counts))))))))
