-- How released effects are put into the rings of their links.
use Rattle.std.specs.Prelude.{◌≡◌, ◌<◌, ◌+◌, ◌++◌, ◌∷◌, ◌⊎◌, ℕ, Bool, true, false, List, []}
use Rattle.std.specs.Prelude.{Option, Some, length, map, slice_get, slice_index_or, slice_set}
use Rattle.std.specs.Prelude.{MatchOption}
use Rattle.std.specs.Option.{option_map_or}
use Rattle.devices.specs.declared.effect.Effect.{Effect}
use Rattle.gateway_wire.specs.Emission.{recipient}
use Rattle.lnsd_links.specs.Linked.{ring_of}
use Rattle.lnsd_links.specs.declared.names.Directory.{Directory}
use Rattle.outbox.specs.Ring.{put_in, room_of}
use Rattle.outbox.specs.declared.ends.Outlet.{Outlet}

-- what was put into each ring, in the order of the rings
abbrev pub rings_of : List Outlet → List (List Effect)
rings_of outlets = map put_in outlets

-- the effect is put after those of one ring
abbrev pub put_after : ℕ → Effect → List (List Effect) → List (List Effect)
put_after ring effect rings =
    slice_set rings ring (slice_index_or rings ring [] ++ effect ∷ [])

-- this is the ring of the effect's recipient
abbrev pub IsFor : Directory → Effect → ℕ → Type 0
IsFor directory effect ring = ring_of directory (recipient effect) ≡ Some ring

-- the effect is put into its recipient's ring; it is lost only if there is no such ring, or if the
-- ring isn't known to have room
abbrev pub IsRoutedOne : Directory → Effect → Option ℕ → List Outlet → List Outlet → Type 0
IsRoutedOne directory effect got old new = MatchOption got
    ((rings_of new ≡ rings_of old) × ((ring : ℕ) (outlet : Outlet) → IsFor directory effect ring
    → slice_get old ring ≡ Some outlet → room_of outlet ≡ 0))
    (λ ring. IsFor directory effect ring
    × (rings_of new ≡ put_after ring effect (rings_of old)))

-- effects are put into rings one after another, and this number of them are lost
abbrev pub IsRouted : Directory → List Effect → ℕ → List Outlet → List Outlet → Type 0
IsRouted directory [] lost old new = (lost ≡ 0) × (new ≡ old)
IsRouted directory (effect ∷ effects) lost old new =
    (got : Option ℕ) × ((others : ℕ) × ((between : List Outlet)
    × (IsRoutedOne directory effect got old between
    × ((lost ≡ option_map_or (λ ring. 0) got 1 + others)
    × IsRouted directory effects others between new))))

-- something was put into a ring, after what was there
abbrev pub HasGrown : List Effect → List Effect → Type 0
HasGrown old new = (effect : Effect) × ((more : List Effect) × (new ≡ old ++ effect ∷ more))

-- a ring into which something was put is marked now; if its mark is as before, nothing was put into
-- it
abbrev pub IsMarked : Bool → Bool → List Effect → List Effect → Type 0
IsMarked before now old new =
    ((now ≡ true) × HasGrown old new) ⊎ ((now ≡ before) × (new ≡ old))

-- each ring that has a mark is marked in this way
abbrev pub AreMarked : List Bool → List Bool → List Outlet → List Outlet → Type 0
AreMarked before now old new = (ring : ℕ) → ring < length before
    → IsMarked (slice_index_or before ring false) (slice_index_or now ring false)
    (slice_index_or (rings_of old) ring []) (slice_index_or (rings_of new) ring [])
