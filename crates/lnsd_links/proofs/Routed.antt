-- How one effect changes the rings.
use Rattle.std.proofs.Common.{◌≡◌, ◌≢◌, ◌<◌, ◌≤◌, ◌+◌, ◌++◌, ◌∷◌, ℕ, Bool, true, false, List, [], Option, Some, refl, arith, ap, sym, ◌∙◌, subst, length, get_or, set, map, inl, inr, append_assoc}
use Rattle.std.specs.Prelude.{slice_get}
use Rattle.std.specs.Option.{option_map_or}
use Rattle.std.proofs.lemmas.Bool.{cases_eq}
use Rattle.std.proofs.lemmas.List.{map-set, get_or-map, length-map, get_or-set_same, get_or-set_other}
use Rattle.std.proofs.lemmas.Option.{get_or_from_slice_get}
use Rattle.std.proofs.Math.Seq.{map-set_same}
use Rattle.devices.specs.declared.effect.Effect.{Effect}
use Rattle.flusher.specs.Released.{effect_of, effects_of_all}
use Rattle.flusher.specs.declared.released.Released.{Released}
use Rattle.lnsd_links.specs.Routing.{put_after, rings_of, AreMarked, IsMarked, IsRouted, IsRoutedOne}
use Rattle.lnsd_links.specs.declared.names.Directory.{Directory}
use Rattle.outbox.specs.Ring.{put_in, room_of}
use Rattle.outbox.specs.declared.ends.Outlet.{Outlet}

-- an outlet that took an effect replaces the earlier state of it
pub taken_one : (outlets : List Outlet) (n : ℕ) (d new : Outlet) (effect : Effect)
    → n < length outlets → put_in new ≡ put_in (get_or outlets n d) ++ effect ∷ []
    → rings_of (set outlets n new) ≡ put_after n effect (rings_of outlets)
taken_one outlets n d new effect within put =
    let after = λ (ring : List Effect). ring ++ effect ∷ [] in
    let ring : put_in (get_or outlets n d) ≡ get_or (map put_in outlets) n [] = sym (get_or-map put_in outlets n d [] within) in
    map-set put_in outlets n new ∙ ap (set (map put_in outlets) n) (put ∙ ap after ring)

-- and one that took none
pub kept_one : (outlets : List Outlet) (n : ℕ) (d new : Outlet) → put_in new ≡ put_in (get_or outlets n d)
    → rings_of (set outlets n new) ≡ rings_of outlets
kept_one outlets n d new put = map-set_same put_in outlets n new d put

-- the outlet that is found at a place is the one at that place
pub full_one : (outlets : List Outlet) (n : ℕ) (d : Outlet) → room_of (get_or outlets n d) ≡ 0
    → (link : ℕ) (outlet : Outlet) → Some n ≡ Some link → slice_get outlets link ≡ Some outlet → room_of outlet ≡ 0
full_one outlets n d full link outlet same found =
    let P : ℕ → Type 0 = λ k. room_of (get_or outlets k d) ≡ 0 in
    let at : n ≡ link = cc in
    let there : room_of (get_or outlets link d) ≡ 0 = subst P at full in
    ap room_of (sym (get_or_from_slice_get outlets link outlet d found)) ∙ there

-- what holds after an effect and those that follow it holds after those alone
pub routed_step : (directory : Directory) (all : List Effect) (first : List Outlet) (rest left : List Released) (one : Released) (got : Option ℕ) (lost more : ℕ) (old new : List Outlet)
    → rest ≡ one ∷ left
    → IsRoutedOne directory (effect_of one) got old new
    → more ≡ lost + option_map_or (λ link. 0) got 1
    → ((others : ℕ) (after : List Outlet) → IsRouted directory (effects_of_all rest) others old after → IsRouted directory all (lost + others) first after)
    → (others : ℕ) (after : List Outlet) → IsRouted directory (effects_of_all left) others new after → IsRouted directory all (more + others) first after
routed_step directory all first rest left one got lost more old new front routed count kept others after h =
    let n = option_map_or (λ (link : ℕ). 0) got 1 in
    let P : List Released → Type 0 = λ r. IsRouted directory (effects_of_all r) (n + others) old after in
    let whole : P rest = subst P (sym front) (got, (others, (new, (routed, (refl, h))))) in
    let Q : ℕ → Type 0 = λ k. IsRouted directory all k first after in
    let sum : lost + (n + others) ≡ more + others = omega (arith, count) in
    subst Q sum (kept (n + others) after whole)

-- if none are left, all were put
pub routed_all : (directory : Directory) (all : List Effect) (first : List Outlet) (rest : List Released) (lost : ℕ) (outlets : List Outlet)
    → length rest ≡ 0
    → ((others : ℕ) (after : List Outlet) → IsRouted directory (effects_of_all rest) others outlets after → IsRouted directory all (lost + others) first after)
    → IsRouted directory all lost first outlets
routed_all directory all first [] lost outlets none kept =
    let P : ℕ → Type 0 = λ k. IsRouted directory all k first outlets in
    let same : lost + 0 ≡ lost = omega arith in
    subst P same (kept 0 outlets (refl, refl))
routed_all directory all first (one ∷ rest) lost outlets none kept =
    let no : ⊥ = omega (arith, none) in
    absurd no

-- what was put first and what was put then were both put
pub marked_then : (before between now : Bool) (old middle new : List Effect)
    → IsMarked before between old middle → IsMarked between now middle new → IsMarked before now old new
marked_then before between now old middle new (inl (is, (effect, (more, grown)))) (inl (marked, (other, (rest, on)))) =
    inl (marked, (effect, (more ++ other ∷ rest, on ∙ (ap (λ (ring : List Effect). ring ++ other ∷ rest) grown ∙ append_assoc old (effect ∷ more) (other ∷ rest)))))
marked_then before between now old middle new (inl (is, (effect, (more, grown)))) (inr (same, on)) =
    inl (same ∙ is, (effect, (more, on ∙ grown)))
marked_then before between now old middle new (inr (kept, nothing)) (inl (marked, (other, (rest, on)))) =
    inl (marked, (other, (rest, on ∙ ap (λ (ring : List Effect). ring ++ other ∷ rest) nothing)))
marked_then before between now old middle new (inr (kept, nothing)) (inr (same, on)) = inr (same ∙ kept, on ∙ nothing)

-- an effect was put into a ring, which is marked
pub marked_one : (before now : List Bool) (old middle new : List Outlet) (n : ℕ) (effect : Effect)
    → AreMarked before now old middle → length now ≡ length before
    → n < length middle → n < length now → rings_of new ≡ put_after n effect (rings_of middle)
    → AreMarked before (set now n true) old new
marked_one before now old middle new n effect marked long within is_marked put ring low =
    let rings = rings_of middle in
    let after = get_or rings n [] ++ effect ∷ [] in
    let here : n < length rings = omega (arith, within, length-map middle put_in) in
    let got : get_or (rings_of new) ring [] ≡ get_or (set rings n after) ring [] = ap (λ (all : List (List Effect)). get_or all ring []) put in
    marked_then (get_or before ring false) (get_or now ring false) (get_or (set now n true) ring false)
    (get_or (rings_of old) ring []) (get_or rings ring []) (get_or (rings_of new) ring [])
    (marked ring low)
    (elim (cases_eq ring n) [
      | inl same ↦
          let P : ℕ → Type 0 = λ k. get_or (set rings n after) k [] ≡ get_or rings k [] ++ effect ∷ [] in
          let Q : ℕ → Type 0 = λ k. get_or (set now n true) k false ≡ true in
          inl (
            subst Q (sym same) (get_or-set_same now n true false is_marked),
            (effect, ([], got ∙ subst P (sym same) (get_or-set_same rings n after [] here))),
          )
      | inr other ↦
          inr (get_or-set_other now n ring true false other, got ∙ get_or-set_other rings n ring after [] other)
    ])

-- an effect was put into a ring that has no mark
pub marked_none : (before now : List Bool) (old middle new : List Outlet) (n : ℕ) (effect : Effect)
    → AreMarked before now old middle → length now ≡ length before
    → length now ≤ n → rings_of new ≡ put_after n effect (rings_of middle)
    → AreMarked before now old new
marked_none before now old middle new n effect marked long beyond put ring low =
    let rings = rings_of middle in
    let after = get_or rings n [] ++ effect ∷ [] in
    let got : get_or (rings_of new) ring [] ≡ get_or (set rings n after) ring [] = ap (λ (all : List (List Effect)). get_or all ring []) put in
    let other : ring ≢ n = λ same. omega (arith, same, low, long, beyond) in
    marked_then (get_or before ring false) (get_or now ring false) (get_or now ring false)
    (get_or (rings_of old) ring []) (get_or rings ring []) (get_or (rings_of new) ring [])
    (marked ring low) (inr (refl, got ∙ get_or-set_other rings n ring after [] other))

-- an effect was put into no ring
pub marked_lost : (before now : List Bool) (old middle new : List Outlet)
    → AreMarked before now old middle → rings_of new ≡ rings_of middle → AreMarked before now old new
marked_lost before now old middle new marked same ring low =
    let P : List (List Effect) → Type 0 = λ all. IsMarked (get_or before ring false) (get_or now ring false) (get_or (rings_of old) ring []) (get_or all ring []) in
    subst P (sym same) (marked ring low)
