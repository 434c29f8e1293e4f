-- Links are marked, one application after another.
use Rattle.std.proofs.Common.{◌≡◌, ◌<◌, ◌≤◌, ◌+◌, ◌⊎◌, ℕ, Bool, true, false, cond, List, Option, Some, None, refl, arith, ap, sym, ◌∙◌, subst, length, get_or, set, inl, inr, min}
use Rattle.std.specs.Prelude.{slice_get}
use Rattle.std.proofs.lemmas.Bool.{cases_eq, cases_lt, false≢true}
use Rattle.std.proofs.lemmas.List.{length-set, get_or_past, get_or-set_same, get_or-set_other}
use Rattle.std.proofs.lemmas.Option.{slice_get_within}
use Rattle.lnsd_links.specs.declared.names.Directory.{Directory}
use Rattle.lnsd_life.specs.Marks.{AreLinksMarked, IsSet, with_link}

is_within_at : (marks : List Bool) (place : ℕ) → (place < length marks) ⊎ (length marks ≤ place) → IsSet marks place → place < length marks
is_within_at marks place (inl within) is = within
is_within_at marks place (inr past) is = absurd (false≢true (sym (get_or_past marks place false past) ∙ is))

is_within : (marks : List Bool) (place : ℕ) → IsSet marks place → place < length marks
is_within marks place is = is_within_at marks place (cases_lt place (length marks)) is

-- a mark isn't removed
stays : (b : Bool) (marks : List Bool) (link place : ℕ) → IsSet marks place → IsSet (cond b (set marks link true) marks) place
stays false marks link place is = is
stays true marks link place is =
    elim (cases_eq place link) [
      | inl same ↦
          let P : ℕ → Type 0 = λ k. get_or (set marks link true) k false ≡ true in
          let here : link < length marks = subst (λ (k : ℕ). k < length marks) same (is_within marks place is) in
          subst P (sym same) (get_or-set_same marks link true false here)
      | inr other ↦ get_or-set_other marks link place true false other ∙ is
    ]

pub stays_set : (link : Option ℕ) (ring : ℕ) (marks : List Bool) (place : ℕ) → IsSet marks place → IsSet (with_link link ring marks) place
stays_set None ring marks place is = is
stays_set (Some link) ring marks place is = stays (get_or marks ring false) marks link place is

counted : (b : Bool) (marks : List Bool) (link : ℕ) → length (cond b (set marks link true) marks) ≡ length marks
counted false marks link = refl
counted true marks link = length-set marks link true

pub same_count : (link : Option ℕ) (ring : ℕ) (marks : List Bool) → length (with_link link ring marks) ≡ length marks
same_count None ring marks = refl
same_count (Some link) ring marks = counted (get_or marks ring false) marks link

set_now : (b : Bool) (marks : List Bool) (link : ℕ) → b ≡ true → link < length marks → IsSet (cond b (set marks link true) marks) link
set_now false marks link is low = absurd (false≢true is)
set_now true marks link is low = get_or-set_same marks link true false low

only_new : (b : Bool) (marks : List Bool) (link place : ℕ) → IsSet (cond b (set marks link true) marks) place
    → IsSet marks place ⊎ ((b ≡ true) × (link ≡ place))
only_new false marks link place is = inl is
only_new true marks link place is =
    elim (cases_eq place link) [
      | inl same ↦ inr (refl, sym same)
      | inr other ↦ inl (sym (get_or-set_other marks link place true false other) ∙ is)
    ]

only_link : (link : Option ℕ) (ring : ℕ) (marks : List Bool) (place : ℕ) → IsSet (with_link link ring marks) place
    → IsSet marks place ⊎ (IsSet marks ring × (link ≡ Some place))
only_link None ring marks place is = inl is
only_link (Some link) ring marks place is =
    elim (only_new (get_or marks ring false) marks link place is) [
      | inl before ↦ inl before
      | inr (rung, same) ↦ inr (rung, ap (λ (l : ℕ). Some l) same)
    ]

-- the links of the first applications, this number, are marked
pub record AreMarkedSoFar (applications : List (Option ℕ)) (links seen : ℕ) (before now : List Bool) : Type 0 where
  pub count : length now ≡ length before
  pub kept : (place : ℕ) → IsSet before place → IsSet now place
  pub marked : (link application : ℕ) → application < seen → slice_get applications application ≡ Some (Some link)
      → IsSet before (links + application) → link < length before → IsSet now link
  pub only : (place : ℕ) → IsSet now place
      → IsSet before place ⊎ ((application : ℕ) × ((slice_get applications application ≡ Some (Some place)) × IsSet now (links + application)))

pub none_marked : (applications : List (Option ℕ)) (links : ℕ) (marks : List Bool) → AreMarkedSoFar applications links 0 marks marks
none_marked applications links marks =
    record {
      count = refl;
      kept = λ place is. is;
      marked = λ link application low has rung within. absurd (omega (arith, low));
      only = λ place is. inl is;
    }

-- the ring of an application, as far as there are marks
same_ring : (links application ring top : ℕ) (marks : List Bool) → ring ≡ min (links + application) top → length marks ≤ top
    → ((ring < length marks) ⊎ (links + application < length marks)) → ring ≡ links + application
same_ring links application ring top marks sum few (inl low) = omega (arith, sum, few, low)
same_ring links application ring top marks sum few (inr low) = omega (arith, sum, few, low)

-- one more application
pub one_more : (applications : List (Option ℕ)) (links seen ring top : ℕ) (before now new : List Bool) (link : Option ℕ)
    → AreMarkedSoFar applications links seen before now
    → slice_get applications seen ≡ Some link → ring ≡ min (links + seen) top → length before ≤ top
    → new ≡ with_link link ring now
    → AreMarkedSoFar applications links (seen + 1) before new
one_more applications links seen ring top before now new link so_far at sum few is =
    let few_now : length now ≤ top = omega (arith, few, so_far.count) in
    subst (λ (m : List Bool). AreMarkedSoFar applications links (seen + 1) before m) (sym is)
    (record {
      count = same_count link ring now ∙ so_far.count;
      kept = λ place set. stays_set link ring now place (so_far.kept place set);
      marked = λ l application low has rung within.
          elim (cases_eq application seen) [
            | inl same ↦
                let rung_now : IsSet now (links + seen) = so_far.kept (links + seen) (subst (λ (a : ℕ). IsSet before (links + a)) same rung) in
                let here : ring ≡ links + seen = same_ring links seen ring top now sum few_now (inr (is_within now (links + seen) rung_now)) in
                let rung_here : IsSet now ring = subst (λ (r : ℕ). IsSet now r) (sym here) rung_now in
                let low_now : l < length now = omega (arith, within, so_far.count) in
                let its : link ≡ Some l =
                let found : slice_get applications seen ≡ Some (Some l) = subst (λ (a : ℕ). slice_get applications a ≡ Some (Some l)) same has in
                cc in
                subst (λ (o : Option ℕ). IsSet (with_link o ring now) l) (sym its) (set_now (get_or now ring false) now l rung_here low_now)
            | inr other ↦ stays_set link ring now l (so_far.marked l application (omega (arith, low, other)) has rung within)
          ];
      only = λ place set.
          elim (only_link link ring now place set) [
            | inl was ↦
                elim (so_far.only place was) [
                  | inl first ↦ inl first
                  | inr (application, (has, rung)) ↦ inr (application, (has, stays_set link ring now (links + application) rung))
                ]
            | inr (rung, its) ↦
                let here : ring ≡ links + seen = same_ring links seen ring top now sum few_now (inl (is_within now ring rung)) in
                let has : slice_get applications seen ≡ Some (Some place) = at ∙ ap (λ (o : Option ℕ). Some o) its in
                inr (seen, (has, stays_set link ring now (links + seen) (subst (λ (r : ℕ). IsSet now r) here rung)))
          ];
    })

-- when all were seen
pub all_marked : (directory : Directory) (links seen : ℕ) (before now : List Bool)
    → AreMarkedSoFar directory.applications links seen before now → length directory.applications ≤ seen
    → AreLinksMarked directory links before now
all_marked directory links seen before now so_far all =
    record {
      count = so_far.count;
      kept = so_far.kept;
      marked = λ link rung within.
          let (application, (has, set)) = rung in
          so_far.marked link application (omega (arith, all, slice_get_within directory.applications application (Some link) has)) has set within;
      only = so_far.only;
    }
