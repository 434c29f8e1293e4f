-- Which links are rung for effects that were put into applications' own rings.
use Rattle.std.specs.Prelude.{◌≡◌, ◌<◌, ◌+◌, ◌⊎◌, ℕ, Bool, true, false, cond, List, length}
use Rattle.std.specs.Prelude.{Option, None, Some, slice_get, slice_index_or, slice_set}
use Rattle.lnsd_links.specs.declared.names.Directory.{Directory}

-- the mark at this place is set
abbrev pub IsSet : List Bool → ℕ → Type 0
IsSet marks place = slice_index_or marks place false ≡ true

-- a link is marked too if this ring is marked; there may be no link
abbrev pub with_link : Option ℕ → ℕ → List Bool → List Bool
with_link None ring marks = marks
with_link (Some link) ring marks =
    cond (slice_index_or marks ring false) (slice_set marks link true) marks

-- An application has this link, and its own ring is marked. The own rings come after those of the
-- links, which are this number.
abbrev pub IsRungFor : Directory → ℕ → List Bool → ℕ → Type 0
IsRungFor directory links marks link =
    (application : ℕ) × ((slice_get directory.applications application ≡ Some (Some link))
    × IsSet marks (links + application))

-- the links of applications whose own rings are marked are marked too, and no others
pub record AreLinksMarked (directory : Directory) (links : ℕ)
    (before now : List Bool) : Type 0 where
  pub count : length now ≡ length before
  pub kept : (place : ℕ) → IsSet before place → IsSet now place
  pub marked : (link : ℕ) → IsRungFor directory links before link → link < length before
      → IsSet now link
  pub only : (place : ℕ) → IsSet now place
      → IsSet before place ⊎ IsRungFor directory links now place
