-- An object that is written member by member.
use Rattle.std.specs.Prelude.{◌≡◌, IfOk}
use Rattle.serde_json.specs.Data.{Members}
use Rattle.serde_json.specs.View.{members_view}
use Rattle.backend_json.specs.declared.json.Object.{Object}

-- the members of the object, if there was memory for all of them
abbrev pub HoldsMembers : Object → Members → Type 0
HoldsMembers written members = IfOk written.members (λ map. members_view map.entries ≡ members)
