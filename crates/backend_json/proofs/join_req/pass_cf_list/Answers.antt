use Rattle.std.proofs.Common.{◌≡◌, List, ℕ, codes, ap, refl, sym, ◌∙◌}
use Rattle.std.proofs.lemmas.Bool.{false≢true}
use Rattle.std.proofs.lemmas.Slice.Eq.{bytes_eq-Decides}
use Rattle.region_eu868.specs.Region.{cf_list}
use Rattle.lw_types.specs.declared.hex_text.HexArray.{HexArray}
use Rattle.lw_types.specs.Hex.{hex_text}
use Rattle.serde_json.specs.Data.{member, string}
use Rattle.serde_json.specs.View.{members_view}
use Rattle.backend_json.proofs.CfList.{list_is_bytes}
use Rattle.backend_json.proofs.Equal.{no_value, refused, same_value}
use Rattle.backend_json.proofs.join_req.pass_cf_list.Goals as goal

pub returns-in_err-list : goal.returns-in_err-list
returns-in_err-list c =
    refused _ c.from_residual.result c.from_residual.ensures (λ others h. no_value (sym (c.in_err-list.was) ∙ c.value.ensures.only (record { 0 = cf_list }) others (list_is_bytes, refl) h))

pub returns-then-eq : goal.returns-then-eq
returns-then-eq c =
    let same : c.in_ok-list.field-0.0 ≡ cf_list = (bytes_eq-Decides c.in_ok-list.field-0.0 cf_list).0 (sym c.eq.ensures ∙ c.if-eq.true) in
    c.in_ok-list.ensures.found ∙ ap (λ (list : List ℕ). member (codes "CFList") (string (hex_text list)) (members_view c.value.new.self.members)) same

pub returns-else-eq : goal.returns-else-eq
returns-else-eq c others h =
    let same : c.in_ok-list.field-0 ≡ record { 0 = cf_list } = same_value (sym c.in_ok-list.was ∙ c.value.ensures.only (record { 0 = cf_list }) others (list_is_bytes, refl) h) in
    false≢true (sym c.if-eq.false ∙ (c.eq.ensures ∙ (bytes_eq-Decides c.in_ok-list.field-0.0 cf_list).1 (ap (λ (a : HexArray 16). a.0) same)))
