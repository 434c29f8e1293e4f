use Rattle.std.proofs.Common.{◌≡◌, ◌∙◌, ◌++◌, ◌∷◌, [], List, ℕ, None, Some, ap, false, length, map, refl, rules, subst, sym, true, append-nil}
use Rattle.std.specs.Prelude.{is_some}
use Rattle.csv.specs.Records.{field_at, fields_of}
use Rattle.sessions.specs.Marks.{AreDistinct}
use Rattle.device_lists.specs.Columns.{column_name}
use Rattle.device_lists.specs.declared.column.Column.TheVariants.{DevEui}
use Rattle.device_lists.proofs.HeadColumns.{distinct_push, field_after, field_before, first_is, found_at, not_found, nothing_is, one_column_more, place_in}
use Rattle.device_lists.proofs.reading.read_columns.Goals as goal

pub loop-name-init : goal.loop-name-init
loop-name-init c =
    let fields = fields_of c.args.names.now in
    subst (λ items. ((x : List (List ℕ)) × (fields ≡ map column_name items ++ x)) × AreDistinct items) (sym c.requires) ((fields, refl), tt)

pub returns-in_default-of_name : goal.returns-in_default-of_name
returns-in_default-of_name c =
    let none : c.of_name.result ≡ None = search rules in (
      c.len.result,
      c.in-Some.name.now,
      search rules,
      search rules,
      λ column is. search (rules, c.of_name.ensures.only column is, none),
    )

pub returns-then-is_some : goal.returns-then-is_some
returns-then-is_some c =
    let fields = fields_of c.args.names.now in
    let head = c.loop-name.head.items in
    let column = c.in-Some-of_name.column in
    let was = c.loop-name.invariant in
    let found : is_some c.place_of.result ≡ true = search rules in
    let at = found_at _ _ c.place_of.result (place_in column c.as_slice.result.now head c.place_of.result (search rules) c.place_of.ensures) found in
    let before = field_before column_name head was.0.0 at.0 column at.1.0 in
    let last : field_at fields (length head) ≡ Some (column_name column) = search rules in (
      at.0,
      length head,
      at.1.0,
      ap (λ l. field_at l at.0) was.0.1 ∙ (before ∙ ap (λ x. Some (column_name x)) (at.1.1 column)),
      last,
    )

pub loop-name-preserved : goal.loop-name-preserved
loop-name-preserved c =
    let fields = fields_of c.args.names.now in
    let head = c.loop-name.head.items in
    let column = c.in-Some-of_name.column in
    let was = c.loop-name.invariant in
    let found : is_some c.place_of.result ≡ false = search rules in
    let others = not_found _ _ c.place_of.result (place_in column c.as_slice.result.now head c.place_of.result (search rules) c.place_of.ensures) found in
    let last : field_at fields (length head) ≡ Some (column_name column) = search rules in
    let more = first_is was.0.0 (column_name column) (sym (field_after column_name head was.0.0) ∙ (ap (λ l. field_at l (length head)) (sym was.0.1) ∙ last)) in
    let items : c.push.new.self.items ≡ head ++ column ∷ [] = search rules in
    let named = was.0.1 ∙ (ap (λ r. map column_name head ++ r) more.1 ∙ one_column_more column_name head column more.0) in
    subst (λ items. ((x : List (List ℕ)) × (fields ≡ map column_name items ++ x)) × AreDistinct items) (sym items)
    ((more.0, named), distinct_push head column was.1 others)

pub returns-then-is_some-2 : goal.returns-then-is_some-2
returns-then-is_some-2 c =
    let fields = fields_of c.args.names.now in
    let head = c.loop-name.head.items in
    let was = c.loop-name.invariant in
    let found : is_some c.place_of-2.result ≡ true = search rules in
    let at = found_at _ _ c.place_of-2.result (place_in DevEui c.as_slice-2.result.now head c.place_of-2.result (search rules) c.place_of-2.ensures) found in
    let last : field_at fields (length head) ≡ None = search rules in
    let over = nothing_is was.0.0 (sym (field_after column_name head was.0.0) ∙ (ap (λ l. field_at l (length head)) (sym was.0.1) ∙ last)) in
    record {
      named = sym (was.0.1 ∙ (ap (λ r. map column_name head ++ r) over ∙ append-nil (map column_name head)));
      once = was.1;
      whose = (at.0, at.1.0, at.1.1 DevEui);
    }

pub returns-else-is_some-2 : goal.returns-else-is_some-2
returns-else-is_some-2 c =
    let fields = fields_of c.args.names.now in
    let head = c.loop-name.head.items in
    let was = c.loop-name.invariant in
    let found : is_some c.place_of-2.result ≡ false = search rules in
    let others = not_found _ _ c.place_of-2.result (place_in DevEui c.as_slice-2.result.now head c.place_of-2.result (search rules) c.place_of-2.ensures) found in
    let last : field_at fields (length head) ≡ None = search rules in
    let over = nothing_is was.0.0 (sym (field_after column_name head was.0.0) ∙ (ap (λ l. field_at l (length head)) (sym was.0.1) ∙ last)) in (
      refl,
      head,
      sym (was.0.1 ∙ (ap (λ r. map column_name head ++ r) over ∙ append-nil (map column_name head))),
      λ has. others has.0 DevEui has.1 has.2,
    )
