use Rattle.std.proofs.Common.{◌≡◌, ◌++◌, ◌∷◌, ◌∙◌, ℕ, Bool, List, [], ap, arith, false, refl, replicate, sym}
use Rattle.std.proofs.lemmas.List.{length-append}
use Rattle.std.specs.List.{IsDistinct}
use Rattle.std.specs.Prelude.{slice_index_or}
use Rattle.std.proofs.lemmas.Bool.{agree_below_at}
use Rattle.lnsd_links.specs.LinesLeft.{lines_left}
use Rattle.lnsd_links.proofs.Listed.{few_lines, no_lines, not_taken, one_more_line, split_on}
use Rattle.lnsd_links.proofs.name_list.NameList.read.Goals as goal

pub invariant_of-list-clause-distinct : goal.invariant_of-list-clause-distinct
unfolding IsDistinct
invariant_of-list-clause-distinct c = rw c.in-Ok.ensures.items tt

abbrev no_applications : List Bool
no_applications = replicate 16 false

-- no line was read
pub loop-line-init : goal.loop-line-init
loop-line-init c =
    ([], (sym (ap lines_left c.into_iter-line-iterator.ensures.into_iter_gives ∙ c.of-line-items.ensures), (refl, no_lines _ c.in-Ok.ensures.items (λ n small. agree_below_at (λ i. slice_index_or no_applications i false) (λ _. false) 16 n refl small))))

-- one more line was read
pub loop-line-preserved : goal.loop-line-preserved
loop-line-preserved c =
    let (before, (split, (number, are))) = c.loop-line.invariant in
    let line = c.in-Some.line.now in
    let left = lines_left c.loop-line.line-iterator in
    let after = lines_left c.next.new.self in
    let front : left ≡ line ∷ after = c.in-Some.ensures.steps in
    let few = few_lines c.args.text.now before after line (rw c.len_of.ensures.len at c.len_of.ensures.short) (split ∙ ap (λ (l : List (List ℕ)). before ++ l) front) in (
      before ++ line ∷ [],
      (
        split_on _ before left after line split front,
        (
          omega (arith, c.saturating_add-number.ensures, number, few, length-append before (line ∷ [])),
          one_more_line (record {
            words = c.a_line_is_its_words.ensures.words;
            eui_words = c.each_text_is_a_word.ensures.euis;
            decimal_words = c.each_text_is_a_word.ensures.decimals;
            euis = c.each_text_is_of_one_value.ensures.euis;
            decimals = c.each_text_is_of_one_value.ensures.decimals;
          }) before line c.loop-line.list c.add_line.new.self are c.in_default-add_line.ensures,
        ),
      ),
    )

-- a line isn't taken
pub returns-in-Err : goal.returns-in-Err
returns-in-Err c =
    let (before, (split, (number, are))) = c.loop-line.invariant in
    let line = c.in-Some.line.now in
    let left = lines_left c.loop-line.line-iterator in
    let after = lines_left c.next.new.self in
    let front : left ≡ line ∷ after = c.in-Some.ensures.steps in
    let whole = split ∙ ap (λ (l : List (List ℕ)). before ++ l) front in
    let few = few_lines c.args.text.now before after line (rw c.len_of.ensures.len at c.len_of.ensures.short) whole in
    not_taken _ before after line c.saturating_add-number.result c.loop-line.list c.in-Err.fault whole (omega (arith, c.saturating_add-number.ensures, number, few)) are c.in-Err.ensures
