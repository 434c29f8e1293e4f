-- A list after one more line.
use Rattle.std.proofs.Common.{◌≡◌, ◌+◌, ◌++◌, ◌∷◌, ◌∙◌, ◌<◌, ◌^◌, inl, inr, ℕ, Bool, true, false, List, [], ap, refl, sym, subst, length, get_or, arith}
use Rattle.std.proofs.lemmas.List.Splits.{length-slice_split}
use Rattle.std.proofs.lemmas.List.Sums.{count_by-le-length}
use Rattle.std.proofs.lemmas.List.{append_assoc, length-append}
use Rattle.std.specs.Prelude.{◌||◌, ◌==◌, count_by, if◌then◌else◌, codes, slice_index_or}
use Rattle.std.specs.List.{AllByRecursion, IsDistinct, list_any}
use Rattle.std.specs.Str.{bytes_eq}
use Rattle.std.specs.Fmt.{decimal}
use Rattle.std.specs.Bool.{Decides}
use Rattle.std.proofs.Math.Bool.{or-false}
use Rattle.std.proofs.lemmas.Slice.Eq.{bytes_eq-Decides}
use Rattle.lw_types.specs.Hex.{eui_text}
use Rattle.lw_types.specs.Words.{is_space, line_of, words_of, AreWords, IsWord}
use Rattle.std.proofs.lemmas.Bool.{agree_below_at, eq-eqb, eqb-true, false≢true}
use Rattle.std.proofs.lemmas.List.Folds.{list_any-append}
use Rattle.lw_types.specs.declared.identifiers.Eui.{Eui}
use Rattle.gateway_wire.specs.declared.recipient.Recipient.{Recipient}
use Rattle.gateway_wire.specs.declared.recipient.Recipient.TheVariants as names
use Rattle.lnsd_operator.specs.declared.fault.NameListFault.{NameListFault}
use Rattle.lnsd_operator.specs.declared.fault.NameListFault.TheVariants as faults
use Rattle.lnsd_links.specs.NameLines.{lines_of, is_line_of, is_remark, listing_words, IsName, IsListLine, Lists}
use Rattle.lnsd_links.specs.Names.{has_name, IsNameListOf, IsNoNameListOf, IsNotOneMore, IsOneMore}
use Rattle.lnsd_links.specs.Same.{is_same_eui, is_same_name}
use Rattle.lnsd_links.specs.declared.name_list.NameList.{NameList}

-- no part of a choice that is false is true
left_false : (a b : Bool) → (a || b) ≡ false → a ≡ false
left_false false b e = refl
left_false true b e = absurd (false≢true (sym e))

right_false : (a b : Bool) → (a || b) ≡ false → b ≡ false
right_false false b e = e
right_false true b e = absurd (false≢true (sym e))

flips : (one other : Eui) → is_same_eui one other ≡ is_same_eui other one
flips one other = go (is_same_eui one other) refl (is_same_eui other one) refl
  where
    go : (a : Bool) → is_same_eui one other ≡ a → (b : Bool) → is_same_eui other one ≡ b → is_same_eui one other ≡ is_same_eui other one
    go true e true f = e ∙ sym f
    go false e false f = e ∙ sym f
    go true e false f = absurd (false≢true (sym f ∙ eq-eqb other.0 one.0 (sym (eqb-true one.0 other.0 e))))
    go false e true f = absurd (false≢true (sym e ∙ eq-eqb one.0 other.0 (sym (eqb-true other.0 one.0 f))))

apart_added : (x q : Eui) (xs : List Eui) → AllByRecursion (λ y. is_same_eui x y ≡ false) xs → is_same_eui x q ≡ false
    → AllByRecursion (λ y. is_same_eui x y ≡ false) (xs ++ q ∷ [])
apart_added x q [] each one = (one, tt)
apart_added x q (y ∷ xs) each one = (each.0, apart_added x q xs each.1 one)

pub distinct_added : (q : Eui) (xs : List Eui) → IsDistinct is_same_eui xs → list_any (is_same_eui q) xs ≡ false
    → IsDistinct is_same_eui (xs ++ q ∷ [])
unfolding IsDistinct
distinct_added q [] distinct none = (tt, tt)
distinct_added q (x ∷ xs) distinct none =
    (apart_added x q xs distinct.0 (flips x q ∙ left_false _ _ none), distinct_added q xs distinct.1 (right_false (is_same_eui q x) _ none))

pub distinct_pushed : (ok : Bool) (q : Eui) (xs new : List Eui) → new ≡ (if ok then xs ++ q ∷ [] else xs)
    → IsDistinct is_same_eui xs → list_any (is_same_eui q) xs ≡ false → IsDistinct is_same_eui new
distinct_pushed true q xs new is distinct none = subst (λ (l : List Eui). IsDistinct is_same_eui l) (sym is) (distinct_added q xs distinct none)
distinct_pushed false q xs new is distinct none = subst (λ (l : List Eui). IsDistinct is_same_eui l) (sym is) distinct

-- one line more is right
pub all_right : (line : List ℕ) (before : List (List ℕ)) → AllByRecursion IsListLine before → IsListLine line → AllByRecursion IsListLine (before ++ line ∷ [])
all_right line [] right one = (one, tt)
all_right line (first ∷ before) right one = (right.0, all_right line before right.1 one)

differ : codes "gateway" ≡ codes "application" → ⊥
differ e = absurd (omega (arith, ap length e))

-- what is known of texts: a line is its words, and no two values share a text
pub record Texts : Type 0 where
  pub words : (words : List (List ℕ)) → AreWords words → words_of (line_of words) ≡ words
  pub eui_words : (eui : Eui) → IsWord (eui_text eui)
  pub decimal_words : (n : ℕ) → n < 2 ^ 64 → IsWord (decimal n)
  pub euis : (a : Eui) (b : Eui) → a.0 < 2 ^ 64 → b.0 < 2 ^ 64 → eui_text a ≡ eui_text b → a ≡ b
  pub decimals : (a : ℕ) (b : ℕ) → a < 2 ^ 64 → b < 2 ^ 64 → decimal a ≡ decimal b → a ≡ b

gateway_is_word : IsWord (codes "gateway")
gateway_is_word k d lt = agree_below_at (λ i. is_space (get_or (codes "gateway") i d)) (λ _. false) 7 k refl lt

application_is_word : IsWord (codes "application")
application_is_word k d lt = agree_below_at (λ i. is_space (get_or (codes "application") i d)) (λ _. false) 11 k refl lt

abbrev text_of : Recipient → List ℕ
text_of name = line_of (listing_words name)

are_words : Texts → (name : Recipient) → IsName name → AreWords (listing_words name)
are_words t (names.Gateway gateway) range = (omega arith, (gateway_is_word, (t.eui_words gateway, tt)))
are_words t (names.Application application) range = (omega arith, (application_is_word, (t.decimal_words application (omega (arith, range)), tt)))

abbrev second_word : List (List ℕ) → List ℕ
second_word words = slice_index_or words 1 []

abbrev first_word : List (List ℕ) → List ℕ
first_word words = slice_index_or words 0 []

-- names that have one text are the same
same_name : Texts → (a b : Recipient) → IsName a → IsName b → text_of a ≡ text_of b → is_same_name a b ≡ true
same_name t a b in_a in_b same = go a b in_a in_b (sym (t.words (listing_words a) (are_words t a in_a)) ∙ (ap words_of same ∙ t.words (listing_words b) (are_words t b in_b)))
  where
    go : (a b : Recipient) → IsName a → IsName b → listing_words a ≡ listing_words b → is_same_name a b ≡ true
    go (names.Gateway g) (names.Gateway h) ga hb e = eq-eqb h.0 g.0 (ap (λ (x : Eui). x.0) (sym (t.euis g h ga hb (ap second_word e))))
    go (names.Application g) (names.Application h) ga hb e = eq-eqb g h (t.decimals g h (omega (arith, ga)) (omega (arith, hb)) (ap second_word e))
    go (names.Gateway g) (names.Application h) ga hb e = absurd (differ (ap first_word e))
    go (names.Application g) (names.Gateway h) ga hb e = absurd (differ (sym (ap first_word e)))

-- names that are the same have one text
same_text : (a b : Recipient) → is_same_name a b ≡ true → text_of a ≡ text_of b
same_text (names.Gateway g) (names.Gateway h) e = ap (λ (n : ℕ). text_of (names.Gateway (record { 0 = n }))) (sym (eqb-true h.0 g.0 e))
same_text (names.Application g) (names.Application h) e = ap (λ (n : ℕ). text_of (names.Application n)) (eqb-true g h e)
same_text (names.Gateway g) (names.Application h) e = absurd (false≢true e)
same_text (names.Application g) (names.Gateway h) e = absurd (false≢true e)

-- a line that lists a name lists another one only if they are the same
one_name : Texts → (line : List ℕ) (name other : Recipient) → Lists line name → IsName other → is_line_of other line ≡ is_same_name name other
one_name t line name other (in_range, is) range =
    ap (λ (l : List ℕ). bytes_eq l (text_of other)) is
    ∙ go (bytes_eq (text_of name) (text_of other)) refl (is_same_name name other) refl (bytes_eq-Decides (text_of name) (text_of other))
  where
    go : (b : Bool) → bytes_eq (text_of name) (text_of other) ≡ b → (s : Bool) → is_same_name name other ≡ s → Decides b (text_of name ≡ text_of other) → bytes_eq (text_of name) (text_of other) ≡ is_same_name name other
    go true e true f d = e ∙ sym f
    go false e false f d = e ∙ sym f
    go true e false f d = absurd (false≢true (sym f ∙ same_name t name other in_range range (d.0 refl)))
    go false e true f d = absurd (false≢true (d.1 (same_text name other f)))

-- a remark lists no name
no_name : (line : List ℕ) (other : Recipient) → is_remark line ≡ true → is_line_of other line ≡ false
unfolding line_of
no_name [] (names.Gateway g) remark = refl
no_name [] (names.Application a) remark = refl
no_name (c ∷ rest) (names.Gateway g) remark = rw (eqb-true c 35 remark) refl
no_name (c ∷ rest) (names.Application a) remark = rw (eqb-true c 35 remark) refl

last_one : (p : List ℕ → Bool) (before : List (List ℕ)) (line : List ℕ) → list_any p (before ++ line ∷ []) ≡ (list_any p before || p line)
last_one p before line = list_any-append p before (line ∷ []) ∙ ap (λ (b : Bool). list_any p before || b) (or-false (p line))

pub one_more_line : Texts → (before : List (List ℕ)) (line : List ℕ) (old new : NameList) → IsNameListOf before old → IsOneMore line old new → IsNameListOf (before ++ line ∷ []) new
one_more_line t before line old new are (inl (remark, same)) =
    record {
      right = all_right line before are.right (inl remark);
      names = λ name range. ap (λ (l : NameList). has_name l name) same ∙ (are.names name range ∙ sym (last_one (is_line_of name) before line
          ∙ (ap (λ (b : Bool). list_any (is_line_of name) before || b) (no_name line name remark) ∙ or-false (list_any (is_line_of name) before))));
    }
one_more_line t before line old new are (inr (name, (lists, also))) =
    record {
      right = all_right line before are.right (inr (name, lists));
      names = λ other range. also other ∙ (ap (λ (b : Bool). b || is_same_name name other) (are.names other range)
          ∙ sym (last_one (is_line_of other) before line ∙ ap (λ (b : Bool). list_any (is_line_of other) before || b) (one_name t line name other lists range)));
    }

-- a list without lines has no name
pub no_lines : (list : NameList) → list.gateways.items ≡ [] → ((n : ℕ) → n < 16 → slice_index_or list.applications n false ≡ false) → IsNameListOf [] list
no_lines list none no_applications = record { right = tt; names = none_named }
  where
    none_named : (name : Recipient) → IsName name → has_name list name ≡ false
    none_named (names.Gateway gateway) range = ap (list_any (is_same_eui gateway)) none
    none_named (names.Application application) range = no_applications application range

-- a line that isn't taken, after some lines that were
pub not_taken : (lines before after : List (List ℕ)) (line : List ℕ) (number : ℕ) (list : NameList) (fault : NameListFault)
    → lines ≡ before ++ line ∷ after → number ≡ length before + 1 → IsNameListOf before list
    → IsNotOneMore line number list fault → IsNoNameListOf lines fault
not_taken lines before after line number list (faults.Line wrong) split count are (is, not_right) =
    (before, (line, ((after, split), (are.right, (is ∙ count, not_right)))))
not_taken lines before after line number list faults.Gateways split count are (names.Gateway gateway, (lists, (full, other))) =
    (before, (line, ((after, split), (gateway, (list, (lists, (are, (full, other))))))))
not_taken lines before after line number list faults.Gateways split count are (names.Application application, (lists, never)) = absurd never
not_taken lines before after line number list faults.OutOfMemory split count are more = tt
not_taken lines before after line number list faults.File split count are (names.Gateway gateway, (lists, never)) = absurd never
not_taken lines before after line number list faults.File split count are (names.Application application, (lists, never)) = absurd never
not_taken lines before after line number list faults.Places split count are (names.Gateway gateway, (lists, never)) = absurd never
not_taken lines before after line number list faults.Places split count are (names.Application application, (lists, never)) = absurd never

-- there are fewer lines than numbers
pub few_lines : (text : List ℕ) (before after : List (List ℕ)) (line : List ℕ) → length text < 2 ^ 63 → lines_of text ≡ before ++ line ∷ after
    → length before + 1 < 2 ^ 64
unfolding lines_of
few_lines text before after line short split =
    let whole : length (before ++ line ∷ after) ≡ count_by (λ c. c == 10) text + 1 = ap length (sym split) ∙ length-slice_split (λ c. c == 10) text in
    omega (arith, short, whole, length-append before (line ∷ after), count_by-le-length (λ c. c == 10) text)

pub split_on : (lines before left after : List (List ℕ)) (line : List ℕ) → lines ≡ before ++ left → left ≡ line ∷ after
    → lines ≡ (before ++ line ∷ []) ++ after
split_on lines before left after line split front =
    split ∙ (ap (λ (l : List (List ℕ)). before ++ l) front ∙ sym (append_assoc before (line ∷ []) after))
