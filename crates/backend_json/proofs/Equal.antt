-- Equal objects have equal members.
use Rattle.std.proofs.Common.{◌≡◌, ℕ, List, [], Option, None, Some, sym, ap, ◌∙◌, subst}
use Rattle.std.specs.Option.{MatchOption}
use Rattle.serde_json.specs.Data.{Data, Members, member, no_members, null, number, string, object, unsigned}

members_in : Data → Members
members_in (object ms) = ms
members_in d = no_members

tail : Members → Members
tail no_members = no_members
tail (member k d ms) = ms

head : Members → Data
head no_members = null
head (member k d ms) = d

text_in : Data → List ℕ
text_in (string s) = s
text_in d = []

number_in : Data → ℕ
number_in (number (unsigned n)) = n
number_in d = 0

-- the members of two objects that are one value
pub inside : {ms ns : Members} → object ms ≡ object ns → ms ≡ ns
unfolding members_in
inside e = ap members_in e

-- the rest after a member of both
pub behind : {ms ns os : Members} {k l : List ℕ} {d e : Data} → ms ≡ member k d ns → ms ≡ member l e os → ns ≡ os
unfolding tail
behind first second = ap tail (sym first ∙ second)

-- and after two
pub behind_two : {ms ns os : Members} {k l m n : List ℕ} {d e f g : Data}
    → ms ≡ member k d (member l e ns) → ms ≡ member m f (member n g os) → ns ≡ os
unfolding tail
behind_two first second = ap tail (behind first second)

-- and after five
pub behind_five : {ms ns os : Members} {k l m n o p q r s t : List ℕ} {d e f g h i j u v w : Data}
    → ms ≡ member k d (member l e (member m f (member n g (member o h ns))))
    → ms ≡ member p i (member q j (member r u (member s v (member t w os)))) → ns ≡ os
unfolding tail
behind_five first second = ap (λ (ms : Members). tail (tail (tail (tail (tail ms))))) (sym first ∙ second)

-- the value of that member
pub at_front : {ms ns os : Members} {k l : List ℕ} {d e : Data} → ms ≡ member k d ns → ms ≡ member l e os → d ≡ e
unfolding head
at_front first second = ap head (sym first ∙ second)

-- texts that are one value are equal, and so are whole numbers
pub same_text : {s t : List ℕ} → string s ≡ string t → s ≡ t
unfolding text_in
same_text e = ap text_in e

pub same_number : {m n : ℕ} → number (unsigned m) ≡ number (unsigned n) → m ≡ n
unfolding number_in
same_number e = ap number_in e

-- nothing was found, and the definition finds nothing either
pub refused : {A : Type 0} {N : Type 0} (S : A → Type 0) (result : Option A) → result ≡ None → N → MatchOption result N S
refused {A} {N} S result is h = subst (λ (r : Option A). MatchOption r N S) (sym is) h

pub no_value : {A : Type 0} {x : A} → None ≡ Some x → ⊥
no_value {A} e = subst (λ (r : Option A). MatchOption r (Unit {0}) (λ _. ⊥)) e tt

pub same_value : {A : Type 0} {x y : A} → Some x ≡ Some y → x ≡ y
same_value {A} {x} {y} e =
    let same : x ≡ x = (λ i. x) in
    subst (λ (r : Option A). MatchOption r (Unit {0}) (λ z. x ≡ z)) e same

key : Members → List ℕ
key no_members = []
key (member k d ms) = k

-- the names of the first members
pub key_at_front : {ms ns : Members} {k l : List ℕ} {d e : Data} → member k d ms ≡ member l e ns → k ≡ l
unfolding key
key_at_front e = ap key e
