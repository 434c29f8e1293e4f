-- A request is found from its words, and only one request is.
use Rattle.std.proofs.Common.{◌≡◌, ◌<◌, ◌^◌, ◌↔◌, ℕ, Bool, true, false, List, [], ◌∷◌, Option, Some, None, Result, Ok, Err, refl, sym, ap, subst, ◌∙◌, arith, inl, inr, ◌⊎◌}
use Rattle.std.proofs.lemmas.Bool.{eq-eqb}
use Rattle.std.specs.Prelude.{◌==◌, IfErr, IfOk, IfSome, MatchResult, codes}
use Rattle.std.specs.Fmt.{decimal}
use Rattle.lw_types.specs.Hex.{IsBytes, IsFieldText, eui_text, field_text, key_text}
use Rattle.lw_types.specs.declared.identifiers.Eui.{Eui}
use Rattle.lw_types.specs.declared.key.Key.{Key}
use Rattle.lw_types.specs.declared.refusal.Refusal.{Refusal}
use Rattle.lw_types.specs.declared.refusal.Refusal.TheVariants.{BadMessage, OutOfMemory}
use Rattle.devices.specs.declared.Tag.{Tag}
use Rattle.gateway_wire.specs.declared.request.Request.{Request}
use Rattle.gateway_wire.specs.declared.request.Request.TheVariants.{Provision, Queue, Mac}
use Rattle.gateway_wire.specs.Request.{AreRequestWords, IsRequestInRange, IsRequestOf, confirmed_text, request_words}
use Rattle.gateway_wire.specs.Finding.{AreItemFields, AreLast, Finds, item_words}

-- ---- the public clauses, about what is found

-- the laws of texts that this file uses
pub record OneText : Type 0 where
  pub euis : (a b : Eui) → a.0 < 2 ^ 64 → b.0 < 2 ^ 64 → eui_text a ≡ eui_text b → a ≡ b
  pub keys : (a b : Key) → IsBytes a.0 → IsBytes b.0 → key_text a ≡ key_text b → a ≡ b
  pub fields : (a b : List ℕ) → IsBytes a → IsBytes b → field_text a ≡ field_text b → a ≡ b
  pub decimals : (a b : ℕ) → a < 2 ^ 64 → b < 2 ^ 64 → decimal a ≡ decimal b → a ≡ b

-- letters that differ
apart : (a b : ℕ) → (a == b) ≡ false → a ≡ b → ⊥
apart a b differ same = let e : true ≡ false = sym (eq-eqb a b same) ∙ differ in absurd cc

one_confirmed : (a b : Bool) → confirmed_text a ≡ confirmed_text b → a ≡ b
unfolding confirmed_text
one_confirmed true true e = refl
one_confirmed true false e = absurd (apart 99 117 refl cc)
one_confirmed false true e = absurd (apart 117 99 refl cc)
one_confirmed false false e = refl

abbrev tag_at : ℕ → Tag
tag_at n = record { 0 = n }

pub one_request : OneText → (a b : Request) → IsRequestInRange a → IsRequestInRange b → request_words a ≡ request_words b → a ≡ b
one_request one (Provision d j k o y) (Provision d' j' k' o' y') h h' e =
    let d-is : d ≡ d' = one.euis d d' h.0 h'.0 cc in
    let j-is : j ≡ j' = one.euis j j' h.1 h'.1 cc in
    let k-is : k ≡ k' = one.keys k k' h.2.0 h'.2.0 cc in
    let o-is : o ≡ o' = one.decimals o o' (omega (arith, h.3)) (omega (arith, h'.3)) cc in
    let y-is : y ≡ y' = one.decimals y y' (omega (arith, h.4.1)) (omega (arith, h'.4.1)) cc in
    cc
one_request one (Provision d j k o y) (Queue d' t p c payload) h h' e = absurd (apart 112 113 refl cc)
one_request one (Provision d j k o y) (Mac d' commands) h h' e = absurd (apart 112 109 refl cc)
one_request one (Queue d t p c payload) (Provision d' j k o y) h h' e = absurd (apart 113 112 refl cc)
one_request one (Queue d t p c payload) (Queue d' t' p' c' payload') h h' e =
    let d-is : d ≡ d' = one.euis d d' h.0 h'.0 cc in
    let t-is : t.0 ≡ t'.0 = one.decimals t.0 t'.0 (omega (arith, h.1)) (omega (arith, h'.1)) cc in
    let p-is : p ≡ p' = one.decimals p p' (omega (arith, h.2)) (omega (arith, h'.2)) cc in
    let c-is : c ≡ c' = one_confirmed c c' cc in
    let payload-is : payload ≡ payload' = one.fields payload payload' h.3 h'.3 cc in
    let tag-is : t ≡ t' = ap (λ (n : ℕ). tag_at n) t-is in
    cc
one_request one (Queue d t p c payload) (Mac d' commands) h h' e = absurd (apart 113 109 refl cc)
one_request one (Mac d commands) (Provision d' j k o y) h h' e = absurd (apart 109 112 refl cc)
one_request one (Mac d commands) (Queue d' t p c payload) h h' e = absurd (apart 109 113 refl cc)
one_request one (Mac d commands) (Mac d' commands') h h' e =
    let d-is : d ≡ d' = one.euis d d' h.0 h'.0 cc in
    let commands-is : commands ≡ commands' = one.fields commands commands' h.1 h'.1 cc in
    cc

pub found_of : (words : List (List ℕ)) (result : Result Request Refusal) → Finds (IsRequestOf words) result → IfOk result (λ r. IsRequestInRange r × (words ≡ request_words r))
found_of words (Ok r) h = h
found_of words (Err e) h = tt

pub only_of : OneText → (words : List (List ℕ)) (result : Result Request Refusal) → Finds (IsRequestOf words) result → (r : Request) → IsRequestInRange r → words ≡ request_words r
    → MatchResult result (λ x. x ≡ r) (λ e. e ≡ OutOfMemory)
only_of one words (Ok x) h r ranges is = one_request one x r h.0 ranges (sym h.1 ∙ is)
only_of one words (Err e) (inl h) r ranges is = absurd (h.1 (r, (ranges, is)))
only_of one words (Err e) (inr h) r ranges is = h.0

abbrev err_request : Refusal → Result Request Refusal
err_request e = Err e

err_same : (a b : Refusal) → err_request a ≡ err_request b → a ≡ b
err_same a b e = cc

pub malformed_of : (words : List (List ℕ)) (result : Result Request Refusal) → Finds (IsRequestOf words) result → (result ≡ Err BadMessage) ↔ ¬ (AreRequestWords words)
malformed_of words (Ok r) h = ((λ e. absurd cc), (λ none. absurd (none (r, h.0, h.1))))
malformed_of words (Err e) (inl h) = ((λ is are. h.1 (are.0, (are.1, are.2))), (λ none. ap (λ (x : Refusal). Err x) h.0))
malformed_of words (Err e) (inr h) = (
  (λ is. let same : OutOfMemory ≡ BadMessage = sym h.0 ∙ err_same e BadMessage is in absurd cc),
  (λ none. absurd (h.1 (λ found. none (found.0, found.1.0, found.1.1)))),
)

pub refused_of : (words : List (List ℕ)) (result : Result Request Refusal) → Finds (IsRequestOf words) result → IfErr result (λ e. (e ≡ BadMessage) ⊎ (e ≡ OutOfMemory))
refused_of words (Ok r) h = tt
refused_of words (Err e) (inl h) = inl h.0
refused_of words (Err e) (inr h) = inr h.0

-- ---- provisionings

abbrev ok_or_bad : Option Request → Result Request Refusal
ok_or_bad None = Err BadMessage
ok_or_bad (Some r) = Ok r

pub provision_found : (left : List (List ℕ)) (o : Option Request) (result : Result Request Refusal) → result ≡ ok_or_bad o → IfSome o (λ r. IsRequestInRange r × (codes "provision" ∷ left ≡ request_words r))
    → ((d j : Eui) (k : Key) (offset delay : ℕ) → IsRequestInRange (Provision d j k offset delay) → codes "provision" ∷ left ≡ request_words (Provision d j k offset delay) → o ≡ Some (Provision d j k offset delay))
    → Finds (IsRequestOf (codes "provision" ∷ left)) result
provision_found left o result e found only = subst (Finds (IsRequestOf (codes "provision" ∷ left))) (sym e) (by o found only)
  where
    by : (o : Option Request) → IfSome o (λ r. IsRequestInRange r × (codes "provision" ∷ left ≡ request_words r))
        → ((d j : Eui) (k : Key) (offset delay : ℕ) → IsRequestInRange (Provision d j k offset delay) → codes "provision" ∷ left ≡ request_words (Provision d j k offset delay) → o ≡ Some (Provision d j k offset delay))
        → Finds (IsRequestOf (codes "provision" ∷ left)) (ok_or_bad o)
    by (Some r) found only = found
    by None found only = inl (refl, λ are. no are.0 are.1.0 are.1.1 only)
      where
        no : (r : Request) → IsRequestInRange r → codes "provision" ∷ left ≡ request_words r
            → ((d j : Eui) (k : Key) (offset delay : ℕ) → IsRequestInRange (Provision d j k offset delay) → codes "provision" ∷ left ≡ request_words (Provision d j k offset delay) → None ≡ Some (Provision d j k offset delay)) → ⊥
        no (Provision d j k offset delay) h is only = let e = only d j k offset delay h is in absurd cc
        no (Queue d t p c payload) h is only = absurd (apart 112 113 refl cc)
        no (Mac d commands) h is only = absurd (apart 112 109 refl cc)

-- ---- items and MAC commands

-- the words of no item, if no item's fields are at the front
pub no_item : (left : List (List ℕ)) → ((d : Eui) (t : Tag) (p : ℕ) (c : Bool) (payload : List ℕ) → AreItemFields d t p → IsBytes payload → left ≡ item_words d t p c (field_text payload ∷ []) → ⊥)
    → ¬ ((r : Request) × IsRequestOf (codes "queue" ∷ left) r)
no_item left none are = by are.0 are.1.0 are.1.1
  where
    by : (r : Request) → IsRequestInRange r → codes "queue" ∷ left ≡ request_words r → ⊥
    by (Provision d j k offset delay) h is = absurd (apart 113 112 refl cc)
    by (Queue d t p c payload) h is = none d t p c payload (h.0, h.1, h.2) h.3 cc
    by (Mac d commands) h is = absurd (apart 113 109 refl cc)

-- the payload after an item's fields
pub item_found : (left others : List (List ℕ)) (d : Eui) (t : Tag) (p : ℕ) (c : Bool) (payload : Result (List ℕ) Refusal) → AreItemFields d t p → left ≡ item_words d t p c others
    → ((d' : Eui) (t' : Tag) (p' : ℕ) (c' : Bool) (rest : List (List ℕ)) → AreItemFields d' t' p' → left ≡ item_words d' t' p' c' rest → others ≡ rest)
    → Finds (AreLast others) payload → MatchResult payload (λ bytes. IsRequestOf (codes "queue" ∷ left) (Queue d t p c bytes)) (λ e. Finds {X = Request} (IsRequestOf (codes "queue" ∷ left)) (Err e))
item_found left others d t p c (Ok bytes) h is one last =
    ((h.0, h.1, h.2, last.0), ap (λ (words : List (List ℕ)). codes "queue" ∷ words) (is ∙ ap (item_words d t p c) last.1))
item_found left others d t p c (Err e) h is one (inl bad) =
    inl (bad.0, no_item left (λ d' t' p' c' payload h' fits is'. bad.1 (payload, (fits, one d' t' p' c' (field_text payload ∷ []) h' is'))))
item_found left others d t p c (Err e) h is one (inr memory) =
    inr (memory.0, λ none. memory.1 (λ last. none (Queue d t p c last.0, ((h.0, h.1, h.2, last.1.0), ap (λ (words : List (List ℕ)). codes "queue" ∷ words) (is ∙ ap (item_words d t p c) last.1.1)))))

pub no_mac : (left : List (List ℕ)) → ((d : Eui) (commands : List ℕ) → d.0 < 2 ^ 64 → IsBytes commands → left ≡ eui_text d ∷ field_text commands ∷ [] → ⊥)
    → ¬ ((r : Request) × IsRequestOf (codes "mac" ∷ left) r)
no_mac left none are = by are.0 are.1.0 are.1.1
  where
    by : (r : Request) → IsRequestInRange r → codes "mac" ∷ left ≡ request_words r → ⊥
    by (Provision d j k offset delay) h is = absurd (apart 109 112 refl cc)
    by (Queue d t p c payload) h is = absurd (apart 109 113 refl cc)
    by (Mac d commands) h is = none d commands h.0 h.1 cc

pub mac_found : (left others : List (List ℕ)) (d : Eui) (commands : Result (List ℕ) Refusal) → d.0 < 2 ^ 64 → left ≡ eui_text d ∷ others
    → ((d' : Eui) (rest : List (List ℕ)) → d'.0 < 2 ^ 64 → left ≡ eui_text d' ∷ rest → others ≡ rest)
    → Finds (AreLast others) commands → MatchResult commands (λ bytes. IsRequestOf (codes "mac" ∷ left) (Mac d bytes)) (λ e. Finds {X = Request} (IsRequestOf (codes "mac" ∷ left)) (Err e))
mac_found left others d (Ok bytes) h is one last =
    ((h, last.0), ap (λ (words : List (List ℕ)). codes "mac" ∷ words) (is ∙ ap (λ (words : List (List ℕ)). eui_text d ∷ words) last.1))
mac_found left others d (Err e) h is one (inl bad) =
    inl (bad.0, no_mac left (λ d' commands h' fits is'. bad.1 (commands, (fits, one d' (field_text commands ∷ []) h' is'))))
mac_found left others d (Err e) h is one (inr memory) =
    inr (memory.0, λ none. memory.1 (λ last. none (Mac d last.0, ((h, last.1.0), ap (λ (words : List (List ℕ)). codes "mac" ∷ words) (is ∙ ap (λ (words : List (List ℕ)). eui_text d ∷ words) last.1.1)))))

-- words that begin with another name are no request's
pub no_name : (name : List ℕ) (left : List (List ℕ)) → (name ≡ codes "provision" → ⊥) → (name ≡ codes "queue" → ⊥) → (name ≡ codes "mac" → ⊥) → ¬ ((r : Request) × IsRequestOf (name ∷ left) r)
no_name name left provision queue mac are = by are.0 are.1.1
  where
    by : (r : Request) → name ∷ left ≡ request_words r → ⊥
    by (Provision d j k offset delay) is = provision cc
    by (Queue d t p c payload) is = queue cc
    by (Mac d commands) is = mac cc

-- ---- the last word

pub no_last : (words : List (List ℕ)) → words ≡ [] → ¬ ((bytes : List ℕ) × AreLast words bytes)
no_last words none last = let is = last.1.1 in absurd cc

pub no_last_of_two : (first second : List ℕ) (words rest : List (List ℕ)) → words ≡ first ∷ second ∷ rest → ¬ ((bytes : List ℕ) × AreLast words bytes)
no_last_of_two first second words rest two last = let is = last.1.1 in absurd cc

abbrev err_bytes : Refusal → Result (List ℕ) Refusal
err_bytes e = Err e

err_bytes_same : (a b : Refusal) → err_bytes a ≡ err_bytes b → a ≡ b
err_bytes_same a b e = cc

pub last_found : (words left : List (List ℕ)) (word : List ℕ) (bytes : Result (List ℕ) Refusal) → words ≡ word ∷ left → left ≡ []
    → IfOk bytes (λ b. IsBytes b × (word ≡ field_text b)) → ((bytes ≡ Err BadMessage) ↔ ¬ (IsFieldText word)) → IfErr bytes (λ e. (e ≡ BadMessage) ⊎ (e ≡ OutOfMemory))
    → Finds (AreLast words) bytes
last_found words left word (Ok b) first none found malformed refused = (found.0, (let is = found.1 in cc))
last_found words left word (Err e) first none found malformed (inl bad) =
    inl (bad, λ last. malformed.0 (ap (λ (x : Refusal). Err x) bad) (last.0, last.1.0, (let is = last.1.1 in cc)))
last_found words left word (Err e) first none found malformed (inr memory) =
    inr (memory, λ never. absurd (differ (malformed.1 (λ text. never (text.0, (text.1, (let is = text.2 in cc)))))))
  where
    differ : err_bytes e ≡ err_bytes BadMessage → ⊥
    differ is = let same : OutOfMemory ≡ BadMessage = sym memory ∙ err_bytes_same e BadMessage is in absurd cc
