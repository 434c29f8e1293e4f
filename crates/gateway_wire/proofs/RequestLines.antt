-- The line of a request and its words.
use Rattle.std.proofs.Common.{◌≡◌, ◌<◌, ◌^◌, ℕ, List, [], Result, Ok, Err, refl, ap, sym, ◌∙◌, get_or, Bool, true, false, arith}
use Rattle.std.specs.Prelude.{IfOk, codes}
use Rattle.std.specs.Fmt.{decimal}
use Rattle.std.proofs.lemmas.Bool.{agree_below_at}
use Rattle.lw_types.specs.Hex.{IsBytes, eui_text, field_text, key_text}
use Rattle.lw_types.specs.Words.{AreWords, IsWord, is_space, line_of, words_of}
use Rattle.lw_types.specs.declared.identifiers.Eui.{Eui}
use Rattle.lw_types.specs.declared.key.Key.{Key}
use Rattle.lw_types.specs.declared.refusal.Refusal.{Refusal}
use Rattle.gateway_wire.specs.declared.request.Request.{Request}
use Rattle.gateway_wire.specs.declared.request.Request.TheVariants.{Provision, Queue, Mac}
use Rattle.gateway_wire.specs.Request.{IsRequestInRange, confirmed_text, request_line, request_words}

-- the laws of texts that this file uses
pub record Texts : Type 0 where
  pub words : (words : List (List ℕ)) → AreWords words → words_of (line_of words) ≡ words
  pub euis : (eui : Eui) → IsWord (eui_text eui)
  pub keys : (key : Key) → IsBytes key.0 → IsWord (key_text key)
  pub fields : (bytes : List ℕ) → IsBytes bytes → IsWord (field_text bytes)
  pub decimals : (n : ℕ) → n < 2 ^ 64 → IsWord (decimal n)

name_is_word : IsWord (codes "provision")
name_is_word k d lt = agree_below_at (λ i. is_space (get_or (codes "provision") i d)) (λ _. false) 9 k refl lt

queue_is_word : IsWord (codes "queue")
queue_is_word k d lt = agree_below_at (λ i. is_space (get_or (codes "queue") i d)) (λ _. false) 5 k refl lt

mac_is_word : IsWord (codes "mac")
mac_is_word k d lt = agree_below_at (λ i. is_space (get_or (codes "mac") i d)) (λ _. false) 3 k refl lt

confirmed_is_word : (confirmed : Bool) → IsWord (confirmed_text confirmed)
unfolding confirmed_text
confirmed_is_word true k d lt = agree_below_at (λ i. is_space (get_or (codes "c") i d)) (λ _. false) 1 k refl lt
confirmed_is_word false k d lt = agree_below_at (λ i. is_space (get_or (codes "u") i d)) (λ _. false) 1 k refl lt

are_words : Texts → (r : Request) → IsRequestInRange r → AreWords (request_words r)
are_words texts (Provision dev_eui join_eui app_key offset delay) h =
    (omega arith, (name_is_word, (texts.euis dev_eui, (texts.euis join_eui, (texts.keys app_key h.2.0, (texts.decimals offset (omega arith), (texts.decimals delay (omega arith), tt)))))))
are_words texts (Queue dev_eui tag port confirmed payload) h =
    (omega arith, (queue_is_word, (texts.euis dev_eui, (texts.decimals tag.0 (omega (arith, h.1)), (texts.decimals port (omega (arith, h.2)), (confirmed_is_word confirmed, (texts.fields payload h.3, tt)))))))
are_words texts (Mac dev_eui commands) h =
    (omega arith, (mac_is_word, (texts.euis dev_eui, (texts.fields commands h.1, tt))))

pub request_line_words : Texts → (line : List ℕ) (r : Request) → IsRequestInRange r → line ≡ request_line r → words_of line ≡ request_words r
request_line_words texts line r h is = ap words_of is ∙ texts.words (request_words r) (are_words texts r h)

-- joining words that were read gives the line again
pub read_back : (result : Result Request Refusal) (words : List (List ℕ)) (line : List ℕ) → line_of words ≡ line
    → IfOk result (λ r. IsRequestInRange r × (words ≡ request_words r)) → IfOk result (λ r. IsRequestInRange r × (line ≡ request_line r))
read_back (Ok r) words line is h = (h.0, sym is ∙ ap line_of h.1)
read_back (Err e) words line is h = tt

pub has_words : (r : Request) → [] ≡ request_words r → ⊥
has_words (Provision dev_eui join_eui app_key offset delay) is = cc
has_words (Queue dev_eui tag port confirmed payload) is = cc
has_words (Mac dev_eui commands) is = cc
