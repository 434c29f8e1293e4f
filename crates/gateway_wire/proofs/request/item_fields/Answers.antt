use Rattle.std.proofs.Common.{◌≡◌, ◌∙◌, ℕ, Bool, Option, Some, ap, sym}
use Rattle.lw_types.specs.declared.identifiers.Eui.{Eui}
use Rattle.devices.specs.declared.Tag.{Tag}
use Rattle.byte_fields.proofs.FieldLemmas.{some_is}
use Rattle.gateway_wire.specs.declared.word_values.Confirmed.{Confirmed}
use Rattle.gateway_wire.proofs.request.item_fields.Goals as goal

abbrev confirmed_at : Bool → Confirmed
confirmed_at confirmed = record { 0 = confirmed }

abbrev fields_of : Eui → ℕ → ℕ → Bool → Option (Eui × Tag × ℕ × Bool)
fields_of dev_eui tag port confirmed = Some (dev_eui, record { 0 = tag }, port, confirmed)

same_fields : (d d' : Eui) (t t' p p' : ℕ) (k k' : Bool) → d ≡ d' → t ≡ t' → p ≡ p' → k ≡ k' → fields_of d t p k ≡ fields_of d' t' p' k'
same_fields d d' t t' p p' k k' d-is t-is p-is k-is = cc

pub returns-in_err-confirmed-clause-only : goal.returns-in_err-confirmed-clause-only
returns-in_err-confirmed-clause-only c dev_eui tag port confirmed rest h is =
    let one = c.next_value.ensures.only dev_eui _ h.0 is in
    let two = c.next_value-2.ensures.only tag.0 _ h.1 one.1 in
    let three = c.next_value-3.ensures.only port _ h.2 two.1 in
    let four = c.next_value-4.ensures.only (confirmed_at confirmed) rest tt three.1 in
    let was = c.in_err-confirmed.was in
    absurd cc

pub returns-clause-only : goal.returns-clause-only
returns-clause-only c dev_eui tag port confirmed rest h is =
    let one = c.next_value.ensures.only dev_eui _ h.0 is in
    let two = c.next_value-2.ensures.only tag.0 _ h.1 one.1 in
    let three = c.next_value-3.ensures.only port _ h.2 two.1 in
    let four = c.next_value-4.ensures.only (confirmed_at confirmed) rest tt three.1 in
    let d = some_is c.in_ok-dev_eui.dev_eui dev_eui (sym c.in_ok-dev_eui.was ∙ one.0) in
    let t = some_is c.in_ok-tag.tag tag.0 (sym c.in_ok-tag.was ∙ two.0) in
    let p = some_is c.in_ok-port.port port (sym c.in_ok-port.was ∙ three.0) in
    let k = some_is c.in_ok-confirmed.confirmed (confirmed_at confirmed) (sym c.in_ok-confirmed.was ∙ four.0) in
    (same_fields c.in_ok-dev_eui.dev_eui dev_eui c.in_ok-tag.tag tag.0 c.in_ok-port.port port c.in_ok-confirmed.confirmed.0 confirmed d t p (ap (λ (x : Confirmed). x.0) k), four.1)
