-- Links of gateways, after one was removed or added.
use Rattle.std.proofs.Common.{◌≡◌, ◌≢◌, ◌<◌, ◌++◌, ◌∷◌, ℕ, List, [], Option, Some, None, Bool, true, false, refl, ap, sym, ◌∙◌, length, nat_eq}
use Rattle.std.specs.Prelude.{IsSome, is_some, slice_index_or}
use Rattle.std.specs.List.{filter, find}
use Rattle.std.specs.Option.{option_map, option_or}
use Rattle.std.proofs.lemmas.Bool.{eq-eqb, eqb-true, false≢true}
use Rattle.std.proofs.lemmas.List.Folds.{find-append}
use Rattle.std.proofs.lemmas.Option.{none-some}
use Rattle.lw_types.specs.declared.identifiers.Eui.{Eui}
use Rattle.gateway_wire.specs.declared.recipient.Recipient.{Recipient}
use Rattle.gateway_wire.specs.declared.recipient.Recipient.TheVariants as names
use Rattle.lnsd_links.specs.Linked.{gateway_link, is_link_of, is_link_of_other, link_of, IsLinked}
use Rattle.lnsd_links.specs.declared.names.Directory.{Directory}
use Rattle.lnsd_links.specs.declared.names.LinkedGateway.{LinkedGateway}
use Rattle.lnsd_links.proofs.Found.{fewer, found_no_more, found_still}

abbrev link : LinkedGateway → ℕ
link linked = linked.link

abbrev eui : ℕ → Eui
eui n = record { 0 = n }

same : (m n : ℕ) → nat_eq m n ≡ true → m ≡ n
same m n e = eqb-true m n e

self : (n : ℕ) → nat_eq n n ≡ true
self n = eq-eqb n n refl

loses : (gateway : Eui) (l : LinkedGateway) → is_link_of gateway l ≡ true → is_link_of_other gateway l ≡ false
loses gateway l e = rw e refl

pub forgotten : (gateway : Eui) (linked : List LinkedGateway) → gateway_link gateway (filter (is_link_of_other gateway) linked) ≡ None
forgotten gateway linked = ap (option_map link) (found_no_more (is_link_of gateway) (is_link_of_other gateway) (loses gateway) linked)

others_differ : (gateway other : Eui) → other ≢ gateway → (l : LinkedGateway) → is_link_of other l ≡ true → is_link_of_other gateway l ≡ true
others_differ gateway other differs l e = go (is_link_of gateway l) refl
  where
    go : (b : Bool) → is_link_of gateway l ≡ b → is_link_of_other gateway l ≡ true
    go false f = rw f refl
    go true f = absurd (differs (ap eui (sym (same l.gateway.0 other.0 e) ∙ same l.gateway.0 gateway.0 f)))

pub kept_link : (gateway other : Eui) → other ≢ gateway → (linked : List LinkedGateway)
    → gateway_link other (filter (is_link_of_other gateway) linked) ≡ gateway_link other linked
kept_link gateway other differs linked =
    ap (option_map link) (found_still (is_link_of other) (is_link_of_other gateway) (λ l e. others_differ gateway other differs l e) linked)

pub forgotten_fewer : (gateway : Eui) (linked : List LinkedGateway) → IsSome (gateway_link gateway linked)
    → length (filter (is_link_of_other gateway) linked) < length linked
forgotten_fewer gateway linked some =
    (fewer (is_link_of gateway) (is_link_of_other gateway) (loses gateway) linked).1 (λ none. false≢true (ap (λ o. is_some (option_map link o)) (sym none) ∙ some))

pub added : (gateway : Eui) (n : ℕ) (linked : List LinkedGateway) → gateway_link gateway linked ≡ None
    → gateway_link gateway (linked ++ record { gateway = gateway; link = n } ∷ []) ≡ Some n
added gateway n linked none = ap (option_map link) (find-append (is_link_of gateway) linked _) ∙ go (find (is_link_of gateway) linked) none
  where
    go : (o : Option LinkedGateway) → option_map link o ≡ None → option_map link (option_or o (find (is_link_of gateway) (record { gateway = gateway; link = n } ∷ []))) ≡ Some n
    go None e = rw (self gateway.0) refl
    go (Some l) e = absurd (none-some l.link (sym e))

pub added_beside : (gateway other : Eui) (n : ℕ) → other ≢ gateway → (linked : List LinkedGateway)
    → gateway_link other (linked ++ record { gateway = gateway; link = n } ∷ []) ≡ gateway_link other linked
added_beside gateway other n differs linked = ap (option_map link) (find-append (is_link_of other) linked _ ∙ go (is_link_of other (record { gateway = gateway; link = n })) refl (find (is_link_of other) linked))
  where
    go : (b : Bool) → is_link_of other (record { gateway = gateway; link = n }) ≡ b → (o : Option LinkedGateway)
        → option_or o (find (is_link_of other) (record { gateway = gateway; link = n } ∷ [])) ≡ o
    go true e o = absurd (differs (ap eui (sym (same gateway.0 other.0 e))))
    go false e None = rw e refl
    go false e (Some l) = refl

-- a gateway whose link was removed, and which was added with another link, has this one, and no
-- other gateway's link changes
pub named : (old new : Directory) (gateway : Eui) (n : ℕ) (left : List LinkedGateway)
    → gateway_link gateway left ≡ None
    → ((other : Eui) → other ≢ gateway → gateway_link other left ≡ gateway_link other old.gateways.items)
    → new.gateways.items ≡ left ++ record { gateway = gateway; link = n } ∷ []
    → new.applications ≡ old.applications
    → new.first_ring ≡ old.first_ring
    → new.listed ≡ old.listed
    → IsLinked old (names.Gateway gateway) n new
named old new gateway n left none others pushed same_applications same_rings same_list =
    record {
      now = ap (gateway_link gateway) pushed ∙ added gateway n left none;
      others = beside;
      rings = same_rings;
      listed = same_list;
    }
  where
    beside : (other : Recipient) → other ≢ names.Gateway gateway → link_of new other ≡ link_of old other
    beside (names.Gateway other) differs =
        let apart : other ≢ gateway = λ e. differs (ap names.Gateway e) in
        ap (gateway_link other) pushed ∙ (added_beside gateway other n apart left ∙ others other apart)
    beside (names.Application application) differs = ap (λ all. slice_index_or all application None) same_applications
