-- One more copy of a frame.
use Rattle.std.proofs.Common.{◌≡◌, ◌<◌, false, List, [], ◌∷◌, ◌++◌, length, get_or, sym, ◌∙◌, arith, eq-eqb, ◌==◌}
use Rattle.std.proofs.lemmas.Bool.{false≢true}
use Rattle.std.proofs.lemmas.List.{length-append}
use Rattle.std.proofs.lemmas.List.Elements.{All-push}
use Rattle.std.proofs.lemmas.List.Folds.{list_any_at}
use Rattle.std.proofs.lemmas.List.Quantifiers.{all_pairs_push}
use Rattle.devices.specs.declared.heard.Hearing.{Hearing}
use Rattle.devices.specs.declared.heard.TheConstants.Hearings.{MOST}
use Rattle.devices.specs.Heard.{gateway_of, has_gateway, AreHearings, IsReceivable}

-- with a copy from another gateway, these can still be all the copies of a frame
pub one_more : (hs : List Hearing) (h : Hearing) → AreHearings hs → length hs < MOST → IsReceivable h.reception → has_gateway hs (gateway_of h) ≡ false → AreHearings (hs ++ h ∷ [])
one_more hs h are room on none = record {
  some = omega (arith, length-append hs (h ∷ []));
  few = omega (arith, length-append hs (h ∷ []), room);
  receivable = All-push (λ x. IsReceivable x.reception) hs h are.receivable on;
  apart = all_pairs_push (λ a b. gateway_of a ≡ gateway_of b → ⊥) hs h are.apart (λ k d lt e. false≢true (sym none ∙ list_any_at (λ x. gateway_of x == gateway_of h) hs k d lt (eq-eqb (gateway_of (get_or hs k d)) (gateway_of h) e)));
}
