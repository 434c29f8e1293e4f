-- Messages are handled, one after another.
use Rattle.std.proofs.Common.{◌≡◌, ◌++◌, ◌∷◌, ◌∙◌, ℕ, List, [], Option, Some, None, refl, ap, sym, subst}
use Rattle.std.proofs.lemmas.List.{append-nil, append_assoc}
use Rattle.lw_types.specs.declared.refusal.Refusal.{Refusal}
use Rattle.link_messages.specs.declared.message.Message.{Message}
use Rattle.link_messages.specs.declared.message.Message.TheVariants.{Line}
use Rattle.link_messages.specs.declared.message.Peer.{Peer}
use Rattle.link_messages.specs.declared.message.Peer.TheVariants.{Gateway, Application}
use Rattle.rtrb.specs.declared.producer.Producer.{Producer}
use Rattle.session_core.specs.Seats.{SeatState}
use Rattle.lnsd_threads.specs.Hearing.{AreHeard, IsOneHeard}

-- one more message
pub one_more : {A P : Type 0} → (peer : Option Peer) (heard : List Message) (message : Message)
    (seat : SeatState) (told : Producer Refusal A P) (next_seat : SeatState) (next_told : Producer Refusal A P)
    (new_seat : SeatState) (new_told : Producer Refusal A P)
    → AreHeard peer heard seat told next_seat next_told → IsOneHeard peer message next_seat next_told new_seat new_told
    → AreHeard peer (heard ++ message ∷ []) seat told new_seat new_told
one_more {A} {P} peer [] message seat told next_seat next_told new_seat new_told (same_seat, same_told) one =
    let with_seat : IsOneHeard peer message seat next_told new_seat new_told =
    subst (λ (s : SeatState). IsOneHeard peer message s next_told new_seat new_told) same_seat one in
    let with_both : IsOneHeard peer message seat told new_seat new_told =
    subst (λ (t : Producer Refusal A P). IsOneHeard peer message seat t new_seat new_told) same_told with_seat in
    (new_seat, (new_told, (with_both, (refl, refl))))
one_more peer (first ∷ heard) message seat told next_seat next_told new_seat new_told (s, (t, (here, are))) one =
    (s, (t, (here, one_more peer heard message s t next_seat next_told new_seat new_told are one)))

-- a line from a peer that is no application changes nothing
pub not_asked : {A P : Type 0} → (peer : Option Peer) (line : List ℕ) (seat : SeatState) (told : Producer Refusal A P)
    → ((application : ℕ) → peer ≡ Some (Application application) → ⊥) → IsOneHeard peer (Line line) seat told seat told
not_asked None line seat told none = (refl, refl)
not_asked (Some (Gateway gateway)) line seat told none = (refl, refl)
not_asked (Some (Application application)) line seat told none = absurd (none application refl)

-- if none is left, all were handled
pub all_heard : {A P : Type 0} → (peer : Option Peer) (all heard left : List Message) (seat : SeatState) (told : Producer Refusal A P)
    (new_seat : SeatState) (new_told : Producer Refusal A P) → all ≡ heard ++ left → left ≡ []
    → AreHeard peer heard seat told new_seat new_told → AreHeard peer all seat told new_seat new_told
all_heard {A} {P} peer all heard left seat told new_seat new_told split none are =
    let whole : all ≡ heard = split ∙ (ap (λ (l : List Message). heard ++ l) none ∙ append-nil heard) in
    subst (λ (l : List Message). AreHeard peer l seat told new_seat new_told) (sym whole) are

-- what is left after one message is taken
pub split_on : (all heard rest left : List Message) (message : Message) → all ≡ heard ++ rest → rest ≡ message ∷ left
    → all ≡ (heard ++ message ∷ []) ++ left
split_on all heard rest left message split front =
    split ∙ (ap (λ (l : List Message). heard ++ l) front ∙ sym (append_assoc heard (message ∷ []) left))
