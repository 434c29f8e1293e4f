-- What a disk keeps holding while an opening of its store is refused.
use Rattle.std.proofs.Common.{◌≡◌, ◌∙◌, refl, subst, sym}
use Rattle.disk.specs.State.{EveryImage, IsPermitted, NothingOpen, State}
use Rattle.store.specs.Image.{HoldsTable}
use Rattle.store.specs.State.{HoldsOn, StillHolds}

-- a crash may leave the content
pub content_is_left : (s : State) → IsPermitted s s.content
content_is_left s = record { same_length = refl; kept = λ i shut. refl }

pub holds_on_same : (old new : State) → new ≡ old → HoldsOn old new
holds_on_same old new same image permitted = (image, (subst (λ s. IsPermitted s image) same permitted, λ t seq held. held))

-- a disk that holds what the content of the one before it did
pub holds_content : (old new : State) → StillHolds old.content new → HoldsOn old new
holds_content old new still image permitted = (old.content, (content_is_left old, λ t seq held. still t seq held image permitted))

-- if nothing was open, that is all that it may hold
pub still_holds : ((s : State) → NothingOpen s → EveryImage s (λ image. image ≡ s.content)) → (old new : State) → NothingOpen old → HoldsOn old new
    → StillHolds old.content new
still_holds law old new nothing on t seq held image permitted =
    let was = on image permitted in was.1.1 t seq (subst (HoldsTable t seq) (sym (law old nothing was.0 was.1.0)) held)

-- one of the images of the old disk was left, and nothing has been open since
pub holds_on_from : (old left new : State) → IsPermitted old left.content → NothingOpen left → HoldsOn left new → HoldsOn old new
holds_on_from old left new permitted nothing on image of_new =
    let was = on image of_new in (
      was.0,
      (
        record {
          same_length = was.1.0.same_length ∙ permitted.same_length;
          kept = λ i shut. was.1.0.kept i (nothing i) ∙ permitted.kept i shut;
        },
        was.1.1,
      ),
    )
