-- What is put together to be sent on a link.
use Rattle.std.specs.Prelude.{◌≡◌, ◌<◌, ◌+◌, ◌++◌, ◌∷◌, ◌⊎◌, ◌↔◌, ℕ, Bool, true, false, List, []}
use Rattle.std.specs.Prelude.{Option, IsTrue, length}
use Rattle.std.specs.Io.KnownBytes.{Appends}
use Rattle.lw_types.specs.declared.refusal.Refusal.{Refusal}
use Rattle.devices.specs.declared.effect.Effect.{Effect}
use Rattle.gateway_wire.specs.Answer.{answer_frame, refused_line}
use Rattle.gateway_wire.specs.Emission.{effect_frame, recipient}
use Rattle.gateway_wire.specs.declared.recipient.Recipient.{Recipient}

-- the frames of effects, one after another, each for the link of this name, without the lost ones,
-- which are this number
abbrev pub AreTogether : Recipient → List Effect → ℕ → List ℕ → Type 0
AreTogether name [] lost bytes = (lost ≡ 0) × (bytes ≡ [])
AreTogether name (effect ∷ effects) lost bytes =
    ((others : ℕ) × ((lost ≡ others + 1) × AreTogether name effects others bytes))
    ⊎ ((recipient effect ≡ name) × ((rest : List ℕ)
    × ((bytes ≡ effect_frame effect ++ rest) × AreTogether name effects lost rest)))

-- this number of effects came out of a ring for the link of this name, and some of them were lost;
-- the frames of the others come after the bytes that were there
abbrev pub AreGathered : Recipient → List Effect → List Effect → ℕ → ℕ → List ℕ → List ℕ → Type 0
AreGathered name old_taken new_taken taken lost old_bytes new_bytes =
    (effects : List Effect) × ((bytes : List ℕ) × ((new_taken ≡ old_taken ++ effects)
    × ((taken ≡ length effects) × ((new_bytes ≡ old_bytes ++ bytes)
    × AreTogether name effects lost bytes))))

-- the answers to refused requests, one after another, without the lost ones
abbrev pub AreAnswers : List Refusal → List ℕ → Type 0
AreAnswers [] bytes = bytes ≡ []
AreAnswers (refusal ∷ refusals) bytes =
    AreAnswers refusals bytes
    ⊎ ((rest : List ℕ) × ((bytes ≡ answer_frame (refused_line refusal) ++ rest)
    × AreAnswers refusals rest))

-- refusals came out of a ring, and whether there were any; the outgoing answers come after what was
-- there, and on a broken link there are none
pub record HaveAnswered (is_broken : Bool) (old_received new_received : List Refusal)
    (is_some : Bool) (old_bytes new_bytes : List ℕ) : Type 0 where
  pub refusals : List Refusal
  pub received : new_received ≡ old_received ++ refusals
  pub some : IsTrue is_some ↔ (0 < length refusals)
  pub bytes : List ℕ
  pub put : new_bytes ≡ old_bytes ++ bytes
  pub answers : AreAnswers refusals bytes
  pub silent : IsTrue is_broken → bytes ≡ []

-- a beginning of the bytes was written, and all of them if the result says so
abbrev pub IsWrittenTo : List ℕ → Bool → Option (List ℕ) → Option (List ℕ) → Type 0
IsWrittenTo bytes is_whole before after =
    (gone : List ℕ) × ((rest : List ℕ) × ((bytes ≡ gone ++ rest)
    × (Appends before after gone × (IsTrue is_whole → rest ≡ []))))

-- A turn of a sender. Refusals and effects came out of its rings, and whether there were any. The
-- answers to the refusals were put together, and after them the frames of the effects for the link
-- of this name. Either all of it was written, and the lost effects count as dropped; or only a
-- beginning was written, each of these effects counts as dropped, and the link is broken. On a link
-- that was broken before, nothing is written, and it stays broken.
pub record IsHandedOver (name : Recipient) (old_received new_received : List Refusal)
    (old_taken new_taken : List Effect) (is_some was_broken is_broken : Bool) (dropped : ℕ)
    (before after : Option (List ℕ)) : Type 0 where
  pub refusals : List Refusal
  pub received : new_received ≡ old_received ++ refusals
  pub effects : List Effect
  pub taken : new_taken ≡ old_taken ++ effects
  pub some : IsTrue is_some ↔ (0 < length refusals + length effects)
  pub answers : List ℕ
  pub answered : AreAnswers refusals answers
  pub frames : List ℕ
  pub lost : ℕ
  pub gathered : AreTogether name effects lost frames
  pub gone : List ℕ
  pub rest : List ℕ
  pub split : answers ++ frames ≡ gone ++ rest
  pub written : Appends before after gone
  pub counted : ((was_broken ≡ false) × ((is_broken ≡ false) × ((rest ≡ []) × (dropped ≡ lost))))
      ⊎ ((is_broken ≡ true) × (dropped ≡ length effects))
  pub silent : IsTrue was_broken → gone ≡ []
