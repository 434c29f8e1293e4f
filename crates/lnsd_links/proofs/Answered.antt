-- One more refusal is answered.
use Rattle.std.proofs.Common.{◌≡◌, ◌+◌, ◌++◌, ◌∷◌, ◌⊎◌, ◌<◌, ℕ, Bool, true, false, List, [], Result, Ok, Err, refl, ap, sym, ◌∙◌, inl, inr, arith, append_assoc, append-nil, ltb}
use Rattle.std.specs.Prelude.{◌↔◌, IsTrue, MatchResult}
use Rattle.std.proofs.lemmas.Bool.{lt-ltb, ltb-true}
use Rattle.std.proofs.lemmas.List.{length_push}
use Rattle.lw_types.specs.declared.refusal.Refusal.{Refusal}
use Rattle.lw_types.specs.declared.refusal.Refusal.TheVariants.{OutOfMemory}
use Rattle.gateway_wire.specs.Answer.{answer_frame, refused_line}
use Rattle.lnsd_links.specs.Sending.{AreAnswers, HaveAnswered}

-- without memory
pub lost_answer : (refusals : List Refusal) (refusal : Refusal) (bytes : List ℕ) → AreAnswers refusals bytes
    → AreAnswers (refusals ++ refusal ∷ []) bytes
lost_answer [] refusal bytes nothing = inl nothing
lost_answer (r ∷ rs) refusal bytes (inl more) = inl (lost_answer rs refusal bytes more)
lost_answer (r ∷ rs) refusal bytes (inr (rest, (front, more))) = inr (rest, (front, lost_answer rs refusal rest more))

-- and its answer added
pub added_answer : (refusals : List Refusal) (refusal : Refusal) (bytes : List ℕ) → AreAnswers refusals bytes
    → AreAnswers (refusals ++ refusal ∷ []) (bytes ++ answer_frame (refused_line refusal))
added_answer [] refusal bytes nothing =
    let after = λ (b : List ℕ). b ++ answer_frame (refused_line refusal) in
    inr ([], (ap after nothing ∙ sym (append-nil (answer_frame (refused_line refusal))), refl))
added_answer (r ∷ rs) refusal bytes (inl more) = inl (added_answer rs refusal bytes more)
added_answer (r ∷ rs) refusal bytes (inr (rest, (front, more))) =
    let after = λ (b : List ℕ). b ++ answer_frame (refused_line refusal) in
    inr (rest ++ answer_frame (refused_line refusal), (ap after front ∙ append_assoc (answer_frame (refused_line r)) rest (answer_frame (refused_line refusal)), added_answer rs refusal rest more))

-- a call added something, if this holds, or left everything unchanged
pub added_or_same : {T P R S : Type 0} → S → (r : Result T Refusal)
    → MatchResult r (λ _. P) (λ e. (e ≡ OutOfMemory) × R) → R ⊎ (S × P)
added_or_same here (Ok x) added = inr (here, added)
added_or_same here (Err e) (why, same) = inl same

-- one more came out of the ring
pub answered_one : (is_broken is_some : Bool) (before now later : List Refusal) (refusal : Refusal) (bytes here there : List ℕ)
    → HaveAnswered is_broken before now is_some bytes here → later ≡ now ++ refusal ∷ []
    → (there ≡ here) ⊎ ((is_broken ≡ false) × (there ≡ here ++ answer_frame (refused_line refusal)))
    → HaveAnswered is_broken before later true bytes there
answered_one is_broken is_some before now later refusal bytes here there have popped (inl same) =
    let more = length_push have.refusals refusal in
    record {
      refusals = have.refusals ++ refusal ∷ [];
      received = popped ∙ (ap (λ l. l ++ refusal ∷ []) have.received ∙ append_assoc before have.refusals (refusal ∷ []));
      some = (λ _. omega (arith, more), λ _. refl);
      bytes = have.bytes;
      put = same ∙ have.put;
      answers = lost_answer have.refusals refusal have.bytes have.answers;
      silent = have.silent;
    }
answered_one is_broken is_some before now later refusal bytes here there have popped (inr (sound, added)) =
    let more = length_push have.refusals refusal in
    let answer = answer_frame (refused_line refusal) in
    record {
      refusals = have.refusals ++ refusal ∷ [];
      received = popped ∙ (ap (λ l. l ++ refusal ∷ []) have.received ∙ append_assoc before have.refusals (refusal ∷ []));
      some = (λ _. omega (arith, more), λ _. refl);
      bytes = have.bytes ++ answer;
      put = added ∙ (ap (λ b. b ++ answer) have.put ∙ append_assoc bytes have.bytes answer);
      answers = added_answer have.refusals refusal have.bytes have.answers;
      silent = λ broken. let no : false ≡ true = sym sound ∙ broken in cc;
    }

-- whether there was an effect, if there was no refusal
pub some_effect : (told : Bool) (refusals effects taken : ℕ) → (IsTrue told ↔ (0 < refusals)) → told ≡ false
    → taken ≡ effects → IsTrue (ltb 0 taken) ↔ (0 < refusals + effects)
some_effect told refusals effects taken any none count =
    let no_refusal : (0 < refusals) → ⊥ = λ h. let no : false ≡ true = sym none ∙ any.1 h in cc in
    (λ is. omega (arith, ltb-true 0 taken is, count), λ some. lt-ltb 0 taken (omega (arith, some, count, no_refusal)))
