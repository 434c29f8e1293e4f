use Rattle.std.proofs.Common.{◌≡◌, ◌++◌, ◌∙◌, [], ap, arith, false, inl, inr, refl, sym, true}
use Rattle.std.proofs.KnownBytes.{Appends-nil}
use Rattle.outbox.specs.Ring.{taken_from}
use Rattle.rtrb.specs.Ring.{received}
use Rattle.lnsd_links.proofs.Answered.{some_effect}
use Rattle.lnsd_links.proofs.writing.Sender.hand_over.Goals.{then-self, else-self, then-not-is_sent, else-not-is_sent, then-is_told, else-is_told}
use Rattle.lnsd_links.proofs.writing.Sender.hand_over.Goals as goal

-- a beginning was written, and each effect is dropped
pub returns-else-is_sent-clause-written : goal.returns-else-is_sent-clause-written
returns-else-is_sent-clause-written g c =
    let have = c.gather_refusals-is_told.ensures.answered in
    let told = c.gather_refusals-is_told.ensures in
    let got = c.gather_effects-taken.ensures in
    let (effects, (frames, (taken, (count, (put, for_it))))) = got.gathered in
    elim c.if-self.branch [
      | then-self w ↦ let no : false ≡ true = sym c.if-is_sent.false ∙ (w.is_sent-is ∙ w.if-self.true) in cc
      | else-self w ↦
          elim c.if-not-is_sent.branch [
            | then-not-is_sent v ↦
                let sent = w.send_bytes-is_sent.ensures in
                let (gone, (rest, (split, (appended, whole)))) = sent.written in
                rw v.self-is (rw w.self-is (rw w.stream-is (record {
                  refusals = have.refusals;
                  received = ap (λ r. received r) got.refusals ∙ have.received;
                  effects = effects;
                  taken = sent.inlet ∙ (taken ∙ ap (λ i. taken_from i ++ effects) told.inlet);
                  some =
                      elim c.if-is_told.branch [
                        | then-is_told t ↦ rw t.result-is (λ _. omega (arith, have.some.0 t.if-is_told.true), λ _. t.if-is_told.true)
                        | else-is_told t ↦ rw t.result-is (some_effect _ _ _ _ have.some t.if-is_told.false count)
                      ];
                  answers = have.bytes;
                  answered = have.answers;
                  frames = frames;
                  lost = c.gather_effects-taken.result.lost;
                  gathered = for_it;
                  gone = gone;
                  rest = rest;
                  split = sym (put ∙ ap (λ b. b ++ frames) (have.put ∙ ap (λ b. b ++ have.bytes) c.clear.ensures)) ∙ (sym w.as_slice.ensures ∙ split);
                  written = appended;
                  counted = inr (refl, count);
                  silent = λ broken. let no : false ≡ true = sym w.if-self.false ∙ (got.broken.0 ∙ (told.broken ∙ broken)) in cc;
                })))
            | else-not-is_sent v ↦ let no : false ≡ true = sym c.if-is_sent.false ∙ v.if-not-is_sent.false in cc
          ]
    ]

-- all was written, or nothing, since the link was broken before
pub returns-then-is_sent-clause-written : goal.returns-then-is_sent-clause-written
returns-then-is_sent-clause-written g c =
    let have = c.gather_refusals-is_told.ensures.answered in
    let told = c.gather_refusals-is_told.ensures in
    let got = c.gather_effects-taken.ensures in
    let (effects, (frames, (taken, (count, (put, for_it))))) = got.gathered in
    elim c.if-not-is_sent.branch [
      | then-not-is_sent v ↦ let no : false ≡ true = sym v.if-not-is_sent.true ∙ c.if-is_sent.true in cc
      | else-not-is_sent v ↦
          elim c.if-self.branch [
            | then-self w ↦
                rw v.self-is (rw w.self-is (rw w.stream-is (record {
                  refusals = have.refusals;
                  received = ap (λ r. received r) got.refusals ∙ have.received;
                  effects = effects;
                  taken = taken ∙ ap (λ i. taken_from i ++ effects) told.inlet;
                  some =
                      elim c.if-is_told.branch [
                        | then-is_told t ↦ rw t.result-is (λ _. omega (arith, have.some.0 t.if-is_told.true), λ _. t.if-is_told.true)
                        | else-is_told t ↦ rw t.result-is (some_effect _ _ _ _ have.some t.if-is_told.false count)
                      ];
                  answers = have.bytes;
                  answered = have.answers;
                  frames = frames;
                  lost = c.gather_effects-taken.result.lost;
                  gathered = for_it;
                  gone = [];
                  rest = have.bytes ++ frames;
                  split = refl;
                  written = Appends-nil _;
                  counted = inr (w.if-self.true, got.broken.1 (sym got.broken.0 ∙ w.if-self.true) ∙ count);
                  silent = λ _. refl;
                })))
            | else-self w ↦
                let sent = w.send_bytes-is_sent.ensures in
                let (gone, (rest, (split, (appended, whole)))) = sent.written in
                let sound = sym got.broken.0 ∙ w.if-self.false in
                rw v.self-is (rw w.self-is (rw w.stream-is (record {
                  refusals = have.refusals;
                  received = ap (λ r. received r) got.refusals ∙ have.received;
                  effects = effects;
                  taken = sent.inlet ∙ (taken ∙ ap (λ i. taken_from i ++ effects) told.inlet);
                  some =
                      elim c.if-is_told.branch [
                        | then-is_told t ↦ rw t.result-is (λ _. omega (arith, have.some.0 t.if-is_told.true), λ _. t.if-is_told.true)
                        | else-is_told t ↦ rw t.result-is (some_effect _ _ _ _ have.some t.if-is_told.false count)
                      ];
                  answers = have.bytes;
                  answered = have.answers;
                  frames = frames;
                  lost = c.gather_effects-taken.result.lost;
                  gathered = for_it;
                  gone = gone;
                  rest = rest;
                  split = sym (put ∙ ap (λ b. b ++ frames) (have.put ∙ ap (λ b. b ++ have.bytes) c.clear.ensures)) ∙ (sym w.as_slice.ensures ∙ split);
                  written = appended;
                  counted = inl (sym told.broken ∙ sound, (w.if-self.false, (whole (sym w.is_sent-is ∙ c.if-is_sent.true), refl)));
                  silent = λ broken. let no : false ≡ true = sym sound ∙ (told.broken ∙ broken) in cc;
                })))
          ]
    ]
