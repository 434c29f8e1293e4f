use Rattle.std.proofs.Common.{◌≡◌, ◌+◌, ◌∙◌, ◌<◌, arith, sym, ap, refl, ℕ, [], List, get_or, length, inl, inr}
use Rattle.std.proofs.lemmas.List.{length-set, get_or-set_same, get_or-set_other}
use Rattle.std.proofs.lemmas.Bool.{cases_eq}
use Rattle.aes128.specs.Field.{◌•◌}
use Rattle.aes128.specs.Cipher.{round_key}
use Rattle.aes128.proofs.RoundLemmas.{round_key-zero, round_key-next, power-next, power-zero}
use Rattle.aes128.proofs.schedule.KeySchedule.new.Goals as goal

pub loop-r-init : goal.loop-r-init
loop-r-init c = record {
  size = refl;
  made = λ k low. let none : k ≡ 0 = omega arith in rw none (sym (round_key-zero _));
  constant = sym (power-zero 2);
}

pub loop-r-preserved : goal.loop-r-preserved
loop-r-preserved c =
    let r = c.loop-r.r in
    let keys = c.loop-r.round_keys in
    let before = c.loop-r.invariant in
    let room : r + 1 < length keys = omega arith in
    record {
      size = omega (arith, length-set keys (r + 1) c.next_round_key.result);
      made = λ k low. elim (cases_eq k (r + 1)) [
        | inl same ↦ rw same (rw get_or-set_same
            (c.next_round_key.ensures ∙ round_key-next _ (get_or keys r []) c.loop-r.constant r (before.made r (omega arith)) before.constant))
        | inr other ↦ rw get_or-set_other (before.made k (omega arith))
      ];
      constant = c.doubled-constant.ensures ∙ ap (λ (n : ℕ). 2 • n) before.constant ∙ sym (power-next 2 r);
    }

pub invariant_of-result : goal.invariant_of-result
invariant_of-result c =
    let made = c.loop-r.invariant.made in
    let key = made 0 (omega arith) ∙ round_key-zero _ in
    record {
      size = omega (arith, ap (λ (k : List ℕ). length k) key);
      each = λ r low. made r (omega arith) ∙ ap (λ (key : List ℕ). round_key key r) (sym key);
    }

pub returns : goal.returns
returns c = c.loop-r.invariant.made 0 (omega arith) ∙ round_key-zero _
