use Rattle.std.proofs.Common.{◌≡◌, ◌-◌, ◌∙◌, arith, ap, ℕ, [], List, get_or}
use Rattle.aes128.specs.InverseCipher.{plaintext, inv_shift_rows, inv_sub_bytes}
use Rattle.aes128.proofs.InverseLemmas.{decrypted-last, inv_rounds-next, inv_rounds-zero}
use Rattle.aes128.proofs.schedule.KeySchedule.decrypt.Goals as goal

pub loop-r-init : goal.loop-r-init
loop-r-init c =
    let key : List ℕ = get_or c.self.inside.round_keys 0 [] in
    c.undo_last_round.ensures ∙ ap (λ (s : List ℕ). inv_sub_bytes (inv_shift_rows s)) (inv_rounds-zero key c.args.block.now _ (c.self.invariant.each 10 (omega arith)))

pub loop-r-preserved : goal.loop-r-preserved
loop-r-preserved c =
    let key : List ℕ = get_or c.self.inside.round_keys 0 [] in
    c.unround.ensures
    ∙ ap (λ (s : List ℕ). inv_sub_bytes (inv_shift_rows s))
    (inv_rounds-next key c.args.block.now c.loop-r.block _ c.loop-r.r c.loop-r.invariant (c.self.invariant.each (9 - c.loop-r.r) (omega arith)))

pub returns : goal.returns
returns c =
    let done : c.loop-r.r ≡ 9 = omega arith in
    let key : List ℕ = get_or c.self.inside.round_keys 0 [] in
    c.xor.ensures ∙ decrypted-last key c.args.block.now c.loop-r.block c.loop-r.r done c.loop-r.invariant
    ∙ ap (λ (key : List ℕ). plaintext key c.args.block.now) c.self.view_is
