use Rattle.std.proofs.Common.{◌≡◌, ◌+◌, ◌∙◌, arith, sym, ap, ℕ, List}
use Rattle.aes128.specs.Cipher.{ciphertext}
use Rattle.aes128.proofs.RoundLemmas.{rounds-zero, rounds-next, encrypted-last}
use Rattle.aes128.proofs.schedule.KeySchedule.encrypt.Goals as goal

pub loop-r-init : goal.loop-r-init
loop-r-init c = c.xor.ensures ∙ sym (rounds-zero _ _)

pub loop-r-preserved : goal.loop-r-preserved
loop-r-preserved c = c.round.ensures ∙ rounds-next _ _ c.loop-r.block _ c.loop-r.r c.loop-r.invariant (c.self.invariant.each (c.loop-r.r + 1) (omega arith))

pub returns : goal.returns
returns c =
    let done : c.loop-r.r ≡ 9 = omega arith in
    c.last_round.ensures
    ∙ encrypted-last _ _ c.loop-r.block _ (rw done at c.loop-r.invariant) (c.self.invariant.each 10 (omega arith))
    ∙ ap (λ (key : List ℕ). ciphertext key c.args.block.now) c.self.view_is
