use Rattle.std.proofs.Common.{arith, ◌≡◌, ◌∙◌, ap, List, ℕ}
use Rattle.aes128.specs.Cipher.{xor, ciphertext}
use Rattle.aes_cmac.specs.Cmac.{double, first_subkey, second_subkey}
use Rattle.aes_cmac.proofs.ChainLemmas.{cmac-whole, cmac-short}
use Rattle.aes_cmac.proofs.chain.Chain.finish.Goals.{then-self-lt16, else-self-lt16}
use Rattle.aes_cmac.proofs.chain.Chain.finish.Goals as goal

pub returns : goal.returns
returns c = λ message held.
    let key : List ℕ = c.args.keys.now in
    let first : c.doubled-subkey.result ≡ first_subkey key = c.doubled-subkey.ensures ∙ ap double c.encrypt.ensures in
    let sealed : c.encrypt-2.new.block ≡ ciphertext key (xor c.if-self-lt16.self.0 c.if-self-lt16.subkey) =
    c.encrypt-2.ensures ∙ ap (ciphertext key) c.xor.ensures in
    elim c.if-self-lt16.branch [
      | then-self-lt16 w ↦
          let second : c.if-self-lt16.subkey ≡ second_subkey key = w.subkey-is ∙ w.doubled-subkey-then-self-lt16.ensures ∙ ap double first in
          sealed ∙ ap (λ (k : List ℕ). ciphertext key (xor c.if-self-lt16.self.0 k)) second
          ∙ rw w.self-is (cmac-short key c.args.self.block message c.args.self.used held w.if-self-lt16.true (omega arith))
      | else-self-lt16 w ↦
          let whole : c.args.self.used ≡ 16 = omega arith in
          sealed ∙ ap (λ (k : List ℕ). ciphertext key (xor c.if-self-lt16.self.0 k)) (w.subkey-is ∙ first)
          ∙ rw w.self-is (cmac-whole key c.args.self.block message c.args.self.used held whole)
    ]
