use Rattle.std.proofs.Common.{◌≡◌, ◌+◌, ◌-◌, ◌*◌, ◌≤◌, ◌∙◌, ◌++◌, ℕ, List, arith, ap, sym, refl, length, take, drop}
use Rattle.std.proofs.lemmas.List.{append-nil}
use borrow.Rule.Slice.PartMut.{put_mid}
use Rattle.aes128.specs.InverseCipher.{plaintext}
use Rattle.frame_crypt.specs.Joins.{each_block}
use Rattle.frame_crypt.proofs.AcceptLemmas.{block_left, block_step, each_block-zero}
use Rattle.std.proofs.lemmas.Grind.{common_steps}
use Rattle.frame_crypt.proofs.join.seal_accept.Goals as goal

pub loop-i-init : goal.loop-i-init
loop-i-init c =
    let frame : List ℕ = c.args.frame.now in
    let plain : List ℕ = put_mid (length frame - 4) (length frame - (length frame - 4)) frame c.copy_from_slice.new.self in
    record {
      sealed = sym (ap (λ (l : List ℕ). take 1 plain ++ l) (each_block-zero (plaintext c.new-keys.result) (drop 1 plain)) ∙ append-nil (take 1 plain));
      left = refl;
    }

pub loop-i-preserved : goal.loop-i-preserved
loop-i-preserved c =
    let frame : List ℕ = c.args.frame.now in
    let plain : List ℕ = put_mid (length frame - 4) (length frame - (length frame - 4)) frame c.copy_from_slice.new.self in
    let i : ℕ = c.loop-i.i in
    let a : ℕ = 16 * i + 1 in
    let now : List ℕ = c.loop-i.frame in
    let bytes : List ℕ = c.seal_block.new.bytes in
    let key : List ℕ = c.new-keys.result in
    let before = c.loop-i.invariant in
    let fits : a + 16 ≤ length now = omega arith in
    let size : length bytes ≡ 16 = omega arith in
    let sixteen : a + 16 - a ≡ 16 = omega arith in
    let next : a + 16 ≡ 16 * (i + 1) + 1 = omega arith in
    let is : bytes ≡ plaintext key (take 16 (drop a now)) = c.seal_block.ensures ∙ ap (λ (n : ℕ). plaintext key (take n (drop a now))) sixteen in
    record {
      sealed =
          ap (λ (n : ℕ). take n (put_mid a (a + 16 - a) now bytes)) (sym next)
          ∙ ap (λ (n : ℕ). take (a + 16) (put_mid a n now bytes)) sixteen
          ∙ block_step (plaintext key) plain now bytes i a refl fits before.sealed before.left is size;
      left =
          ap (λ (n : ℕ). drop n (put_mid a (a + 16 - a) now bytes)) (sym next)
          ∙ ap (λ (n : ℕ). drop (a + 16) (put_mid a n now bytes)) sixteen
          ∙ block_left plain now bytes a fits size before.left
          ∙ ap (λ (n : ℕ). drop n plain) next;
    }

pub returns : goal.returns
returns c = grind (arith, common_steps)
