use Rattle.std.proofs.Common.{◌≡◌, ◌+◌, ◌-◌, ◌*◌, ◌/◌, ◌≤◌, ◌∙◌, ◌++◌, ℕ, List, arith, ap, sym, refl, length, take, drop, min, length-drop}
use Rattle.std.proofs.lemmas.List.{length-take-le}
use borrow.Rule.Slice.PartMut.{put_mid}
use Rattle.aes128.specs.Cipher.{xor}
use Rattle.frame_crypt.specs.Frames.{keystream, crypted_payload}
use Rattle.frame_crypt.proofs.StreamLemmas.{crypted_step, left_step, crypted_end, keystream-more, length-keystream}
use Rattle.frame_crypt.proofs.data.crypt_payload.Goals as goal
use Rattle.aes128.proofs.XorLemmas.{length-xor}

pub loop-i-preserved : goal.loop-i-preserved
loop-i-preserved c =
    let i : ℕ = c.loop-i.i in
    let old : List ℕ = c.args.payload.now in
    let now : List ℕ = c.loop-i.payload in
    let a : ℕ = 16 * i in
    let e : ℕ = c.min-end.result in
    let key : List ℕ = c.new-keys.result in
    let stream : List ℕ = keystream key c.args.dir c.args.addr.0 c.args.counter i in
    let before = c.loop-i.invariant in
    let s : List ℕ = c.encrypt.new.block in
    let bytes : List ℕ = c.xor.new.bytes in
    let k : ℕ = e - a in
    let next : 16 * (i + 1) ≡ a + 16 = omega arith in
    let end : e ≡ min (length now) (a + 16) = c.min-end.ensures in
    let inside : a ≤ length now = omega arith in
    let old_inside : a ≤ length old = omega arith in
    let small : k ≤ 16 = omega arith in
    let rest : length (drop a now) ≡ length now - a = length-drop a now in
    let part : length (take k (drop a now)) ≡ k = length-take-le k (drop a now) (omega arith) in
    let s_long : length s ≡ 16 = omega arith in
    let long : length bytes ≡ k = ap (λ (l : List ℕ). length l) c.xor.ensures ∙ length-xor (take k (drop a now)) s (omega arith) ∙ part in
    record {
      done =
          ap (λ (n : ℕ). take n (put_mid a k now bytes)) next
          ∙ crypted_step old now bytes stream s a e k c.loop-i.auto.payload old_inside (length-keystream key c.args.dir c.args.addr.0 c.args.counter i) s_long end refl before.done before.left c.xor.ensures
          ∙ ap (λ (n : ℕ). xor (take n old) (stream ++ s)) (sym next)
          ∙ ap (xor (take (16 * (i + 1)) old)) (keystream-more key c.args.dir c.args.addr.0 c.args.counter i s c.frame_block-block.result c.encrypt.ensures c.frame_block-block.ensures);
      left =
          ap (λ (n : ℕ). drop n (put_mid a k now bytes)) next
          ∙ left_step old now bytes a k inside small long before.left
          ∙ ap (λ (n : ℕ). drop n old) (sym next);
    }

pub returns : goal.returns
returns c =
    let done : c.loop-i.i ≡ (length c.args.payload.now + 15) / 16 = omega arith in
    crypted_end c.new-keys.result c.args.dir c.args.addr.0 c.args.counter c.args.payload.now c.loop-i.payload c.loop-i.i c.loop-i.auto.payload done c.loop-i.invariant.done
    ∙ ap (λ (key : List ℕ). crypted_payload key c.args.dir c.args.addr.0 c.args.counter c.args.payload.now) c.new-keys.ensures
