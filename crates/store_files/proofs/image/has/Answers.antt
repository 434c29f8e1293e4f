use Rattle.std.proofs.Common.{◌≡◌, ◌∙◌, ◌+◌, ◌-◌, length, take, drop, ap, arith}
use Rattle.store_files.proofs.Fronts.{piece_of, told_piece, told_true}
use Rattle.store_files.proofs.image.has.Goals as goal

pub returns : goal.returns
returns c = record {
  exact =
      let image = c.args.image.now in
      let at = c.args.at in
      let bytes = c.args.bytes.now in
      let size : (at + length bytes) - at ≡ length bytes = omega arith in
      told_piece _ bytes (take (length bytes) (drop at image)) _ c.eq.ensures (ap (λ n. take n (drop at image)) size);
  there = λ content front is.
      let image = c.args.image.now in
      let at = c.args.at in
      let bytes = c.args.bytes.now in
      let size : (at + length bytes) - at ≡ length bytes = omega arith in
      let same = ap (λ n. take n (drop at image)) size ∙ piece_of content image bytes at c.requires front is in
      told_true _ _ _ c.eq.ensures same;
}
