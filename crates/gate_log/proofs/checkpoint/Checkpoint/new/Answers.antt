use Rattle.std.proofs.Common.{◌≡◌, ℕ, List, [], ◌∷◌, ◌++◌, length, drop, refl, sym, ◌∙◌, ap, arith}
use Rattle.gate_log.specs.Layout.{header_bytes}
use Rattle.gate_log.proofs.Buffers.{put_in}
use Rattle.gate_log.proofs.Spelling.{length-header_bytes}
use Rattle.gate_log.proofs.checkpoint.Checkpoint.new.Goals as goal

pub returns-clause-checkpoint : goal.returns-clause-checkpoint
returns-clause-checkpoint c =
    let old = c.args.buffer.items in
    let hb = header_bytes c.args.header in
    let put : c.put.new.bytes ≡ hb ++ drop 29 old = c.put.ensures ∙ ap (λ (l : List ℕ). hb ++ drop 29 l) c.deref_mut.ensures.value in
    let whole : length old ≡ c.args.buffer.len = sym (ap length c.deref_mut.ensures.value) ∙ c.deref_mut.ensures.len in
    record {
      gate = 0;
      bytes = c.in_ok-push.ensures.items ∙ ap (λ (l : List ℕ). l ++ 0 ∷ []) (put_in 29 hb old c.put.new.bytes c.args.buffer.len put (length-header_bytes c.args.header) c.requires whole);
      closed = λ same. omega (arith, same);
      generation = refl;
    }
