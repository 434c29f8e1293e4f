use Rattle.std.proofs.Common.{◌≡◌, ◌<◌, ◌-◌, ◌^◌, ◌++◌, ◌∙◌, List, [], ◌∷◌, ℕ, ap, arith, drop, length, length-drop, subst, sym}
use Rattle.gate_log.specs.declared.layout.BatchHead.{BatchHead}
use Rattle.gate_log.specs.Layout.{head_bytes, head_of}
use Rattle.gate_log.proofs.Buffers.{put_in}
use Rattle.gate_log.proofs.Spelling.{length-head_bytes}
use Rattle.gate_log.proofs.phases.Begun.new.Goals as goal

pub returns-clause-begun : goal.returns-clause-begun
returns-clause-begun c =
    let old = c.args.buffer.items in
    let head_at : ℕ → BatchHead = λ n. record { entries_len = n; last_sequence = c.args.last_sequence; entry_count = c.args.entry_count } in
    let head = head_at (length (drop 14 old)) in
    let whole : length old ≡ c.args.buffer.len = sym (ap length c.deref_mut.ensures.value) ∙ c.deref_mut.ensures.len in
    let long : c.len.result - 14 ≡ length (drop 14 old) = ap (λ n. n - 14) c.len.ensures ∙ (ap (λ n. n - 14) (sym whole) ∙ sym (length-drop 14 old)) in
    let put : c.put.new.bytes ≡ head_bytes head ++ drop 14 old =
    c.put.ensures ∙ (ap (λ (l : List ℕ). head_bytes (head_at (c.len.result - 14)) ++ drop 14 l) c.deref_mut.ensures.value ∙ ap (λ n. head_bytes (head_at n) ++ drop 14 old) long) in
    record {
      gate = 0;
      bytes = c.in_ok-push.ensures.items ∙ ap (λ (l : List ℕ). l ++ 0 ∷ []) (put_in 14 (head_bytes head) old c.put.new.bytes c.args.buffer.len put (length-head_bytes head) c.requires.head whole);
      closed = λ same. omega (arith, same);
      head = record {
        entries_len = let is = length-drop 14 old in let short = c.requires.short in omega (arith, is, short);
        last_sequence = c.ranges.last_sequence.fits;
        entry_count = c.ranges.entry_count.fits;
      };
    }
