use Rattle.std.proofs.Common.{◌≡◌, ◌++◌, ◌+◌, [], ◌∷◌, List, ℕ, take, get_or, arith, ap, sym, ◌∙◌, append_assoc}
use Rattle.std.proofs.lemmas.List.{append-nil, take_more, take_all}
use Rattle.aes_cmac.proofs.chain.Chain.absorb.Goals as goal

pub loop-byte-init : goal.loop-byte-init
loop-byte-init c = λ message held. rw append-nil held

pub loop-byte-preserved : goal.loop-byte-preserved
loop-byte-preserved c = λ message held.
    let piece = c.args.piece.now in
    let i = c.loop-byte.byte-index in
    let more : message ++ take (i + 1) piece ≡ (message ++ take i piece) ++ get_or piece i 0 ∷ [] =
    ap (λ (l : List ℕ). message ++ l) (take_more piece i 0 (omega arith)) ∙ sym (append_assoc message (take i piece) (get_or piece i 0 ∷ [])) in
    rw more (c.absorb_byte.ensures (message ++ take i piece) (c.loop-byte.invariant message held))

pub returns : goal.returns
returns c = λ message held.
    let whole : message ++ take c.loop-byte.byte-index c.args.piece.now ≡ message ++ c.args.piece.now =
    ap (λ (l : List ℕ). message ++ l) (take_all c.loop-byte.byte-index c.args.piece.now (omega arith)) in
    rw whole at (c.loop-byte.invariant message held)
