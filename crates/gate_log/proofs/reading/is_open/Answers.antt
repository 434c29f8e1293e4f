use Rattle.std.proofs.Common.{◌≡◌, ℕ, List, ◌+◌, drop, get_or, sym, ap, ◌∙◌, arith}
use Rattle.std.proofs.lemmas.List.{get_or-drop, get_or-take}
use Rattle.std.proofs.lemmas.Bool.{eq-eqb, eqb-true}
use Rattle.gate_log.proofs.reading.is_open.Goals as goal

pub returns-clause-gate : goal.returns-clause-gate
returns-clause-gate g c honest =
    let disk = (g.D.Disk.state c.args.disk.now).content in
    let at : c.args.at + 0 ≡ c.args.at = omega arith in
    let found : get_or (drop c.args.at disk) 0 0 ≡ get_or disk c.args.at 0 = get_or-drop c.args.at disk 0 0 ∙ ap (λ (k : ℕ). get_or disk k 0) at in
    let read : get_or c.read_at.new.buffer 0 0 ≡ get_or disk c.args.at 0 = ap (λ (l : List ℕ). get_or l 0 0) (c.in_ok-read_at.ensures.bytes honest) ∙ get_or-take 1 (drop c.args.at disk) 0 0 (omega arith) ∙ found in
    (λ is_open. sym read ∙ eqb-true _ 165 is_open, λ is. eq-eqb _ 165 (read ∙ is))
