use Rattle.std.proofs.Common.{List, ℕ, [], ◌∷◌, ◌++◌, refl, ◌∙◌, ap, arith}
use Rattle.disk.specs.State.{bytes_after_write}
use Rattle.gate_log.specs.declared.layout.TheConstants.{OPEN}
use Rattle.gate_log.specs.Layout.{IsHeader, fresh_header}
use Rattle.gate_log.proofs.Recovering.{formatted}
use Rattle.gate_log.proofs.format.format_area.Goals as goal

pub returns-clause-formatted : goal.returns-clause-formatted
returns-clause-formatted g c honest =
    let old = (g.D.Disk.state c.args.disk.now).content in
    let in_range : IsHeader (fresh_header c.args.version) = record { version = omega arith; generation = omega arith; sequence = omega arith; record_count = omega arith; records_len = omega arith } in
    let bytes = c.copy_from_slice.ensures.after ∙ c.to_bytes.ensures in
    formatted c.args.area old (g.D.Disk.state c.write_at.new.self).content (fresh_header c.args.version) c.requires.room c.requires.within in_range refl
    (c.in_ok-write_at.ensures.written honest ∙ ap (λ (l : List ℕ). bytes_after_write old c.args.area.start (OPEN ∷ (l ++ (0 ∷ [])))) bytes)
