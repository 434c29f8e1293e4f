use Rattle.std.proofs.Common.{◌≡◌, subst, length, [], ◌∷◌, ◌++◌}
use Rattle.std.specs.Prelude.{codes, string_bytes}
use Rattle.std.specs.Fmt.{decimal}
use Rattle.store_files.proofs.report.report_head.Goals as goal

pub returns : goal.returns
returns c =
    subst (λ n. string_bytes c.in_ok-text.text
    ≡ codes "devices " ++ (decimal (length c.args.devices.now) ++ 10
    ∷ (codes "recorded " ++ (decimal c.args.recorded ++ 10
    ∷ (codes "grants_left " ++ (decimal n ++ 10 ∷ []))))))
    c.fewest_left-left.ensures c.in_ok-text.ensures.ok
