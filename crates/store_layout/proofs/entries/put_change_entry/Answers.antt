use Rattle.std.proofs.Common.{◌≡◌, ◌∙◌, [], ◌∷◌, ◌++◌, ℕ, List, length, ap, append_assoc, arith, length-append}
use Rattle.std.specs.Int.{to_be_bytes, w16}
use Rattle.record_codec.specs.Version.{newest}
use Rattle.store_layout.proofs.entries.put_change_entry.Goals as goal

pub set_length-requires-clause-short : goal.set_length-requires-clause-short
set_length-requires-clause-short c =
    let of = c.in-Ok.ensures in
    let short = c.changes_are_short.ensures.most newest c.args.before.now c.args.after.now of.0 of.2 in
    let front = ap length c.in_ok-put_front.ensures in
    let whole = ap length of.1 in
    omega (arith, length-append {A = ℕ})

pub returns-in-Ok : goal.returns-in-Ok
returns-in-Ok c =
    let of = c.in-Ok.ensures in
    let old = c.args.out.now.items in
    let short = c.changes_are_short.ensures.most newest c.args.before.now c.args.after.now of.0 of.2 in
    let at : length old ≡ c.len-at.result = omega arith in
    let whole : c.write_change.new.out.items ≡ old ++ 2 ∷ (to_be_bytes w16 c.args.slot ++ 0 ∷ 0 ∷ of.0) =
    of.1 ∙ ap (λ (l : List ℕ). l ++ of.0) c.in_ok-put_front.ensures ∙ append_assoc old (2 ∷ (to_be_bytes w16 c.args.slot ++ 0 ∷ 0 ∷ [])) of.0 in
    (of.0, c.set_length.ensures old of.0 2 c.args.slot at whole, (c.ranges.slot.fits, omega arith), of.2)
