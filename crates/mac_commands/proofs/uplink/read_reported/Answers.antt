use Rattle.std.proofs.Common.{◌≡◌, ◌++◌, List, ℕ, ap, arith, append_assoc, length, refl, sym, ◌∙◌}
use Rattle.std.proofs.lemmas.List.{append-nil, length-append}
use Rattle.mac_commands.specs.Commands.{command_bytes}
use Rattle.mac_commands.specs.Front.{front_command}
use Rattle.mac_commands.specs.Reading.{reported_bytes}
use Rattle.mac_commands.proofs.CommandsIn.{few_told, is_kept, is_left_out, none_told}
use Rattle.mac_commands.proofs.uplink.read_reported.Goals as goal
use Rattle.mac_commands.proofs.uplink.read_reported.Goals.{then-is_reported+in_ok-put, else-is_reported}

pub loop-front-preserved : goal.loop-front-preserved
loop-front-preserved c =
    let found = c.in-Some.ensures.found in
    let command = front_command c.in-Some.front in
    let told = c.loop-front.told.items in
    let after = c.in-Some.front.rest.now in
    elim c.if-is_reported.branch [
      | then-is_reported+in_ok-put w ↦
          let more = is_kept c.loop-front.rest.now after command found.whole found.spelled (sym c.is_reported.ensures ∙ w.if-is_reported.true) in
          let items : c.if-is_reported.told.items ≡ told ++ command_bytes command = rw w.told-is w.in_ok-put.ensures in
          c.loop-front.invariant
          ∙ (ap (λ (bs : List ℕ). told ++ bs) more ∙ (sym (append_assoc told (command_bytes command) (reported_bytes after)) ∙ ap (λ (bs : List ℕ). bs ++ reported_bytes after) (sym items)))
      | else-is_reported w ↦
          let none = is_left_out c.loop-front.rest.now after command found.whole found.spelled (sym c.is_reported.ensures ∙ w.if-is_reported.false) in
          let items : c.if-is_reported.told.items ≡ told = rw w.told-is refl in
          c.loop-front.invariant ∙ (ap (λ (bs : List ℕ). told ++ bs) none ∙ ap (λ (bs : List ℕ). bs ++ reported_bytes after) (sym items))
    ]

pub unreachable-requires : goal.unreachable-requires
unreachable-requires c =
    let bytes = c.args.bytes.now in
    let told = c.loop-front.told.items in
    omega (arith, few_told bytes, ap length c.loop-front.invariant, length-append told (reported_bytes c.loop-front.rest.now), c.in-Err.ensures, c.requires)

pub returns : goal.returns
returns c =
    let told = c.loop-front.told.items in
    let all : reported_bytes c.args.bytes.now ≡ told =
    c.loop-front.invariant ∙ (ap (λ (more : List ℕ). told ++ more) (none_told c.loop-front.rest.now c.in_default.ensures.none) ∙ append-nil told) in
    c.in-Ok.ensures.1 ∙ sym all
