use Rattle.std.proofs.Common.{◌≡◌, map, take}
use Rattle.lw_types.specs.Hex.{eui_text}
use Rattle.command_words.proofs.asked.euis_of.Given as goal

abbrev pub invariant-loop-text : goal.invariant-loop-text
invariant-loop-text l = map eui_text l.euis.items ≡ map (λ t. t.now) (take l.text-index l.texts)
