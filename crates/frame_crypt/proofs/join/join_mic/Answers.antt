use Rattle.std.proofs.Common.{◌∙◌, ap, take, ℕ, List}
use Rattle.std.proofs.lemmas.List.{append-nil}
use Rattle.aes_cmac.specs.Cmac.{cmac}
use Rattle.frame_crypt.specs.Joins.{join_mic}
use Rattle.frame_crypt.proofs.join.join_mic.Goals as goal

pub returns : goal.returns
unfolding join_mic
returns c =
    c.first_four.ensures
    ∙ ap (λ (mac : List ℕ). take 4 mac) (c.cmac.ensures ∙ ap (cmac c.args.key.now.0) (append-nil c.args.message.now))
