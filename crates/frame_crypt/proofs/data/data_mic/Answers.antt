use Rattle.std.proofs.Common.{◌∙◌, ◌++◌, ap, take, ℕ, List}
use Rattle.std.proofs.lemmas.List.{append-nil}
use Rattle.aes_cmac.specs.Cmac.{cmac}
use Rattle.frame_crypt.specs.Frames.{data_mic}
use Rattle.frame_crypt.proofs.data.data_mic.Goals as goal

pub returns : goal.returns
unfolding data_mic
returns c =
    c.first_four.ensures
    ∙ ap (λ (mac : List ℕ). take 4 mac)
    (c.cmac.ensures
    ∙ ap (λ (message : List ℕ). cmac c.args.key.now.0 (c.frame_block-block.result ++ message)) (append-nil c.args.message.now)
    ∙ ap (λ (block : List ℕ). cmac c.args.key.now.0 (block ++ c.args.message.now)) c.frame_block-block.ensures)
