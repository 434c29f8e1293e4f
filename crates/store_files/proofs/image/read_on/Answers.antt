use Rattle.std.proofs.Common.{◌≡◌, ◌++◌, length, take, drop, rules, subst, sym}
use Rattle.store_files.specs.Images.{AreFirstOf}
use Rattle.store_files.proofs.Fronts.{read_more}
use Rattle.store_files.proofs.image.read_on.Goals as goal

pub returns-clause-front : goal.returns-clause-front
returns-clause-front g c still front =
    let content = g.S.Source.content c.args.source.now in
    let image = c.args.image.now.items in
    let piece = c.in_ok-piece.piece.items in
    let came = c.in_ok-piece.ensures.bytes still in
    let more : piece ≡ take c.args.len (drop (length image) content) = cc (came, c.len.ensures) in
    let items : c.extend_from_slice.new.self.items ≡ image ++ piece = search rules in
    subst (AreFirstOf content) (sym items) (read_more content image piece c.args.len front more c.in_ok-piece.ensures.len)
