use Rattle.std.proofs.Common.{sym, subst}
use Rattle.world.specs.Course.{with_piece}
use Rattle.world.specs.Links.{Completes, heard_on, stream_on}
use Rattle.world.proofs.Piecing.{listens-same, listens-told}
use Rattle.world.proofs.Shapes.{same-life}
use Rattle.world.proofs.Saying.{adds-something, says-more}
use Rattle.world.proofs.life.Life.piece.Goals as goal

pub returns-in-Err-clause-course : goal.returns-in-Err-clause-course
returns-in-Err-clause-course g c origin course f =
    let life = c.args.self.now in
    let wanted = c.in-Err.ensures.wanted in
    let stream = stream_on c.args.link course.pieces in (
      (
        c.in-Err.ensures.refused.0,
        adds-something c.each_stream_says_one_thing.ensures.one stream c.args.bytes.now (heard_on life.links c.args.link) (f.1.said c.args.link) wanted.0 wanted.1,
      ),
      (f.0, listens-same course life.core life.links c.say.new.self f.1 c.in-Err.ensures.refused.1),
    )

pub returns-in-Ok-clause-course : goal.returns-in-Ok-clause-course
returns-in-Ok-clause-course g c origin course f =
    let life = c.args.self.now in
    let link = c.args.link in
    let bytes = c.args.bytes.now in
    let law = c.cuts_make_no_difference.ensures in
    let handed_in = c.in-Ok.handed_in in
    let more = says-more law.rest law.fault course.pieces life.links c.say.new.self link bytes handed_in.events.items handed_in.fault f.1.said c.in-Ok.ensures.said in
    let told = c.go_through-turns.ensures.course origin (with_piece course link bytes)
    (same-life f.0, listens-told course life.core life.links c.say.new.self link bytes f.1 more.1) in
    ((subst (λ l. Completes (stream_on link course.pieces) bytes l handed_in.fault) (sym c.go_through-turns.ensures.events) more.0, told.0), told.1)
