use Rattle.std.proofs.Common.{◌∙◌}
use Rattle.world.specs.Links.{stream_on}
use Rattle.world_model.proofs.Reading.{read_anew}
use Rattle.world_model.proofs.streams.completed.Goals as goal

pub returns : goal.returns
returns c =
    read_anew c.cuts_make_no_difference.ensures.pieces c.new-feeder.result c.feed.new.self c.feed-2.new.self (stream_on c.args.link c.args.pieces.now)
    c.deref.result.now c.args.piece.now c.in_ok-feed.field-0.messages.items c.in_ok-messages.field-0.messages.items c.peer-peer.result
    c.in_ok-events_of.field-0.items c.in_ok-messages.field-0.fault c.new-feeder.ensures (c.deref.ensures.value ∙ c.in_ok-stream.ensures)
    c.in_ok-feed.ensures.fed.0 c.in_ok-messages.ensures.fed.0 c.peer-peer.ensures c.in_ok-events_of.ensures.events c.in_ok-messages.ensures.fed.1
