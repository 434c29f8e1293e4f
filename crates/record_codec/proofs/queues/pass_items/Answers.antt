use Rattle.std.proofs.Common.{◌++◌, ◌∷◌, [], arith}
use Rattle.record_codec.specs.Parts.{item_of_part}
use Rattle.record_codec.specs.Reading.{items_at}
use Rattle.record_codec.proofs.Loop.{goes_on, ends, is_done, in_bytes}
use Rattle.record_codec.proofs.queues.pass_items.Goals as goal

pub returns-in-None : goal.returns-in-None
returns-in-None c = ends c.loop.invariant.items c.args.count c.loop.counter c.loop.fields.rest.now (items_at c.args.count c.args.fields.now.rest.now) c.loop-test.true c.in-None.ensures.field c.loop.invariant.so_far

pub loop-preserved : goal.loop-preserved
loop-preserved c =
    let item = item_of_part c.in-Some.field-0 in
    record {
      items = c.loop.invariant.items ++ item ∷ [];
      so_far = goes_on c.loop.invariant.items c.args.count c.loop.counter c.loop.fields.rest.now item c.read_item.new.fields.rest.now (items_at c.args.count c.args.fields.now.rest.now) c.loop-test.true c.in-Some.ensures.field c.loop.invariant.so_far;
    }

pub returns : goal.returns
returns c = in_bytes c.args.count c.args.fields.now.rest.now c.loop.invariant.items c.loop.fields.rest.now (is_done c.loop.invariant.items c.args.count c.loop.counter c.loop.fields.rest.now (items_at c.args.count c.args.fields.now.rest.now) (omega arith) c.loop.invariant.so_far)
