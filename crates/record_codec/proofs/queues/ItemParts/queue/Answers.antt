use Rattle.std.proofs.Common.{◌∷◌, [], arith}
use Rattle.std.proofs.lemmas.List.{length-append}
use Rattle.record_codec.specs.Parts.{item_of_part}
use Rattle.record_codec.specs.Reading.{items_at}
use Rattle.record_codec.proofs.Loop.{goes_on, ends, is_done, is_in_bytes, not_there}
use Rattle.record_codec.proofs.queues.ItemParts.queue.Goals as goal

pub unreachable-requires : goal.unreachable-requires
unreachable-requires c =
    let parts = c.args.self in
    not_there (items_at parts.count parts.bytes.now) (ends c.loop.queue parts.count c.loop.counter c.loop.fields.rest.now (items_at parts.count parts.bytes.now) c.loop-test.true c.in-None.ensures.field c.loop.invariant.so_far) c.requires.there

pub loop-preserved : goal.loop-preserved
loop-preserved c =
    let parts = c.args.self in
    let item = item_of_part c.in-Some.part in
    let few = c.loop.invariant.few in
    rw (c.in_ok-push-in-Some.ensures.ok, c.in_ok-item-in-Some.ensures) (
    record {
      so_far = goes_on c.loop.queue parts.count c.loop.counter c.loop.fields.rest.now item c.read_item.new.fields.rest.now (items_at parts.count parts.bytes.now) c.loop-test.true c.in-Some.ensures.field c.loop.invariant.so_far;
      few = omega (arith, length-append c.loop.queue (item ∷ []));
    }
    )

pub returns : goal.returns
returns c =
    let parts = c.args.self in
    is_in_bytes parts.count parts.bytes.now c.loop.queue c.loop.fields.rest.now (is_done c.loop.queue parts.count c.loop.counter c.loop.fields.rest.now (items_at parts.count parts.bytes.now) (omega arith) c.loop.invariant.so_far)
