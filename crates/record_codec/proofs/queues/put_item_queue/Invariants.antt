use Rattle.std.proofs.Common.{◌≡◌, ◌∷◌, ◌++◌, length, take}
use Rattle.std.specs.List.{flat_map, AllByRecursion}
use Rattle.record_codec.specs.DeviceRecord.{item, IsItem}
use Rattle.record_codec.proofs.queues.put_item_queue.Given as goal

abbrev pub invariant-loop-item : goal.invariant-loop-item
invariant-loop-item l = record {
  written : l.out.items ≡ l.fn.out.items ++ length l.items ∷ flat_map item (take l.item-index l.items);
  in_range : AllByRecursion IsItem (take l.item-index l.items);
}
