-- The orders of operators.
use Rattle.std.specs.Prelude.{ℕ, List, codes}
use Rattle.lnsd_operator.specs.declared.orders.Order.{Order}
use Rattle.lnsd_operator.specs.declared.orders.Order.TheVariants as orders

-- the word of an order
abbrev pub order_word : Order → List ℕ
order_word orders.Stop = codes "stop"
order_word orders.Status = codes "status"
order_word orders.Devices = codes "devices"
order_word orders.Watch = codes "watch"
order_word orders.Reload = codes "reload"
