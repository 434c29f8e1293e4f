use Rattle.std.proofs.Common.{refl, subst, sym}
use Rattle.std.specs.Prelude.{codes}
use Rattle.std.specs.Str.{IsUtf8}
use Rattle.lnsd_operator.specs.Orders.{order_word}
use Rattle.lnsd_operator.specs.declared.orders.Order.{Order}
use Rattle.lnsd_operator.specs.declared.orders.Order.TheVariants.{Stop, Status, Devices, Watch, Reload}
use Rattle.lnsd_threads.proofs.attending.order_of.Goals as goal

is_text : (order : Order) → IsUtf8 (order_word order)
unfolding lib.Utf8.encode
is_text Stop = (codes "stop", (refl, refl))
is_text Status = (codes "status", (refl, refl))
is_text Devices = (codes "devices", (refl, refl))
is_text Watch = (codes "watch", (refl, refl))
is_text Reload = (codes "reload", (refl, refl))

-- bytes that are no text are no word of an order
pub returns-in-Err : goal.returns-in-Err
returns-in-Err c order same = absurd (c.in-Err.ensures.cases.0 (subst IsUtf8 (sym same) (is_text order)))
