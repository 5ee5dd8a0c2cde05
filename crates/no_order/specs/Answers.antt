-- What a search of all orders tells
use Rattle.std.specs.Prelude.{List}
use Rattle.vm_base.specs.Places.{PlaceRule}
use Rattle.vm_base.specs.Plain.{Plain}
use Rattle.orders.specs.declared.history.Item.{Item}
use Rattle.orders.specs.declared.history.Timed.{Timed}
use Rattle.orders.specs.Orders.{HasOrder}
use Rattle.no_order.specs.Beginnings.{NoneBegins}
use Rattle.no_order.specs.declared.searching.Answer.{Answer}
use Rattle.no_order.specs.declared.searching.Answer.TheVariants.{NoOrder, Order, Limit}

-- Whether the calls have an order. At a limit nothing is told.
abbrev pub IsAnswer : PlaceRule → Plain → List Timed → Answer → Type 0
IsAnswer rule t h NoOrder = ¬ HasOrder rule t h
IsAnswer rule t h Order = HasOrder rule t h
IsAnswer rule t h Limit = Unit {0}

-- the same of the orders that begin with these items
abbrev pub IsAnswerBehind : PlaceRule → Plain → List Timed → List Item → Answer → Type 0
IsAnswerBehind rule t h items NoOrder = NoneBegins rule t h items
IsAnswerBehind rule t h items Order = HasOrder rule t h
IsAnswerBehind rule t h items Limit = Unit {0}
