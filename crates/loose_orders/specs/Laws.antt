-- A law of orders by the kernels' rule
use Rattle.std.specs.Prelude.{Bool, List}
use Rattle.vm_base.specs.Plain.{Plain}
use Rattle.audit.specs.Placing.{rule_of}
use Rattle.orders.specs.declared.history.Timed.{Timed}
use Rattle.orders.specs.Orders.{HasOrder}
use Rattle.loose_orders.specs.Kernel.{HasKernelOrder}

-- calls that have an order have one by the kernels' rule, whether threads move or not
abbrev pub OrdersKeepTheRule : Type 0
OrdersKeepTheRule = (any_place moving : Bool) (t : Plain) (h : List Timed) → HasOrder (rule_of any_place) t h → HasKernelOrder (rule_of any_place) moving t h
