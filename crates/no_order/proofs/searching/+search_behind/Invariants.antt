use Rattle.std.proofs.Common.{◌<◌, ◌++◌, [], ◌∷◌, length}
use Rattle.vm_base.specs.Plain.{nothing_mapped}
use Rattle.frames.specs.Given.{given_files}
use Rattle.audit.specs.Placing.{rule_of}
use Rattle.orders.specs.Orders.{call_of}
use Rattle.orders.specs.declared.history.Item.{Item}
use Rattle.no_order.specs.Beginnings.{NoneBegins, number_of}
use Rattle.no_order.proofs.searching.+search_behind.Given as goal

abbrev pub decreases-search_behind : goal.decreases-search_behind
decreases-search_behind g l = l.depth

-- no order begins with one of the items so far behind these
abbrev pub invariant-items : goal.invariant-items
invariant-items g l = (item : Item) → call_of item < length l.history → number_of (length l.history) item < l.number
    → NoneBegins (rule_of l.any_place) (nothing_mapped (given_files l.files)) l.history (l.items ++ item ∷ [])
