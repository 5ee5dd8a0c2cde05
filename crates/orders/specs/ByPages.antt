-- Orders in which each page of a range changes at a moment of its own: each call on a range that was done is replaced by one call for each
-- of its pages, with the same begin and end. Beside an mprotect of several pages that was refused such calls stand, too, and each of them
-- may have taken effect or not.
use Rattle.std.specs.Prelude.{List}
use Rattle.vm_base.specs.Places.{PlaceRule}
use Rattle.vm_base.specs.Plain.{Plain}
use Rattle.orders.specs.declared.history.Timed.{Timed}
use Rattle.orders.specs.Orders.{HasOrder}
use Rattle.orders.specs.Pages.{AreChosen, parts_from}
use Rattle.orders.specs.declared.splitting.Part.{Part}

-- The calls of the parts have an order, whichever of those that may not have taken effect did.
pub record HasOrderAmong (rule : PlaceRule) (t : Plain) (parts : List Part) : Type 0 where
  pub calls : List Timed
  pub chosen : AreChosen parts calls
  pub order : HasOrder rule t calls

-- A history has an order by pages.
abbrev pub HasOrderByPages : PlaceRule → Plain → List Timed → Type 0
HasOrderByPages rule t h = HasOrderAmong rule t (parts_from 0 h)
