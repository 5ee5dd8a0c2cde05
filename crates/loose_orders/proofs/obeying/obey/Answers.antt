use Rattle.std.proofs.Common.{List, Ok, ap, length, subst, ◌∙◌}
use Rattle.orders.specs.declared.history.Item.{Item}
use Rattle.orders.specs.Orders.{EachOnce, KeepsTime}
use Rattle.loose_orders.proofs.obeying.obey.Goals as goal

pub returns : goal.returns
returns g c = λ e.
    let led = c.in_ok-goes.ensures e in
    let same = c.as_slice-items.ensures.value ∙ c.in_ok-all.ensures in
    record {
      each_once = subst (λ (xs : List Item). EachOnce (length c.args.history.now) xs) same (c.in_ok-once.ensures (ap Ok c.if-not-once.false));
      keeps_time = subst (λ (xs : List Item). KeepsTime c.args.history.now xs) same (c.keeps_time.ensures.0 c.if-not-keeps_time.false);
      last = led.0;
      lead = led.1;
    }
