use Rattle.std.proofs.Common.{◌≡◌, ◌∙◌, ◌+◌, Bool, List, ap, arith, false, get_or, length, refl, subst, sym, true, ℕ}
use Rattle.orders.specs.Once.{IsMarked}
use Rattle.orders.proofs.Lists.{get_here}
use Rattle.orders.proofs.OnceLemmas.{all_marks, mark_none, marks_all, marks_step, none_marked, unmarked}
use Rattle.orders.proofs.timing.each_once.Goals as goal

pub order-init : goal.order-init
order-init c = none_marked (length c.args.marks.now) c.args.items.now c.args.marks.now refl
    (λ (i : ℕ). ap (λ (marks : List Bool). get_or marks i false) c.requires ∙ unmarked (length c.args.marks.now) i)

pub order-preserved : goal.order-preserved
order-preserved c =
    subst (IsMarked (length c.args.marks.now) c.args.items.now (c.order.at + 1)) (sym ((c.if-not-mark.ensures {u = tt}).marks refl))
    (marks_step (length c.args.marks.now) c.args.items.now c.order.at _ c.order.marks
    (get_here c.args.items.now c.order.at _ c.order-test.true) (sym (c.if-not-mark.ensures {u = tt}).may) c.order.invariant)

pub returns-then-not-mark : goal.returns-then-not-mark
returns-then-not-mark c = (
  (λ h. let wrong : false ≡ true = h in absurd cc),
  (λ e. absurd (mark_none (length c.args.marks.now) c.args.items.now c.order.at _ c.order.marks
      (get_here c.args.items.now c.order.at _ c.order-test.true) (sym (c.if-not-mark.ensures {u = tt}).may)
      c.order.invariant e)),
)

pub returns : goal.returns
returns c =
    let end = c.order-test.false in (
      (λ h. marks_all (length c.args.marks.now) c.args.items.now c.order.at c.order.marks (omega (arith, end)) c.order.invariant
          (c.all_marked.ensures.0 h)),
      (λ e. c.all_marked.ensures.1
          (all_marks (length c.args.marks.now) c.args.items.now c.order.at c.order.marks (omega (arith, end)) c.order.invariant e)),
    )
