use Rattle.core_steps.proofs.at_once.ChangeAtOnce.{alone_by, page_change}
use Rattle.core_steps.proofs.engine.Engine.change_at_once.Goals as goal

pub refuse_at_once-requires : goal.refuse_at_once-requires
refuse_at_once-requires g c = (
  c.args.change,
  c.in-Some.page,
  page_change c.args.most c.requires.at c.range-range.ensures c.if-range-ne1.false c.in-Some.ensures.some c.in-Err.ensures.refused c.requires.room
      c.if-most-lt-MADE.false,
)

pub make_at_once-requires-clause-change : goal.make_at_once-requires-clause-change
make_at_once-requires-clause-change g c =
    page_change c.args.most c.requires.at c.range-range.ensures c.if-range-ne1.false c.in-Some.ensures.some c.in-Ok.ensures.made c.requires.room
    c.if-most-lt-MADE.false

pub make_at_once-requires-clause-alone : goal.make_at_once-requires-clause-alone
make_at_once-requires-clause-alone g c =
    alone_by c.args.core c.in-Ok.shoot c.without.result c.without.ensures (c.is_empty.ensures.0 c.if-not-is_empty.false)
