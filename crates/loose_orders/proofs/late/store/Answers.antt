use Rattle.std.proofs.Common.{ap, arith, ◌∙◌}
use Rattle.loose_orders.specs.Kept.{kept_stored}
use Rattle.loose_orders.proofs.KeptLemmas.{all_mapped, mapped_on}
use Rattle.loose_orders.proofs.late.store.Goals as goal

pub kept-preserved : goal.kept-preserved
kept-preserved g c = mapped_on (kept_stored c.args.call c.args.page c.args.offset c.args.byte) c.args.kept.now.items c.kept.kept.items c.kept.at
    c.index-one.result.now c.kept_stored.result (omega (arith, c.kept-test.true, c.len-at-end.ensures)) c.kept.invariant
    (c.kept_stored.ensures ∙ ap (kept_stored c.args.call c.args.page c.args.offset c.args.byte) c.index-one.ensures)

pub returns : goal.returns
returns g c = all_mapped (kept_stored c.args.call c.args.page c.args.offset c.args.byte) c.args.kept.now.items c.kept.kept.items c.kept.at
    (omega (arith, c.kept-test.false, c.len-at-end.ensures)) c.kept.invariant
