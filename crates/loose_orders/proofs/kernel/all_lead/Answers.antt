use Rattle.std.proofs.Common.{Ok, ap, ◌∙◌}
use Rattle.audit.specs.Auditor.{plain_of}
use Rattle.audit.specs.Placing.{rule_of}
use Rattle.loose_orders.proofs.MoveLemmas.{all_moved, moved_on}
use Rattle.loose_orders.proofs.kernel.all_lead.Goals as goal

pub moves-preserved : goal.moves-preserved
moves-preserved g c = record {
  any_place = c.in_ok-goes.ensures.any_place ∙ c.moves.invariant.any_place;
  led = moved_on c.args.auditor.now.any_place c.moves.auditor.any_place c.args.moving c.args.history.now c.args.moves.now (plain_of c.args.auditor.now)
      (plain_of c.moves.auditor) (plain_of c.leads.new.auditor) c.moves.kept.items c.leads.new.kept.items c.moves.at _ c.moves.invariant.any_place
      c.moves-test.true c.moves.invariant.led (c.in_ok-goes.ensures.yes (ap Ok c.if-not-goes.false));
}

pub returns : goal.returns
returns g c = λ e. all_moved (rule_of c.args.auditor.now.any_place) c.args.moving c.args.history.now c.args.moves.now (plain_of c.args.auditor.now)
    (plain_of c.moves.auditor) c.moves.kept.items c.moves.at c.moves-test.false c.moves.invariant.led
