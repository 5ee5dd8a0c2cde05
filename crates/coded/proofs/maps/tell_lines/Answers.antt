use Rattle.machine_model.proofs.Words.{ap, ◌∙◌, slice_set, length-set}
use Rattle.coded.specs.Maps.{line_code}
use Rattle.coded.proofs.Listing.{one_more, below_both}
use Rattle.coded.proofs.maps.tell_lines.Goals as goal

pub lines-preserved : goal.lines-preserved
lines-preserved c =
    let low = below_both c.lines.at _ _ _ c.min-at-end.ensures c.lines-test.true in
    record {
      told = ap (λ x. slice_set c.lines.told c.lines.at x) c.line_code.ensures
          ∙ one_more line_code c.args.lines.now c.lines.at _ c.args.told.now c.lines.told low.0 low.1 c.lines.invariant.told;
      room = length-set c.lines.told c.lines.at _ ∙ c.lines.invariant.room;
    }
