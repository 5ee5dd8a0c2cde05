use Rattle.machine_model.proofs.Words.{ap, ◌∙◌, slice_set, length-set}
use Rattle.coded.specs.Logs.{entry_code}
use Rattle.coded.proofs.Listing.{one_more_of, below_both}
use Rattle.coded.proofs.logs.tell_entries.Goals as goal

pub entries-preserved : goal.entries-preserved
entries-preserved c =
    let low = below_both c.entries.at _ _ _ c.min-at-end.ensures c.entries-test.true in
    record {
      told = ap (λ x. slice_set c.entries.told c.entries.at x) c.entry_code.ensures
          ∙ one_more_of (entry_code c.args.requests.now) c.args.log.now c.entries.at c.index-log-at.result c.args.told.now c.entries.told low.0 low.1
          c.index-log-at.is c.entries.invariant.told;
      room = length-set c.entries.told c.entries.at _ ∙ c.entries.invariant.room;
    }
