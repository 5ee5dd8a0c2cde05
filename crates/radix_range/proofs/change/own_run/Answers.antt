use Rattle.std.proofs.Common.{arith}
use Rattle.radix_range.proofs.OwnedRuns.{IsOwnedRun, owned_radix, owned_info, handed_slots}
use Rattle.radix_range.proofs.change.own_run.Goals as goal

pub returns : goal.returns
returns g c =
    let e = c.own_run-run.ensures in
    let run : IsOwnedRun c.args.root.now c.own_run-run.new.self c.args.cursor c.own_run-run.result.width c.args.end c.args.owners.now
    c.own_run-run.result.slots =
    record {
      radix = c.requires.tree;
      low = c.requires.valid.0;
      high = c.requires.valid.1;
      ends = omega (arith, e.fits, c.requires.ordered);
      owned = e.owners;
    } in
    record {
      tree = owned_radix _ _ _ _ _ _ _ run e.level e.whole;
      few = e.few;
      owners = handed_slots _ _ _ _ _ _ _ run;
      info = owned_info _ _ _ _ _ _ _ run;
    }
