use Rattle.std.proofs.Common.{rules}
use Rattle.seats.specs.Packing.{shown}
use Rattle.live_script.proofs.CallLemmas.{all_calls, more_calls}
use Rattle.live_script.proofs.calls.history_of.Goals as goal

pub seats-preserved : goal.seats-preserved
seats-preserved g c =
    more_calls shown c.args.seats.now c.seats.at c.index-seats-at.result c.seats.calls.items _ c.seats-test.true c.index-seats-at.is c.seats.invariant
    c.in_ok-add_calls.ensures

pub returns : goal.returns
returns g c = all_calls shown c.args.seats.now c.seats.at _ (search rules) c.seats.invariant
