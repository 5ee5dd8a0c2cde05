use Rattle.std.proofs.Common.{◌≡◌, ◌++◌}
use Rattle.core_steps.specs.Machine.{state}
use Rattle.state_seen.specs.PageTexts.{texts_below}
use Rattle.state_text.specs.Counts.{core_counts}
use Rattle.state_text.proofs.counts.put_cores.Given as goal

abbrev pub invariant-cores : goal.invariant-cores
invariant-cores g l = record {
  written : l.out.items ≡ l.initial.out.items ++ texts_below (core_counts l.form (state l.machine)) l.core;
}
