use Rattle.std.proofs.Common.{◌≤◌, ◌-◌}
use Rattle.core_steps.specs.Machine.{state}
use Rattle.state_seen.specs.Lists.{at_page}
use Rattle.state_seen.specs.Used.{used_in}
use Rattle.state_seen.proofs.Walking.{Gathered}
use Rattle.state_seen.proofs.used.gather.Given as goal

abbrev pub invariant-pages : goal.invariant-pages
invariant-pages g l = record {
  low : l.range.first ≤ l.page;
  gathered : Gathered l.range l.page (used_in (state l.machine)) (at_page l.initial.list) (at_page l.list);
}

abbrev pub decreases-pages : goal.decreases-pages
decreases-pages g l = l.range.end - l.page
