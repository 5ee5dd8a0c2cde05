use Rattle.std.proofs.Common.{◌-◌, ◌≤◌}
use Rattle.vm_base.specs.Apply.{is_read_only}
use Rattle.litmus_merges.specs.Steps.{map_of}
use Rattle.litmus_merges.proofs.Pages.{NoneBefore}
use Rattle.litmus_merges.proofs.protecting.has_read_only.Given as goal

-- none so far is a shared one of a file for reading alone
abbrev pub invariant-pages : goal.invariant-pages
invariant-pages g l = record {
  low : l.range.first ≤ l.page;
  none : NoneBefore (is_read_only (map_of l.objects l.steps).file) (map_of l.objects l.steps).entry l.range l.page;
}

abbrev pub decreases-pages : goal.decreases-pages
decreases-pages g l = l.range.end - l.page
