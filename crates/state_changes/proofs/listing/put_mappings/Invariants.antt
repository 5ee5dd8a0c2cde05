use Rattle.std.proofs.Common.{◌≡◌, ◌≤◌, ◌-◌, ◌++◌, length, take}
use Rattle.std.specs.List.{flat_map}
use Rattle.trace_text.specs.Listing.{mapping_text}
use Rattle.state_changes.proofs.listing.put_mappings.Given as goal

abbrev pub invariant-lines : goal.invariant-lines
invariant-lines l = record {
  within : l.at ≤ length l.lines;
  written : l.out.items ≡ l.initial.out.items ++ flat_map mapping_text (take l.at l.lines);
}

abbrev pub decreases-lines : goal.decreases-lines
decreases-lines l = length l.lines - l.at
