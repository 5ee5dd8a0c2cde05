use Rattle.std.proofs.Common.{◌≡◌, ◌≤◌, ◌-◌, ◌++◌, length, take}
use Rattle.std.specs.List.{flat_map}
use Rattle.state_text.specs.Texts.{entry_line}
use Rattle.state_text.proofs.texts.put_entries.Given as goal

abbrev pub invariant-entries : goal.invariant-entries
invariant-entries l = record {
  within : l.at ≤ length l.entries;
  written : l.out.items ≡ l.initial.out.items ++ flat_map (entry_line l.form l.place l.core l.inbox) (take l.at l.entries);
}

abbrev pub decreases-entries : goal.decreases-entries
decreases-entries l = length l.entries - l.at
