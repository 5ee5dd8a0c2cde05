use Rattle.std.proofs.Common.{◌≡◌, ◌≤◌, ◌-◌, ◌++◌, length, take}
use Rattle.std.specs.List.{flat_map}
use Rattle.state_text.specs.Texts.{table_entry}
use Rattle.state_text.proofs.texts.put_listed.Given as goal

abbrev pub invariant-listed : goal.invariant-listed
invariant-listed l = record {
  within : l.at ≤ length l.entries;
  written : l.out.items ≡ l.initial.out.items ++ flat_map (table_entry l.form l.core l.inbox) (take l.at l.entries);
}

abbrev pub decreases-listed : goal.decreases-listed
decreases-listed l = length l.entries - l.at
