use Rattle.std.proofs.Common.{◌≡◌, ◌≤◌, ◌-◌, ◌++◌, length, drop, take}
use Rattle.import_forms.specs.Stamps.{front_figures, past_figures}
use Rattle.import_forms.proofs.stamps.figure_count.Given as goal

abbrev pub invariant-bytes : goal.invariant-bytes
invariant-bytes l = record {
  within : l.count ≤ length l.bytes;
  front : take l.count l.bytes ++ front_figures (drop l.count l.bytes) ≡ front_figures l.bytes;
  rest : past_figures (drop l.count l.bytes) ≡ past_figures l.bytes;
}

abbrev pub decreases-bytes : goal.decreases-bytes
decreases-bytes l = length l.bytes - l.count
