use Rattle.std.proofs.Common.{◌≡◌, ◌++◌, drop}
use Rattle.std.specs.List.{flat_map}
use Rattle.litmus_report.specs.Witness.{part_text}
use Rattle.litmus_report.proofs.witness.add_parts.Given as goal

-- those so far, and those that are left, are all
abbrev pub invariant-loop-part : goal.invariant-loop-part
invariant-loop-part g l = l.out.items ++ flat_map part_text (drop l.part-index l.parts) ≡ l.fn.out.items ++ flat_map part_text l.parts
