use Rattle.std.proofs.Common.{◌-◌, ◌^◌}
use Rattle.slot_lock.specs.MapList.{plain_metas}
use Rattle.slot_lock.proofs.MapLists.{ListsTo}
use Rattle.litmus_merges.specs.Steps.{map_of}
use Rattle.litmus_merges.proofs.mappings.all_lines.Given as goal

-- those so far
abbrev pub invariant-lines : goal.invariant-lines
invariant-lines g l = ListsTo (plain_metas (map_of l.objects l.steps)) l.lines.items l.from

abbrev pub decreases-lines : goal.decreases-lines
decreases-lines g l = 2 ^ 35 - l.from
