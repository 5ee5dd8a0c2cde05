use Rattle.std.proofs.Common.{◌-◌, ◌^◌}
use Rattle.slot_lock.specs.MapList.{plain_metas}
use Rattle.slot_lock.specs.MapWalks.{IsRun}
use Rattle.litmus_merges.specs.Steps.{map_of}
use Rattle.litmus_merges.proofs.mappings.line_end.Given as goal

-- those so far go on from the first
abbrev pub invariant-pages : goal.invariant-pages
invariant-pages g l = IsRun (plain_metas (map_of l.objects l.steps)) l.first l.meta l.end

abbrev pub decreases-pages : goal.decreases-pages
decreases-pages g l = 2 ^ 35 - l.end
