use Rattle.std.proofs.Common.{◌-◌, ◌^◌}
use Rattle.slot_lock.specs.MapList.{plain_metas}
use Rattle.slot_lock.proofs.MapWalks.{NoneBelow}
use Rattle.litmus_merges.specs.Steps.{map_of}
use Rattle.litmus_merges.proofs.mappings.first_mapped.Given as goal

-- no page so far is mapped
abbrev pub invariant-pages : goal.invariant-pages
invariant-pages g l = NoneBelow (plain_metas (map_of l.objects l.steps)) l.from l.page

abbrev pub decreases-pages : goal.decreases-pages
decreases-pages g l = 2 ^ 35 - l.page
