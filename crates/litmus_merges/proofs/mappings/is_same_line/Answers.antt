-- is_same_line
use Rattle.std.proofs.Common.{ap}
use Rattle.slot_lock.specs.declared.map_list.MapLine.{MapLine}
use Rattle.slot_lock.specs.MapList.{line_meta}
use Rattle.litmus_merges.proofs.Mapped.{same_line}
use Rattle.litmus_merges.proofs.mappings.is_same_line.Goals as goal

pub returns : goal.returns
returns c = (
  (λ t. let same = c.has_same_parts-same.ensures.0 t in same_line c.args.one c.args.other same.0 same.1),
  (λ e. c.has_same_parts-same.ensures.1 (ap (λ (l : MapLine). l.range) e, ap line_meta e)),
)
