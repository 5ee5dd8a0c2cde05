use Rattle.core_steps.proofs.MapLines.{lists_maps, some_map}
use Rattle.core_steps.proofs.Reached.{legal}
use Rattle.core_steps.proofs.machine.Machine.plain_maps.Goals as goal

pub all_lines-requires-clause-laws : goal.all_lines-requires-clause-laws
all_lines-requires-clause-laws g c = g.met.M.SlotMap.is_slot_map c.args.self.now.engine.map

pub returns-clause-lines : goal.returns-clause-lines
returns-clause-lines g c = lists_maps _ c.args.self.now.reached c.all_lines.result c.all_lines.ensures.lines

pub returns-clause-err_only : goal.returns-clause-err_only
returns-clause-err_only g c = some_map _ c.args.self.now.reached c.all_lines.result c.all_lines.ensures.err_only

pub returns-clause-legal : goal.returns-clause-legal
returns-clause-legal g c = legal _ c.args.self.now.reached
