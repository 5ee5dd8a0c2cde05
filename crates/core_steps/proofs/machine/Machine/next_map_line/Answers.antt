use Rattle.core_steps.proofs.MapLines.{line_start, next_map, no_map}
use Rattle.core_steps.proofs.Reached.{legal}
use Rattle.core_steps.proofs.machine.Machine.next_map_line.Goals as goal

pub next_line-requires-clause-laws : goal.next_line-requires-clause-laws
next_line-requires-clause-laws g c = g.met.M.SlotMap.is_slot_map c.args.self.now.engine.map

pub next_line-requires-clause-begins : goal.next_line-requires-clause-begins
next_line-requires-clause-begins g c =
    line_start _ c.args.self.now.reached (g.met.M.SlotMap.is_slot_map c.args.self.now.engine.map) c.args.from c.requires.begins

pub returns-clause-some : goal.returns-clause-some
returns-clause-some g c = next_map _ c.args.self.now.reached c.args.from c.next_line.result c.next_line.ensures.some

pub returns-clause-none : goal.returns-clause-none
returns-clause-none g c = no_map _ c.args.self.now.reached c.args.from c.next_line.result c.next_line.ensures.none

pub returns-clause-legal : goal.returns-clause-legal
returns-clause-legal g c = legal _ c.args.self.now.reached
