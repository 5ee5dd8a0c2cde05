use Rattle.std.proofs.Common.{◌*◌}
use Rattle.slot_lock.specs.Slots.{between}
use Rattle.slot_lock.specs.Surveys.{IsSurvey}
use Rattle.radix_node.specs.Run.{width_of}
use Rattle.radix_node.specs.Node.{flatten}
use Rattle.radix_node.specs.Slots.{parts_of}
use Rattle.radix_node.specs.Survey.{slots_in}
use Rattle.radix_node.proofs.Walks.{Along, reach}
use Rattle.radix_node.proofs.node.Node.+survey.Given as goal

abbrev pub invariant-slots : goal.invariant-slots
invariant-slots g l =
    Along l.self-inside.level l.first l.end l.k l.k-end l.width
    × IsSurvey (slots_in (flatten (width_of l.self-inside.level) (parts_of l.self-inside.slots.items)))
    (between l.first (reach l.first l.end (l.k * width_of l.self-inside.level))) l.found
