use Rattle.std.proofs.Common.{◌-◌}
use Rattle.radix_node.specs.Run.{width_of}
use Rattle.radix_node.specs.Node.{flatten}
use Rattle.radix_node.specs.Slots.{parts_of}
use Rattle.radix_node.proofs.Surveys.{PagesSurveyed}
use Rattle.radix_node.proofs.node.Node.survey_pages.Given as goal

abbrev pub invariant-pages : goal.invariant-pages
invariant-pages g l =
    PagesSurveyed (flatten (width_of l.self-inside.level) (parts_of l.self-inside.slots.items)) l.first l.end l.k
    (record { slots = l.k - l.first; cores = l.cores; gap = l.gap; framed = l.framed; shared = l.shared })
