use Rattle.std.specs.Prelude.{None}
use Rattle.radix_node.specs.declared.edit.Edit.TheVariants.{Put}
use Rattle.radix_node.specs.Node.{runs}
use Rattle.radix_node.proofs.Pages.{PagesEdited}
use Rattle.radix_node.proofs.node.Node.clear_pages.Given as goal

abbrev pub invariant-pages : goal.invariant-pages
invariant-pages g l =
    PagesEdited l.fn.self.level (runs l.fn.self) l.slots l.first l.end 0 (Put None) l.k
