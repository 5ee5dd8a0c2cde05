use Rattle.std.proofs.Common.{◌≡◌, ◌+◌, ◌-◌, get_or, refl, sym, ap, arith}
use Rattle.radix_node.specs.declared.edit.Edit.TheVariants.{Protect}
use Rattle.radix_node.specs.declared.node.Slot.TheVariants.{Own}
use Rattle.radix_node.specs.Node.{Parts, runs}
use Rattle.radix_node.proofs.Flat.{child_level}
use Rattle.radix_node.proofs.Pages.{page_more, pages_written}
use Rattle.radix_node.proofs.Written.{node_written}
use Rattle.radix_node.proofs.node.Node.protect_pages.Goals as goal

pub invariant_of-self : goal.invariant_of-self
invariant_of-self g c =
    node_written c.self.inside.slots c.pages.slots (ap (λ (v : Parts). v.level) c.self.view_is) c.self.invariant c.pages.invariant.node

pub bounds-slots-k : goal.bounds-slots-k
bounds-slots-k g c = let full = c.pages.invariant.node.full in omega (arith, full, c.requires.within, c.pages-test.true)

pub unreachable-requires : goal.unreachable-requires
unreachable-requires g c =
    let lower = child_level c.index-slots-k.result c.in-Child.field-0 _ c.pages.invariant.node (omega (arith, c.requires.within, c.pages-test.true))
    (sym c.in-Child.is) refl in
    omega (arith, lower, c.requires.level)

pub pages-preserved : goal.pages-preserved
pages-preserved g c =
    let is : Own c.in-Own.state ≡ get_or c.pages.slots c.pages.k c.index-slots-k.result = sym c.in-Own.is in
    page_more c.index-slots-k.result c.in-Own.state c.protect.new.self (runs c.args.self.now) c.args.first c.args.end 0
    (0 + (c.pages.k - c.args.first)) (Protect c.args.prot) c.requires.level c.pages-test.true c.requires.within tt is refl
    c.protect.ensures c.pages.invariant

pub returns : goal.returns
returns g c =
    pages_written c.self.inside.slots c.pages.slots c.args.self.now c.args.first c.args.end 0 (Protect c.args.prot)
    (ap (λ (v : Parts). v.level) c.self.view_is) c.self.invariant c.requires.level c.pages-test.false c.pages.invariant
