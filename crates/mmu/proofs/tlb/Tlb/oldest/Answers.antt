use Rattle.std.proofs.Common.{◌≡◌, ◌≤◌, slice_index, ap, ◌∙◌, arith}
use Rattle.std.proofs.lemmas.Bool.Decides.{nat_tests}
use Rattle.mmu.proofs.Orders.{none_more}
use Rattle.mmu.proofs.tlb.Tlb.oldest.Goals as goal

pub gone-preserved : goal.gone-preserved
gone-preserved c =
    let fs = c.args.self.now.fills.items in
    let is : c.from.result ≡ slice_index fs c.gone.i = c.from.ensures ∙ ap (λ xs. slice_index xs c.gone.i) c.deref.ensures.0 in
    let past : 64 ≤ slice_index fs c.gone.i = grind (arith, nat_tests) in
    none_more fs c.gone.i c.gone.invariant past

pub returns-then-from-lt-PLACES-clause-place : goal.returns-then-from-lt-PLACES-clause-place
returns-then-from-lt-PLACES-clause-place c = λ _.
    let fs = c.args.self.now.fills.items in
    let is : c.from.result ≡ slice_index fs c.gone.i = c.from.ensures ∙ ap (λ xs. slice_index xs c.gone.i) c.deref.ensures.0 in
    grind (arith, nat_tests)
