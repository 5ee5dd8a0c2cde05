use Rattle.std.proofs.Common.{ap, sym, ◌∙◌}
use Rattle.frames.specs.Bits.{bit_in}
use Rattle.frames.proofs.Counted.{summed-empty}
use Rattle.frames.proofs.free_set.FreeSet.least.Goals as goal

pub returns-in_default-clause-none : goal.returns-in_default-clause-none
returns-in_default-clause-none g c k =
    sym (ap (λ v. bit_in v.words k) c.self.view_is) ∙ summed-empty c.self.inside.words.items c.self.inside.summary c.self.invariant.summed
    c.in_default.ensures.none k
