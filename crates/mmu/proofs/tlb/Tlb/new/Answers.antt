use Rattle.std.proofs.Common.{◌≡◌, ℕ, ◌<◌, replicate, refl, sym, subst, arith, true}
use Rattle.vm_base.specs.Cores.{members}
use Rattle.vm_base.proofs.CoreSets.{members-empty}
use Rattle.mmu.specs.Fills.{AreOrdered}
use Rattle.mmu.proofs.Empty.{get_or-replicate_default}
use Rattle.mmu.proofs.Filings.{all_free, all_members, ordered_none, no_sets}
use Rattle.mmu.proofs.tlb.Tlb.new.Goals as goal

are_free : (b : ℕ) → b < 64 → members 18446744073709551615 b ≡ true
are_free b l = all_members (members 18446744073709551615) 64 all_free b l

pub invariant_of-result-clause-counted : goal.invariant_of-result-clause-counted
invariant_of-result-clause-counted c = rw c.new.ensures (omega (arith, all_free))

pub invariant_of-result-clause-ordered : goal.invariant_of-result-clause-ordered
invariant_of-result-clause-ordered c =
    subst (λ fs. AreOrdered fs (replicate 64 0) 18446744073709551615) (sym c.new.ensures) (ordered_none (replicate 64 0) 18446744073709551615 refl are_free)

pub invariant_of-result-clause-filed : goal.invariant_of-result-clause-filed
invariant_of-result-clause-filed c =
    no_sets (replicate 64 0) _ 18446744073709551615 refl refl (get_or-replicate_default 64 0) members-empty are_free
