use Rattle.std.proofs.Common.{◌≡◌, ℕ, ◌<◌, get_or}
use Rattle.vm_base.specs.Functions.{over, has}
use Rattle.mmu.proofs.level.erase.Given as goal

abbrev pub invariant-pages : goal.invariant-pages
invariant-pages l =
    (l.fn.range.end < l.page → l.page ≡ l.fn.range.first)
    × ((q : ℕ) → get_or l.words q 0 ≡ over (λ p. get_or l.fn.words p 0)
    (has (record { first = l.fn.range.first; end = l.page })) 0 q)
