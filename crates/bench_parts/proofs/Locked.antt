-- What a core holds that has locked one slot of one page
use Rattle.std.proofs.Common.{◌≡◌, ℕ, ◌+◌, ◌<◌, ◌≤◌, true, cond, Some, ap, arith}
use Rattle.vm_base.specs.Functions.{has}
use Rattle.vm_base.specs.Pages.{IsPage}
use Rattle.vm_base.proofs.Functions.{in_has}
use Rattle.slot_lock.specs.declared.slot_map.SlotRun.{SlotRun}
use Rattle.slot_lock.specs.Slots.{Slots, IsHeld, Locks, between}
use Rattle.slot_lock.specs.SlotRuns.{LocksRun, OneByOne}

pub locked : (s t : Slots) (core page a b : ℕ) → IsPage page → a ≡ page → Locks s t core a (page + 1) b → IsHeld t core (between page (page + 1))
locked s t core page a b (low, high) first l =
    let above : a < b = l.slot.ordered in
    let by : b ≤ page + 1 = l.by_end in
    let end : b ≡ page + 1 = omega (arith, first, above, by) in
    rw l.now (record {
      pages = record { some = omega arith; low = low; high = omega (arith, high) };
      cut = record { begins = rw first at l.slot.begins; ends = rw end at l.slot.ends };
      held = λ p after before.
          let inside : has (between a b) p ≡ true = in_has (between a b) p (omega (arith, first, after)) (omega (arith, end, before)) in
          ap (λ x. cond x (Some core) (s.owner p)) inside;
    })

pub one_locked : (s t : Slots) (core page : ℕ) (run : SlotRun) → IsPage page → LocksRun s t core page (page + 1) run
    → run.slots ≡ 1 → IsHeld t core (between page (page + 1))
one_locked s t core page run valid locks one = go run.upto (rw one at locks)
  where
    go : (upto : ℕ) → OneByOne (λ x y a b. Locks x y core a (page + 1) b) s t page 1 upto → IsHeld t core (between page (page + 1))
    go upto (m, (b, (same, at), l)) = locked m t core page b upto valid at l
