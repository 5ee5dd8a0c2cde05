-- Free runs of slots are the rooms of the plain map
use Rattle.slot_lock.proofs.Words.{◌≡◌, ℕ, ◌+◌, ◌-◌, ◌<◌, ◌≤◌, ◌⊎◌, inl, inr, true, false, Option, Some, None, is_some, refl, ap, arith, IfSome, PageRange}
use Rattle.slot_lock.proofs.Words.{PageInfo, has, pages_from, is_mapped, IsFree, IsRoom, IsLeastRoom, has_in, in_has}
use Rattle.std.specs.Prelude.{IfNone}
use Rattle.slot_lock.specs.Slots.{Slots, IsFreeRun}
use Rattle.vm_calls.specs.Decisions.{HasMapped, entries, entry_of}
use Rattle.vm_calls.proofs.Seeking.{seek}

none-mapped : (o : Option PageInfo) → is_some (entry_of o) ≡ false → o ≡ None
none-mapped None h = refl
none-mapped (Some info) h = absurd cc

pub room-run : (s : Slots) (window : PageRange) (n r : ℕ) → IsRoom (is_mapped (entries s)) window n r → IsFreeRun s window n r
room-run s window n r h = record {
  inside = h.0;
  free = λ p a b. none-mapped (s.info p) (h.1 p (in_has (pages_from r n) p a b));
}

pub run-room : (s : Slots) (window : PageRange) (n r : ℕ) → IsFreeRun s window n r → IsRoom (is_mapped (entries s)) window n r
run-room s window n r h = (
  h.inside,
  λ p in'. let z : (r ≤ p) × (p < r + n) = has_in (pages_from r n) p in' in ap (λ (o : Option PageInfo). is_some (entry_of o)) (h.free p z.0 z.1),
)

pub least-room : (s : Slots) (window : PageRange) (n : ℕ) (o : Option ℕ) → IfSome o (IsFreeRun s window n)
    → IfSome o (λ f. (r : ℕ) → r < f → ¬ IsFreeRun s window n r) → IfNone o ((r : ℕ) → ¬ IsFreeRun s window n r)
    → IsLeastRoom (is_mapped (entries s)) window n o
least-room s window n None found least none = λ r room. none r (room-run s window n r room)
least-room s window n (Some f) found least none = (run-room s window n f found, λ r lt room. least r lt (room-run s window n r room))

-- as many unmapped pages as the range has are all of its pages
pub free-range : (s : Slots) (range : PageRange) (start : ℕ) → range.first < range.end → IsFreeRun s range (range.end - range.first) start
    → IsFree (is_mapped (entries s)) range
free-range s range start some h = λ p in'.
    let z : (range.first ≤ p) × (p < range.end) = has_in range p in' in
    let free : s.info p ≡ None = h.free p (omega (arith, some, h.inside.low, h.inside.high, z.0)) (omega (arith, some, h.inside.low, h.inside.high, z.1)) in
    ap (λ (o : Option PageInfo). is_some (entry_of o)) free

-- where there is no such run some page is mapped
pub taken-range : (s : Slots) (range : PageRange) → range.first < range.end → ((r : ℕ) → ¬ IsFreeRun s range (range.end - range.first) r)
    → HasMapped (entries s) range
taken-range s range some h = by (seek is_some (entries s) range)
  where
    by : HasMapped (entries s) range ⊎ ((p : ℕ) → has range p ≡ true → is_some (entries s p) ≡ false) → HasMapped (entries s) range
    by (inl found) = found
    by (inr none) = absurd (h range.first (record {
      inside = record { low = omega arith; high = omega (arith, some) };
      free = λ p a b. none-mapped (s.info p) (none p (in_has range p a (omega (arith, some, b))));
    }))
