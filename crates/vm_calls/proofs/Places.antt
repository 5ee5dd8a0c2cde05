-- Two maps with the same mapped pages in a range have the same rooms there
use Rattle.slot_lock.proofs.Words.{◌≡◌, ℕ, ◌+◌, ◌<◌, ◌≤◌, Bool, true, Option, Some, None, sym, ◌∙◌, arith, PageRange, has, pages_from, IsFree, IsRoom}
use Rattle.slot_lock.proofs.Words.{IsLeastRoom, has_in, in_has}

-- the same pages of the range are mapped
abbrev pub Alike : (ℕ → Bool) → (ℕ → Bool) → PageRange → Type 0
Alike m o r = (p : ℕ) → has r p ≡ true → m p ≡ o p

other-way : (m o : ℕ → Bool) (r : PageRange) → Alike m o r → Alike o m r
other-way m o r same p h = sym (same p h)

pub free-alike : (m o : ℕ → Bool) (r : PageRange) → Alike m o r → IsFree m r → IsFree o r
free-alike m o r same free p h = sym (same p h) ∙ free p h

room-alike : (m o : ℕ → Bool) (window : PageRange) (n s : ℕ) → Alike m o window → IsRoom m window n s → IsRoom o window n s
room-alike m o window n s same room = (
  room.0,
  free-alike m o (pages_from s n) (λ p h. let z : (s ≤ p) × (p < s + n) = has_in (pages_from s n) p h in
      same p (in_has window p (omega (arith, room.0.low, z.0)) (omega (arith, room.0.high, z.1)))) room.1,
)

pub least-alike : (m o : ℕ → Bool) (window : PageRange) (n : ℕ) (found : Option ℕ) → Alike m o window
    → IsLeastRoom m window n found → IsLeastRoom o window n found
least-alike m o window n None same none = λ s room. none s (room-alike o m window n s (other-way m o window same) room)
least-alike m o window n (Some s) same least =
    (room-alike m o window n s same least.0, λ r lt room. least.1 r lt (room-alike o m window n r (other-way m o window same) room))
