-- What each slot map does by its other calls
use Rattle.slot_lock.proofs.Words.{◌≡◌, ℕ, ◌↔◌, Bool, true, false, not, Option, Some, None, is_some, refl, sym, ◌∙◌, ap, arith, PageRange, has, has_in}
use Rattle.slot_lock.proofs.Words.{in_has}
use Rattle.std.proofs.Common.{IsTrue}
use Rattle.std.proofs.Common.{IfSome, IfNone}
use Rattle.slot_lock.specs.Slots.{Slots, AllMapped, IsFreeRun}
use Rattle.slot_lock.proofs.Facts.{two, none_of, no_some}

-- ---- all pages are mapped where there is no room for one

true_or : (b : Bool) → (b ≡ false → ⊥) → b ≡ true
true_or true h = refl
true_or false h = absurd (h refl)

room_for_one : (s : Slots) (range : PageRange) (p : ℕ) → has range p ≡ true → s.info p ≡ None → IsFreeRun s range 1 p
room_for_one s range p h e =
    let b = has_in range p h in
    record {
      inside = record { low = b.0; high = omega (arith, b.1) };
      free = λ q a c. let same : q ≡ p = omega (arith, a, c) in ap s.info same ∙ e;
    }

not_mapped : (s : Slots) (range : PageRange) (r : ℕ) → IsFreeRun s range 1 r → ¬ AllMapped s range
not_mapped s range r free all =
    no_some _ (all r (in_has range r free.inside.low (let h = free.inside.high in omega arith))) (free.free r (omega arith) (omega arith))

pub mapped_by_room : (s : Slots) (range : PageRange) (room : Option ℕ) (none : Bool) → is_some room ≡ not none → IfSome room (IsFreeRun s range 1)
    → IfNone room ((r : ℕ) → ¬ IsFreeRun s range 1 r) → IsTrue none ↔ AllMapped s range
mapped_by_room s range None true e found free = (λ _ p h. true_or _ (λ f. free p (room_for_one s range p h (none_of _ f))), λ _. refl)
mapped_by_room s range None false e found free = absurd (two _ refl e)
mapped_by_room s range (Some r) true e found free = absurd (two _ refl (sym e))
mapped_by_room s range (Some r) false e found free = (λ f. absurd (two _ refl f), λ all. absurd (not_mapped s range r found all))
